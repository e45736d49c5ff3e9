-- What the guard's entries promise: each one's outcome, memory and buffers are those of the machine's step.
--   held m         the machine's state that a memory holds; `GuardState` is the type of such states
--   Kept m         the memory of a guard: a fresh one's, and what any entry leaves of it (specs/laws/KeptLaws.antt)
--   Ready s e      what a promise asks of the state s before the event e
--   StepsAs x      outcome and state are those of the machine's result x; EntersAs, PromiseAs: with the buffers, of a
--                  whole memory. Steps, Enters, Promise are those of the guard's step, ReaderEnters and ReaderPromise
--                  those of the read-only guard's
--   Own m m'       m' is m but for the guard's own bytes
--   FreshPromise, SavePromise, LoadPromise    of the other entries; Shown: as C sees them
-- Assumes nothing.
use Rattle.std.specs.Prelude.{◌≡◌, true, List, [], ℕ, ◌<◌, ◌≤◌, pos, length, drop}
use Rattle.lists.specs.Pick.{pick}
use Rattle.memory.specs.Layout.{memory_size}
use Rattle.filesystem.specs.Tables.{DIGEST_BYTES, PAGES, page_total}
use Rattle.filesystem.specs.Image.{current}
use Rattle.rules.specs.Skeleton.{Event, call, reply, save, load, EventBytes, Buffers, buffers_after, at_front}
use Rattle.rules.specs.Skeleton.{image_after}
use Rattle.rules.specs.Skeleton.{answer_length, request_length, Skeleton}
use Rattle.rules.specs.Rules.{is_idle}
use Rattle.configuration.specs.Delivered.{delivered}
use Rattle.machine.specs.Machine.{State, Result, step, fresh, guard as digest_store}
use Rattle.machine.specs.Consistent.{Consistent}
use Rattle.read_only.specs.ReadOnly.{takes, read_only_step}
use Rattle.guard_state.specs.State.{state_of}
use Rattle.refusals.specs.declared.Refusal.TheVariants.{ShortBuffer}
use Rattle.refusals.specs.declared.StopReason.{StopReason}
use Rattle.outcomes.specs.declared.Outcome.{Outcome}
use Rattle.outcomes.specs.declared.Outcome.TheVariants.{Done, Ask, Refused, Stopped}
use Rattle.outcomes.specs.Values.{answer_in, kind_of, value_of, length_of, bytes_in}
use Rattle.guard.specs.declared.GuardOutcome.{GuardOutcome}

abbrev pub GuardState : Type 0
GuardState = State (digest_store delivered)

abbrev pub GuardResult : Type 0
GuardResult = Result (digest_store delivered)

abbrev pub held : List ℕ → GuardState
held m = state_of delivered m

-- what the machine makes of an event
abbrev pub step_of : GuardState → Event → GuardResult
step_of s e = step delivered (digest_store delivered) s e

abbrev pub stepped : List ℕ → Event → GuardResult
stepped m e = step_of (held m) e

pub record Kept (m : List ℕ) : Type 0 where
  pub long : memory_size ≤ length m
  pub consistent : Consistent delivered (held m)

-- 5 of a guard that has stopped, then a number where a call is pending and one where none is; 0 stands for going on
unfoldable pub first_of : (busy quiet : ℕ) → Skeleton → ℕ
first_of busy quiet sk = pick sk.stopped 5 (pick (is_idle sk.pending) quiet busy)

-- Nothing is asked where one of the first numbers refuses the event (5; 114 or 61; then 34 of a call or a reply), and
-- nothing of a load; of a save that there are no more pages than the limit. A call or a reply that goes on asks that
-- the state is consistent.
unfoldable pub Ready : GuardState → Event → Type 0
Ready s (call b a q) = first_of 114 0 s.skeleton ≡ 0 → answer_length delivered ≤ a → request_length delivered ≤ q
    → Consistent delivered s
Ready s (reply b a q) = first_of 0 61 s.skeleton ≡ 0 → answer_length delivered ≤ a → request_length delivered ≤ q
    → Consistent delivered s
Ready s (save n) = first_of 114 0 s.skeleton ≡ 0 → page_total s.skeleton.tables.nodes ≤ PAGES
Ready s (load v i d) = Unit {0}

-- The outcome r and the state s' are those of the result x, with a and q where an answer's and a request's bytes stand.
-- How many they are is said as a number: bytes that fill a buffer do not say it.
pub record StepsAs (x : GuardResult) (r : Outcome) (s' : GuardState) (a q : List ℕ) : Type 0 where
  pub state : s' ≡ x.state
  pub answer : answer_in r a q ≡ x.outcome.answer
  pub count : length_of r ≡ bytes_in x.outcome.answer

abbrev pub Steps : GuardState → Event → Outcome → GuardState → (a q : List ℕ) → Type 0
Steps s e r s' a q = StepsAs (step_of s e) r s' a q

-- only the guard's own bytes change
pub record Own (m m' : List ℕ) : Type 0 where
  pub same_length : length m' ≡ length m
  pub behind : drop memory_size m' ≡ drop memory_size m

abbrev pub buffers : (answer request : List ℕ) → Buffers
buffers a q = record { answer = a; request = q }

-- Of a call or a reply that asks R, with the buffers b before and b' afterwards. On a memory that is no guard's own a
-- stop is for good too.
pub record EntersAs (R : Type 0) (x : GuardResult) (r : Outcome) (s' : GuardState) (b b' : Buffers) : Type 0 where
  pub steps : R → StepsAs x r s' b'.answer b'.request
  pub buffers_after_lem : R → b' ≡ buffers_after x.outcome.answer b
  pub stops : (e : StopReason) → r ≡ Stopped e → s'.skeleton.stopped ≡ true

pub record PromiseAs (m : List ℕ) (e : Event) (R : Type 0) (x : GuardResult) (r : Outcome) (m' : List ℕ)
    (b b' : Buffers) : Type 0 where
  pub bytes : EventBytes e
  pub own : Own m m'
  pub enters : memory_size ≤ length m → EntersAs R x r (held m') b b'
  -- a memory that is too short is refused
  pub short : length m < memory_size → (r ≡ Refused ShortBuffer) × (m' ≡ m) × (b' ≡ b)

-- the guard's
abbrev pub Enters : GuardState → Event → Outcome → GuardState → (b b' : Buffers) → Type 0
Enters s e r s' b b' = EntersAs (Ready s e) (step_of s e) r s' b b'

abbrev pub Promise : List ℕ → Event → Outcome → List ℕ → (b b' : Buffers) → Type 0
Promise m e r m' b b' = PromiseAs m e (Ready (held m) e) (stepped m e) r m' b b'

-- the read-only guard's; of a call that it does not take nothing is asked
abbrev pub ReaderReady : GuardState → Event → Type 0
ReaderReady s e = takes delivered e ≡ true → Ready s e

abbrev pub reader_step_of : GuardState → Event → GuardResult
reader_step_of s e = read_only_step delivered (digest_store delivered) s e

abbrev pub ReaderEnters : GuardState → Event → Outcome → GuardState → (b b' : Buffers) → Type 0
ReaderEnters s e r s' b b' = EntersAs (ReaderReady s e) (reader_step_of s e) r s' b b'

abbrev pub ReaderPromise : List ℕ → Event → Outcome → List ℕ → (b b' : Buffers) → Type 0
ReaderPromise m e r m' b b' = PromiseAs m e (ReaderReady (held m) e) (reader_step_of (held m) e) r m' b b'

-- Of a fresh guard.
pub record FreshPromise (m : List ℕ) (r : Outcome) (m' : List ℕ) : Type 0 where
  pub own : Own m m'
  pub done : memory_size ≤ length m → r ≡ Done 0 0
  pub state : memory_size ≤ length m → held m' ≡ fresh delivered (digest_store delivered)
  pub short : length m < memory_size → (r ≡ Refused ShortBuffer) × (m' ≡ m)

-- Of a save: the image buffer and the digest's 32 bytes, before i and d, afterwards i' and d'. A refused save leaves
-- both alone.
pub record Saving (s : GuardState) (r : Outcome) (s' : GuardState) (i i' d d' : List ℕ) : Type 0 where
  pub steps : Steps s (save (length i)) r s' i' []
  pub image : i' ≡ image_after (step_of s (save (length i))).outcome.answer i
  pub digest : d' ≡ at_front (step_of s (save (length i))).outcome.digest d

pub record SavePromise (m : List ℕ) (r : Outcome) (m' i i' d d' : List ℕ) : Type 0 where
  pub own : Own m m'
  pub room : length d ≡ DIGEST_BYTES
  pub saves : memory_size ≤ length m → Ready (held m) (save (length i)) → Saving (held m) r (held m') i i' d d'
  pub short : length m < memory_size → (r ≡ Refused ShortBuffer) × (m' ≡ m) × (i' ≡ i) × (d' ≡ d)

-- Of a load of image i, of the current version, with digest d.
pub record LoadPromise (m i d : List ℕ) (r : Outcome) (m' : List ℕ) : Type 0 where
  pub bytes : EventBytes (load current i d)
  pub own : Own m m'
  pub loads : memory_size ≤ length m → Steps (held m) (load current i d) r (held m') [] []
  pub short : length m < memory_size → (r ≡ Refused ShortBuffer) × (m' ≡ m)

-- What C sees of an outcome.
unfoldable pub shown_as : Outcome → GuardOutcome
shown_as o = record { kind = pos (kind_of o); number = value_of o; length = length_of o }

pub record Shown (P : Outcome → Type 0) (r : GuardOutcome) : Type 0 where
  pub outcome : Outcome
  pub shown : r ≡ shown_as outcome
  pub promised : P outcome
