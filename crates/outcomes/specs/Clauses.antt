-- What the functions that take a call or a reply promise: the outcome, the memory and the buffers are those of the
-- machine's result, for the delivered digest and width of ids, on a consistent state.
--   Rightly m P              P of that configuration and of the state that the memory has at the entry
--   Begins m q x r           call x is begun, its request goes to q
--   BeginsMap m q x r        the same of a call on maps
--   Finishes m x r           call x is done at once, no buffer is lent
--   Accepts m p r            the reply p is taken by the pending call, no buffer is lent
--   AcceptsAsking m p q r    the same, and a next request may go to q
--   AcceptsInto m p a r      the same, and its bytes may go to the answer buffer a
--   AcceptsBoth m p a q r    the same with both buffers
--   AcceptsPending           the same where any call is pending
-- Assumes nothing.
use Rattle.std.specs.Prelude.{◌≡◌, List, ℕ, ◌≤◌, length}
use Rattle.numbers.specs.Slices.{Lent, KeepsLength}
use Rattle.digest.specs.Sha256.{sha256}
use Rattle.filesystem.specs.Tables.{ID_BYTES}
use Rattle.rules.specs.Calls.{Call}
use Rattle.rules.specs.Skeleton.{Config, answer_length}
use Rattle.machine.specs.Machine.{State, guard as digest_store}
use Rattle.machine.specs.Consistent.{Consistent}
use Rattle.guard_state.specs.Calls.{LAST}
use Rattle.guard_state.specs.State.{numbers_in, state_of}
use Rattle.outcomes.specs.declared.Outcome.{Outcome}
use Rattle.outcomes.specs.Sent.{Sends, Fills, Leaves}
use Rattle.outcomes.specs.Started.{started_by, map_started}
use Rattle.outcomes.specs.Answered.{answered}

abbrev pub Rightly : Lent → ((c : Config) → State (digest_store c) → Type 0) → Type 0
Rightly m P = (c : Config) → c.digest ≡ sha256 → c.width ≡ ID_BYTES → Consistent c (state_of c m.entry.now)
    → P c (state_of c m.entry.now)

abbrev pub Begins : (m q : Lent) → Call → Outcome → Type 0
Begins m q x r =
    Rightly m (λ c s. Sends c (started_by c s x) r m.exit.now q.entry.now q.exit.now) × KeepsLength m

abbrev pub BeginsMap : (m q : Lent) → Call → Outcome → Type 0
BeginsMap m q x r =
    Rightly m (λ c s. Sends c (map_started c s x) r m.exit.now q.entry.now q.exit.now) × KeepsLength m

abbrev pub Finishes : Lent → Call → Outcome → Type 0
Finishes m x r = Rightly m (λ c s. (q : List ℕ) → Sends c (started_by c s x) r m.exit.now q q) × KeepsLength m

abbrev pub Accepts : (m : Lent) → (p : List ℕ) → Outcome → Type 0
Accepts m p r =
    Rightly m (λ c s. (q : List ℕ) → Sends c (answered c s p) r m.exit.now q q) × KeepsLength m

abbrev pub AcceptsAsking : (m : Lent) → (p : List ℕ) → (q : Lent) → Outcome → Type 0
AcceptsAsking m p q r =
    Rightly m (λ c s. Sends c (answered c s p) r m.exit.now q.entry.now q.exit.now)
    × KeepsLength m

abbrev pub AcceptsInto : (m : Lent) → (p : List ℕ) → (a : Lent) → Outcome → Type 0
AcceptsInto m p a r =
    Rightly m (λ c s. answer_length c ≤ length a.entry.now
    → Fills c (answered c s p) r m.exit.now a.entry.now a.exit.now)
    × KeepsLength m

abbrev pub AcceptsBoth : (m : Lent) → (p : List ℕ) → (a q : Lent) → Outcome → Type 0
AcceptsBoth m p a q r =
    Rightly m (λ c s. answer_length c ≤ length a.entry.now
    → Leaves c (answered c s p) r m.exit.now a.entry.now a.exit.now q.entry.now
    q.exit.now)
    × KeepsLength m

abbrev pub AcceptsPending : (m : Lent) → (p : List ℕ) → (a q : Lent) → Outcome → Type 0
AcceptsPending m p a q r =
    Rightly m (λ c s. 1 ≤ (numbers_in m.entry.now).call → (numbers_in m.entry.now).call ≤ LAST
    → answer_length c ≤ length a.entry.now
    → Leaves c (answered c s p) r m.exit.now a.entry.now a.exit.now q.entry.now
    q.exit.now)
    × KeepsLength m
