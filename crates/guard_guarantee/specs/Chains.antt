-- Where code and theorem meet. The entries promise something of one event each (crate guard, specs/Promise.antt). Here
-- is what follows for a whole run, as types: a memory that was made fresh, then any entries in any order, whatever the
-- host replies; calls are handed to the guard's entry throughout, or throughout to the read-only guard's. The claims
-- speak of what C hands in, of what it gets back and finds in its buffers, and of the last memory; the history is made
-- of these too. Proofs stand in proofs/laws/ChainLaws.antt.
-- Assumes nothing.
use Rattle.std.specs.Prelude.{◌≡◌, ◌⊎◌, Bool, true, false, List, [], ◌∷◌, map, ℕ, zero, suc, ◌≤◌, ℤ, pos, negsuc, length, take}
use Rattle.lists.specs.All.{All}
use Rattle.lists.specs.Or.{Or}
use Rattle.digest.specs.Sha256.{sha256}
use Rattle.filesystem.specs.Image.{current}
use Rattle.rules.specs.Skeleton.{Event, call, reply, save, load, Answer, done, ask, refused, stopped, plain}
use Rattle.configuration.specs.Delivered.{delivered}
use Rattle.machine.specs.Machine.{State, image_of, fresh, guard as digest_store}
use Rattle.machine.specs.Tree.{tree, guard_of}
use Rattle.machine.specs.History.{Collision}
use Rattle.machine.specs.Seen.{Seen, events, answers, pages_seen, images_seen, LoadsSeen, HonestSeen}
use Rattle.machine.specs.Restart.{Restarts, pages_of_lives, images_of_lives, LoadsOfLives, HonestLives, Quiet, restarted}
use Rattle.read_only.specs.Lives.{Life as LifeSeen, outcomes_of, final_of, kept, tree_left, SavesAsLoaded}
use Rattle.memory.specs.Layout.{memory_size}
use Rattle.guard.specs.declared.GuardOutcome.{GuardOutcome}
use Rattle.guard.specs.Promise.{held, buffers, Promise, ReaderPromise, FreshPromise, SavePromise, LoadPromise, Shown}

-- What C reads: kind 0 is done, 1 a request, 2 refused, 3 stopped; so many bytes stand at the front of the answer or
-- the request buffer.
unfoldable pub read_as : (kind : ℤ) (number length : ℕ) (answer request : List ℕ) → Answer
read_as (pos zero) n l a q = done n (take l a)
read_as (pos (suc zero)) n l a q = ask (take l q)
read_as (pos (suc (suc zero))) n l a q = refused n
read_as (pos (suc (suc (suc k)))) n l a q = stopped n
read_as (negsuc k) n l a q = stopped n

unfoldable pub answer_read : GuardOutcome → (answer request : List ℕ) → Answer
answer_read r a q = read_as r.kind r.number r.length a q

-- an event whose answer comes without a digest
abbrev pub seen_as : Event → Answer → Seen
seen_as e a = record { event = e; outcome = plain a }

-- the digest's 32 bytes are read only after a save that is done
unfoldable pub digest_seen : Answer → List ℕ → List ℕ
digest_seen (done n b) d = d
digest_seen (ask q) d = []
digest_seen (refused n) d = []
digest_seen (stopped n) d = []

abbrev pub seen_saved : (buffer : ℕ) → Answer → (digest : List ℕ) → Seen
seen_saved n a d = record { event = save n; outcome = record { answer = a; digest = digest_seen a d } }

-- One entry: the memory before and afterwards, and what is seen. Each premise is the contract of an entry for C, with
-- its buffers before and afterwards:
-- the functions of src/lib.rt call the entries and promise these links.
pub data Link (m m' : List ℕ) : (read_only : Bool) → Seen → Type 0 where
  called : (s a q a' q' : List ℕ) (r : GuardOutcome)
      → Shown (λ o. Promise m (call s (length a) (length q)) o m' (buffers a q) (buffers a' q')) r
      → Link m m' false (seen_as (call s (length a) (length q)) (answer_read r a' q'))
  reader_called : (s a q a' q' : List ℕ) (r : GuardOutcome)
      → Shown (λ o. ReaderPromise m (call s (length a) (length q)) o m' (buffers a q) (buffers a' q')) r
      → Link m m' true (seen_as (call s (length a) (length q)) (answer_read r a' q'))
  replied : {b : Bool} (s a q a' q' : List ℕ) (r : GuardOutcome)
      → Shown (λ o. Promise m (reply s (length a) (length q)) o m' (buffers a q) (buffers a' q')) r
      → Link m m' b (seen_as (reply s (length a) (length q)) (answer_read r a' q'))
  saved : {b : Bool} (i i' d d' : List ℕ) (r : GuardOutcome) → Shown (λ o. SavePromise m o m' i i' d d') r
      → Link m m' b (seen_saved (length i) (answer_read r i' []) d')
  loaded : {b : Bool} (i d : List ℕ) (r : GuardOutcome) → Shown (λ o. LoadPromise m i d o m') r
      → Link m m' b (seen_as (load current i d) (answer_read r [] []))

-- One entry after the other, nobody else writing the memory meanwhile.
pub data Chain (b : Bool) : List ℕ → List Seen → List ℕ → Type 0 where
  end : {m : List ℕ} → Chain b m [] m
  next : {m m' m'' : List ℕ} {x : Seen} {xs : List Seen} → Link m m' b x → Chain b m' xs m'' → Chain b m (x ∷ xs) m''

-- a memory is lent and made fresh
pub record Begins (lent first : List ℕ) : Type 0 where
  pub outcome : GuardOutcome
  pub made : Shown (λ o. FreshPromise lent o first) outcome

-- What happens between two power-ups: a memory that is long enough is made fresh, a guard's or a read-only guard's, and
-- a chain leads from there to the last memory.
pub record Life : Type 0 where
  pub read_only : Bool
  pub lent : List ℕ
  pub long : memory_size ≤ length lent
  pub first : List ℕ
  pub made : Begins lent first
  pub seen : List Seen
  pub last : List ℕ
  pub chain : Chain read_only first seen last

-- what is seen of it; and of that what was taken
abbrev pub life_seen : Life → LifeSeen
life_seen l = record { read_only = l.read_only; seen = l.seen }

abbrev pub kept_seen : Life → List Seen
kept_seen l = kept delivered (life_seen l)

abbrev pub Tree : Type 0
Tree = State (tree delivered)

abbrev pub fresh_tree : Tree
fresh_tree = fresh delivered (tree delivered)

-- what was seen is what the reference tree answers, and the last memory holds the tree's state, digests for bytes
pub record Agrees (l : Life) : Type 0 where
  pub same : answers l.seen ≡ outcomes_of delivered l.read_only (tree delivered) fresh_tree (events l.seen)
  pub left : held l.last
      ≡ guard_of delivered (final_of delivered l.read_only (tree delivered) fresh_tree (events l.seen))

-- First half, whatever the host replies: each load that was done carried a digest that an earlier save gave.
unfoldable pub FirstHalf : Type 0
FirstHalf = (l : Life) → LoadsSeen [] (kept_seen l)
    → Or (Collision sha256 (pages_seen delivered fresh_tree (kept_seen l)) ⊎ Collision sha256 (images_seen (kept_seen l)))
    (Agrees l)

-- Second half, under an honest host: nothing stops, and no collision is spoken of.
unfoldable pub SecondHalf : Type 0
SecondHalf = (l : Life) → HonestSeen delivered fresh_tree (kept_seen l) → Quiet l.seen × Agrees l

-- The same over several lives (SPECIFICATION 10.9, 14.5), each but the first beginning with a load that is done (crate
-- machine, specs/Restart.antt).
abbrev pub all_seen : List Life → List (List Seen)
all_seen ls = map kept_seen ls

unfoldable pub AgreeLives : Tree → List Life → Type 0
AgreeLives t [] = Unit {0}
AgreeLives t (l ∷ ls) =
    (answers l.seen ≡ outcomes_of delivered l.read_only (tree delivered) (restarted delivered t) (events l.seen))
    × (held l.last ≡ guard_of delivered (tree_left delivered t (life_seen l)))
    × AgreeLives (tree_left delivered t (life_seen l)) ls

unfoldable pub FirstHalfOfLives : Type 0
FirstHalfOfLives =
    (ls : List Life) → Restarts (all_seen ls) → LoadsOfLives [] (all_seen ls)
    → Or (Collision sha256 (pages_of_lives delivered fresh_tree (all_seen ls))
    ⊎ Collision sha256 (images_of_lives (all_seen ls))) (AgreeLives fresh_tree ls)

unfoldable pub SecondHalfOfLives : Type 0
SecondHalfOfLives = (ls : List Life) → Restarts (all_seen ls) → HonestLives delivered fresh_tree (all_seen ls)
    → All (λ (l : Life). Quiet l.seen) ls × AgreeLives fresh_tree ls

-- The read-only claim (SPECIFICATION 14.4): each save that a read-only guard's life saw done gave the image that the
-- last done load was handed, a fresh guard's where there was none.
unfoldable pub ReadOnlyClaim : Type 0
ReadOnlyClaim = (l : Life) → l.read_only ≡ true
    → SavesAsLoaded delivered (image_of delivered (digest_store delivered) (fresh delivered (digest_store delivered)))
    l.seen
