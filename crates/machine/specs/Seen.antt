-- The claim's words over what the caller sees: what was handed in and what came back, and no state of the guard.
-- Assumes nothing.
use Rattle.std.specs.Prelude.{List, [], ◌∷◌, ◌++◌, map, ℕ, eqb, length}
use Rattle.lists.specs.Pick.{pick}
use Rattle.filesystem.specs.Tables.{PAGE_BYTES}
use Rattle.rules.specs.Requests.{is_fetch}
use Rattle.rules.specs.Skeleton.{Config, Event, call, reply, save, load, Answer, done, ask, refused, stopped, Outcome}
use Rattle.machine.specs.Machine.{Store, State, step}
use Rattle.machine.specs.Tree.{tree}
use Rattle.machine.specs.History.{page_out, image_in, image_out}
use Rattle.machine.specs.Honest.{Right}
use Rattle.machine.specs.Claim.{is_done, given, LoadOf, OfLatest}

-- one event, and what came back
pub record Seen : Type 0 where
  pub event : Event
  pub outcome : Outcome

abbrev pub events : List Seen → List Event
events xs = map (λ x. x.event) xs

abbrev pub answers : List Seen → List Outcome
answers xs = map (λ x. x.outcome) xs

-- what a run shows
unfoldable pub shown : (c : Config) (S : Store) → State S → List Event → List Seen
shown c S s [] = []
shown c S s (e ∷ es) = record { event = e; outcome = (step c S s e).outcome } ∷ shown c S (step c S s e).state es

-- The history. The request that stands after an event: a refusal leaves it as it was, but for 28 to a reply, where the disk is full.
unfoldable pub left_by : (request : List ℕ) → Event → (number : ℕ) → List ℕ
left_by q (call s a b) n = q
left_by q (reply r a b) n = pick (eqb n 28) [] q
left_by q (save m) n = q
left_by q (load v i d) n = q

unfoldable pub standing : (request : List ℕ) → Event → Answer → List ℕ
standing q e (done n b) = []
standing q e (ask r) = r
standing q e (refused n) = left_by q e n
standing q e (stopped n) = []

-- the reply to a fetch, if it is as long as a page
unfoldable pub page_replied : (request : List ℕ) → Event → List (List ℕ)
page_replied q (call s a b) = []
page_replied q (reply r a b) = pick (is_fetch q) (pick (eqb (length r) PAGE_BYTES) (r ∷ []) []) []
page_replied q (save n) = []
page_replied q (load v i d) = []

-- The pages of the history (SPECIFICATION 10.3), where this request stands at first. The bytes of a cut do not tell a growth from a shrinking: there
-- the history follows the tree's run.
module _ (c : Config) where
  unfoldable pub pages_after : (request : List ℕ) → State (tree c) → List Seen → List (List ℕ)
  pages_after q t [] = []
  pages_after q t (x ∷ xs) =
      (page_replied q x.event ++ page_out (step c (tree c) t x.event).state.skeleton x.outcome.answer)
      ++ pages_after (standing q x.event x.outcome.answer) (step c (tree c) t x.event).state xs

  -- from this tree on
  abbrev pub pages_seen : State (tree c) → List Seen → List (List ℕ)
  pages_seen t xs = pages_after [] t xs

-- and its images
unfoldable pub images_seen : List Seen → List (List ℕ)
images_seen [] = []
images_seen (x ∷ xs) = (image_in x.event ++ image_out x.event x.outcome) ++ images_seen xs

-- the digests that saves gave, after those of before
unfoldable pub given_after : List (List ℕ) → List Seen → List (List ℕ)
given_after ds [] = ds
given_after ds (x ∷ xs) = given_after (given x.event x.outcome ++ ds) xs

-- each load that was done carried one of these digests, or one that a save gave meanwhile
unfoldable pub LoadsSeen : List (List ℕ) → List Seen → Type 0
LoadsSeen ds [] = Unit {0}
LoadsSeen ds (x ∷ xs) = LoadOf ds x.event x.outcome × LoadsSeen (given x.event x.outcome ++ ds) xs

module _ (c : Config) where
  unfoldable pub HonestIn : State (tree c) → Event → Outcome → Type 0
  HonestIn t (call s a q) o = Unit {0}
  HonestIn t (reply r a q) o = Right c t r
  HonestIn t (save n) o = Unit {0}
  HonestIn t (load v i d) o = is_done o.answer → OfLatest c t i d

  -- the host is honest throughout, and each load that was done is of the latest save, the tree unchanged since
  unfoldable pub HonestSeen : State (tree c) → List Seen → Type 0
  HonestSeen t [] = Unit {0}
  HonestSeen t (x ∷ xs) = HonestIn t x.event x.outcome × HonestSeen (step c (tree c) t x.event).state xs
