-- Both halves of the claim where guards and read-only guards take turns (SPECIFICATION 14.5), as types: the claim after
-- power-up (crate machine, specs/Restart.antt) over lives of either kind, all measured by one tree. What a read-only
-- guard loads was saved in an earlier life. A call that is refused 30 changes nothing and brings no byte to the
-- history, so bytes, loads, an honest host and the history are asked of what was taken alone; the agreement is of every
-- outcome.
-- Assumes nothing.
use Rattle.std.specs.Prelude.{◌≡◌, ◌⊎◌, Bool, List, [], ◌∷◌, map, ℕ}
use Rattle.lists.specs.Pick.{pick}
use Rattle.lists.specs.All.{All}
use Rattle.lists.specs.Or.{Or}
use Rattle.rules.specs.Skeleton.{Config, Event, Outcome}
use Rattle.machine.specs.Machine.{Store, State, Result, step, fresh, outcomes, final, guard}
use Rattle.machine.specs.Tree.{tree, guard_of}
use Rattle.machine.specs.History.{Collision}
use Rattle.machine.specs.Seen.{Seen, events, answers}
use Rattle.machine.specs.Restart.{BytesSeen, Quiet, Restarts, restarted, pages_of_lives, images_of_lives, LoadsOfLives}
use Rattle.machine.specs.Restart.{HonestLives}
use Rattle.read_only.specs.ReadOnly.{takes, read_only_step, read_only_outcomes, read_only_final}
use Rattle.read_only.specs.Claim.{last_loaded, Gives}

-- what was handed in and what came back between two power-ups, and whether the guard was a read-only one
pub record Life : Type 0 where
  pub read_only : Bool
  pub seen : List Seen

-- each save that was done gave the image that the last done load was handed, this one at first (SPECIFICATION 14.4)
unfoldable pub SavesAsLoaded : (c : Config) → List ℕ → List Seen → Type 0
SavesAsLoaded c image [] = Unit {0}
SavesAsLoaded c image (x ∷ xs) =
    Gives c image x.event x.outcome × SavesAsLoaded c (last_loaded image x.event x.outcome) xs

module _ (c : Config) where
  -- a step and a run of either kind
  abbrev pub step_as : Bool → (S : Store) → State S → Event → Result S
  step_as b S s e = pick b (read_only_step c S s e) (step c S s e)

  abbrev pub outcomes_of : Bool → (S : Store) → State S → List Event → List Outcome
  outcomes_of b S s es = pick b (read_only_outcomes c S s es) (outcomes c S s es)

  abbrev pub final_of : Bool → (S : Store) → State S → List Event → State S
  final_of b S s es = pick b (read_only_final c S s es) (final c S s es)

  -- what was taken
  unfoldable pub taken_seen : List Seen → List Seen
  taken_seen [] = []
  taken_seen (x ∷ xs) = pick (takes c x.event) (x ∷ taken_seen xs) (taken_seen xs)

  abbrev pub kept : Life → List Seen
  kept l = pick l.read_only (taken_seen l.seen) l.seen

  abbrev pub all_kept : List Life → List (List Seen)
  all_kept ls = map kept ls

  -- what came back is what a fresh guard of its kind gives
  abbrev pub OfFresh : Life → Type 0
  OfFresh l = answers l.seen ≡ outcomes_of l.read_only (guard c) (fresh c (guard c)) (events l.seen)

  -- the tree that a life leaves
  abbrev pub tree_left : State (tree c) → Life → State (tree c)
  tree_left t l = final_of l.read_only (tree c) (restarted c t) (events l.seen)

  -- in each life every outcome is the tree's, and so is the final state, digests for bytes
  unfoldable pub AgreeLives : State (tree c) → List Life → Type 0
  AgreeLives t [] = Unit {0}
  AgreeLives t (l ∷ ls) =
      (answers l.seen ≡ outcomes_of l.read_only (tree c) (restarted c t) (events l.seen))
      × (final_of l.read_only (guard c) (fresh c (guard c)) (events l.seen) ≡ guard_of c (tree_left t l))
      × AgreeLives (tree_left t l) ls

  -- First half: whatever the host replies.
  unfoldable pub FirstHalfOfLives : Type 0
  FirstHalfOfLives =
      (ls : List Life) → All OfFresh ls → All BytesSeen (all_kept ls) → Restarts (all_kept ls)
      → LoadsOfLives [] (all_kept ls)
      → Or (Collision c.digest (pages_of_lives c (fresh c (tree c)) (all_kept ls))
      ⊎ Collision c.digest (images_of_lives (all_kept ls)))
      (AgreeLives (fresh c (tree c)) ls)

  -- Second half: no stop under an honest host, and agreement without the collision alternative.
  unfoldable pub SecondHalfOfLives : Type 0
  SecondHalfOfLives =
      (ls : List Life) → All OfFresh ls → All BytesSeen (all_kept ls) → Restarts (all_kept ls)
      → HonestLives c (fresh c (tree c)) (all_kept ls)
      → All (λ (l : Life). Quiet l.seen) ls × AgreeLives (fresh c (tree c)) ls
