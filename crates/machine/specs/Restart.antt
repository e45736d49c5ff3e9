-- The claim after power-up (SPECIFICATION 10.9), as types. A life is what was handed in and what came back between two power-ups; its guard is fresh
-- at first. A client that starts again loads what it saved in an earlier life, so each life but the first begins with a load that is done; loads that
-- are refused may come before it. All lives are measured by one tree: at power-up it forgets its open files, its maps, the pending call and a stop, and keeps
-- nodes, bytes and saves. Proofs stand elsewhere.
-- Assumes nothing.
use Rattle.std.specs.Prelude.{◌≡◌, ◌⊎◌, false, List, [], ◌∷◌, ◌++◌, ℕ}
use Rattle.lists.specs.All.{All}
use Rattle.lists.specs.Or.{Or}
use Rattle.rules.specs.Requests.{idle}
use Rattle.rules.specs.Skeleton.{Config, Event, call, reply, save, load, Outcome, EventBytes}
use Rattle.machine.specs.Machine.{Files, Store, State, files, fresh, outcomes, final, guard}
use Rattle.machine.specs.Tree.{tree, guard_of}
use Rattle.machine.specs.History.{Collision}
use Rattle.machine.specs.Claim.{is_done, NoStop}
use Rattle.machine.specs.Seen.{Seen, events, answers, pages_seen, images_seen, given_after, LoadsSeen, HonestSeen}

-- just switched on, with these files
abbrev pub switched_on : (S : Store) → Files S.Content → S.Saves → State S
switched_on S f v = record {
  skeleton = record { tables = record { nodes = f.nodes; opens = [] }; pending = idle; stopped = false; maps = [] };
  contents = f.contents;
  progress = S.nothing;
  saves = v;
}

-- loads, up to one that is done
unfoldable pub BeginsWith : Event → Outcome → Type 0 → Type 0
BeginsWith (call s a q) o Next = ⊥
BeginsWith (reply r a q) o Next = ⊥
BeginsWith (save n) o Next = ⊥
BeginsWith (load v i d) o Next = is_done o.answer ⊎ Next

unfoldable pub Begins : List Seen → Type 0
Begins [] = ⊥
Begins (x ∷ xs) = BeginsWith x.event x.outcome (Begins xs)

unfoldable pub Restarts : List (List Seen) → Type 0
Restarts [] = Unit {0}
Restarts (first ∷ later) = All Begins later

-- the images of all lives
unfoldable pub images_of_lives : List (List Seen) → List (List ℕ)
images_of_lives [] = []
images_of_lives (xs ∷ ls) = images_seen xs ++ images_of_lives ls

-- each load that was done carried a digest that an earlier save gave, in its own life or an earlier one
unfoldable pub LoadsOfLives : List (List ℕ) → List (List Seen) → Type 0
LoadsOfLives ds [] = Unit {0}
LoadsOfLives ds (xs ∷ ls) = LoadsSeen ds xs × LoadsOfLives (given_after ds xs) ls

abbrev pub BytesSeen : List Seen → Type 0
BytesSeen xs = All EventBytes (events xs)

abbrev pub Quiet : List Seen → Type 0
Quiet xs = All NoStop (answers xs)

module _ (c : Config) where
  -- what came back is what a fresh guard gives
  abbrev pub OfFresh : List Seen → Type 0
  OfFresh xs = answers xs ≡ outcomes c (guard c) (fresh c (guard c)) (events xs)

  -- the tree at power-up, and the one that a life leaves
  unfoldable pub restarted : State (tree c) → State (tree c)
  restarted t = switched_on (tree c) (files c (tree c) t) t.saves

  abbrev pub tree_after : State (tree c) → List Seen → State (tree c)
  tree_after t xs = final c (tree c) (restarted t) (events xs)

  -- the pages of all lives, by one tree
  unfoldable pub pages_of_lives : State (tree c) → List (List Seen) → List (List ℕ)
  pages_of_lives t [] = []
  pages_of_lives t (xs ∷ ls) = pages_seen c (restarted t) xs ++ pages_of_lives (tree_after t xs) ls

  -- in each life every outcome is the tree's, and so is the final state, digests for bytes
  unfoldable pub AgreeLives : State (tree c) → List (List Seen) → Type 0
  AgreeLives t [] = Unit {0}
  AgreeLives t (xs ∷ ls) =
      (answers xs ≡ outcomes c (tree c) (restarted t) (events xs))
      × (final c (guard c) (fresh c (guard c)) (events xs) ≡ guard_of c (tree_after t xs))
      × AgreeLives (tree_after t xs) ls

  -- First half: whatever the host replies.
  unfoldable pub FirstHalfOfLives : Type 0
  FirstHalfOfLives =
      (lives : List (List Seen)) → All OfFresh lives → All BytesSeen lives → Restarts lives → LoadsOfLives [] lives
      → Or (Collision c.digest (pages_of_lives (fresh c (tree c)) lives) ⊎ Collision c.digest (images_of_lives lives)) (AgreeLives (fresh c (tree c)) lives)

  -- the host is honest throughout, and each load that was done is of the latest save of all lives, the tree unchanged since
  unfoldable pub HonestLives : State (tree c) → List (List Seen) → Type 0
  HonestLives t [] = Unit {0}
  HonestLives t (xs ∷ ls) = HonestSeen c (restarted t) xs × HonestLives (tree_after t xs) ls

  -- Second half: no stop under an honest host, and agreement without the collision alternative.
  unfoldable pub SecondHalfOfLives : Type 0
  SecondHalfOfLives =
      (lives : List (List Seen)) → All OfFresh lives → All BytesSeen lives → Restarts lives → HonestLives (fresh c (tree c)) lives
      → All Quiet lives × AgreeLives (fresh c (tree c)) lives
