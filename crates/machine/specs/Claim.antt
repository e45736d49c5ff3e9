-- The claim (SPECIFICATION 10), both halves, as types: about a whole list of events. Their proofs stand elsewhere.
-- Assumes nothing.
use Rattle.std.specs.Prelude.{◌≡◌, ◌⊎◌, Bool, true, false, ℕ, ◌≤◌, length}
use mathlib.Core.List.{List, [], ◌∷◌, ◌++◌, map, Memᴰ}
use Rattle.lists.specs.All.{All, Bytes}
use Rattle.lists.specs.Or.{Or}
use Rattle.filesystem.specs.Tables.{DIGEST_BYTES}
use Rattle.filesystem.specs.Image.{saved, flatten, print}
use Rattle.rules.specs.Skeleton.{Config, Event, call, reply, save, load, Answer, done, ask, refused, stopped, Outcome, EventBytes}
use Rattle.machine.specs.Machine.{State, step, fresh, outcomes, final, files, guard}
use Rattle.machine.specs.Tree.{Saved, digests_of, tree, guard_of}
use Rattle.machine.specs.History.{pages, images, Collision}
use Rattle.machine.specs.Honest.{Right}

-- what is assumed of the digest: 32 bytes, whatever it digests; and of the width: one byte at least
pub record Fit (c : Config) : Type 0 where
  pub long : (s : List ℕ) → length (c.digest s) ≡ DIGEST_BYTES
  pub bytes : (s : List ℕ) → Bytes (c.digest s)
  pub wide : 1 ≤ c.width

unfoldable pub is_done : Answer → Type 0
is_done (done n b) = Unit {0}
is_done (ask q) = ⊥
is_done (refused n) = ⊥
is_done (stopped n) = ⊥

unfoldable pub is_stop : Answer → Bool
is_stop (done n b) = false
is_stop (ask q) = false
is_stop (refused n) = false
is_stop (stopped n) = true

abbrev pub NoStop : Outcome → Type 0
NoStop o = is_stop o.answer ≡ false

-- the digest that a save gave; a refused save gives none
unfoldable pub given_if : Answer → List ℕ → List (List ℕ)
given_if (done n b) d = d ∷ []
given_if (ask q) d = []
given_if (refused n) d = []
given_if (stopped n) d = []

unfoldable pub given : Event → Outcome → List (List ℕ)
given (call s a q) o = []
given (reply r a q) o = []
given (save n) o = given_if o.answer o.digest
given (load v i d) o = []

-- a load that was done carried one of these digests
unfoldable pub LoadOf : List (List ℕ) → Event → Outcome → Type 0
LoadOf ds (call s a q) o = Unit {0}
LoadOf ds (reply r a q) o = Unit {0}
LoadOf ds (save n) o = Unit {0}
LoadOf ds (load v i d) o = is_done o.answer → Memᴰ d ds

module _ (c : Config) where
  -- each load that was done carried a digest that an earlier save of the list gave, by the guard's outcomes (SPECIFICATION 10.4, 10.8)
  unfoldable pub LoadsOfSaves : List (List ℕ) → State (guard c) → List Event → Type 0
  LoadsOfSaves ds g [] = Unit {0}
  LoadsOfSaves ds g (e ∷ es) =
      LoadOf ds e (step c (guard c) g e).outcome
      × LoadsOfSaves (given e (step c (guard c) g e).outcome ++ ds) (step c (guard c) g e).state es

  -- every outcome is the tree's, and so is the final state, digests for bytes (SPECIFICATION 10.2)
  unfoldable pub Agrees : List Event → Type 0
  Agrees es =
      (outcomes c (guard c) (fresh c (guard c)) es ≡ outcomes c (tree c) (fresh c (tree c)) es)
      × (final c (guard c) (fresh c (guard c)) es ≡ guard_of c (final c (tree c) (fresh c (tree c)) es))

  -- First half: whatever the host replies.
  unfoldable pub FirstHalf : Type 0
  FirstHalf =
      (es : List Event) → All EventBytes es → LoadsOfSaves [] (fresh c (guard c)) es
      → Or
      (Collision c.digest (pages c (guard c) (fresh c (guard c)) es) ⊎ Collision c.digest (images c (guard c) (fresh c (guard c)) es))
      (Agrees es)

  -- a load of the latest save, the tree being unchanged since (SPECIFICATION 10.7)
  pub record OfLatest (t : State (tree c)) (i d : List ℕ) : Type 0 where
    pub latest : Saved
    pub earlier : List Saved
    pub saves : t.saves ≡ latest ∷ earlier
    pub image : i ≡ print (saved c.width)
        (latest.files.nodes, flatten (map (digests_of c) latest.files.contents))
    pub digest : d ≡ latest.digest
    pub unchanged : files c (tree c) t ≡ latest.files

  unfoldable pub HonestAt : State (guard c) → State (tree c) → Event → Type 0
  HonestAt g t (call s a q) = Unit {0}
  HonestAt g t (reply r a q) = Right c t r
  HonestAt g t (save n) = Unit {0}
  HonestAt g t (load v i d) = is_done (step c (guard c) g (load v i d)).outcome.answer → OfLatest t i d

  -- the host is honest throughout, and each load that was done is of the latest save, the tree unchanged since
  unfoldable pub Honest : State (guard c) → State (tree c) → List Event → Type 0
  Honest g t [] = Unit {0}
  Honest g t (e ∷ es) = HonestAt g t e × Honest (step c (guard c) g e).state (step c (tree c) t e).state es

  -- Second half: no stop under an honest host, and agreement without the collision alternative.
  unfoldable pub SecondHalf : Type 0
  SecondHalf =
      (es : List Event) → All EventBytes es → Honest (fresh c (guard c)) (fresh c (tree c)) es
      → All NoStop (outcomes c (guard c) (fresh c (guard c)) es) × Agrees es
