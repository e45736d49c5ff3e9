-- A save and a load as the machine takes them once the guard is known to be running and idle: the numbers that are
-- left, or what is done.
--   saved_into, Saves     what the machine makes of a save, and that code has done it
--   loaded_from, Loads    the same of a load
-- Assumes nothing.
use Rattle.std.specs.Prelude.{◌≡◌, not, List, [], ◌∷◌, ℕ, ltb}
use Rattle.lists.specs.Checks.{decide}
use Rattle.lists.specs.Equal.{equal}
use Rattle.filesystem.specs.Image.{saved, image_length, parse}
use Rattle.rules.specs.Skeleton.{Config, at_front, image_after}
use Rattle.rules.specs.Rules.{Move, refuse, saving, loading, in_use_check, is_none, image_or}
use Rattle.machine.specs.Machine.{State, Result, apply, guard as digest_store}
use Rattle.guard_state.specs.State.{state_of}
use Rattle.outcomes.specs.declared.Outcome.{Outcome}
use Rattle.outcomes.specs.Values.{length_of, bytes_in, answer_in}

module _ (c : Config) (s : State (digest_store c)) where
  -- SPECIFICATION 8.2, into a buffer of n bytes
  unfoldable pub save_move : ℕ → Move
  save_move n = decide refuse (in_use_check c s.skeleton
      ∷ (34, ltb n (image_length (saved c.width) s.skeleton.tables.nodes)) ∷ []) saving

  unfoldable pub saved_into : ℕ → Result (digest_store c)
  saved_into n = apply c (digest_store c) s (save_move n)

  -- SPECIFICATION 8.3, of image i of the current version with digest d
  unfoldable pub load_move : (i d : List ℕ) → Move
  load_move i d =
      decide refuse (in_use_check c s.skeleton ∷ (74, not (equal (c.digest i) d))
      ∷ (84, is_none (parse (saved c.width) i)) ∷ [])
      (loading (image_or (parse (saved c.width) i)) d)

  unfoldable pub loaded_from : (i d : List ℕ) → Result (digest_store c)
  loaded_from i d = apply c (digest_store c) s (load_move i d)

-- What a load leaves: the outcome r and the memory m are those of x.
pub record Loads (c : Config) (x : Result (digest_store c)) (r : Outcome) (m : List ℕ) : Type 0 where
  pub state : state_of c m ≡ x.state
  pub answer : answer_in r [] [] ≡ x.outcome.answer
  pub count : length_of r ≡ bytes_in x.outcome.answer

-- What a save leaves: the outcome r, the memory m, the image buffer, before i and now i', and the digest, before d and
-- now d', are those of x.
pub record Saves (c : Config) (x : Result (digest_store c)) (r : Outcome) (m i i' d d' : List ℕ) : Type 0 where
  pub state : state_of c m ≡ x.state
  pub answer : answer_in r i' [] ≡ x.outcome.answer
  pub count : length_of r ≡ bytes_in x.outcome.answer
  pub image : i' ≡ image_after x.outcome.answer i
  pub digest : d' ≡ at_front x.outcome.digest d
