-- What the rules come to, by what a call by handle was judged to be.
-- Assumes nothing.
use Rattle.std.specs.Prelude.{◌≡◌, ℕ}
use Rattle.lists.specs.Checks.{Passed}
use Rattle.filesystem.specs.Tables.{Tables}
use Rattle.rules.specs.Calls.{Call}
use Rattle.rules.specs.Rules.{open_place, file_place, call_checks}

-- a call that passed, on the open file in place k and the node in place j
pub record PassedAt (t : Tables) (h : ℕ) (q : Call) (k j : ℕ) : Type 0 where
  pub checks : Passed (call_checks t q)
  pub open_place_lem : open_place t h ≡ k
  pub file_place_lem : file_place t h ≡ j
