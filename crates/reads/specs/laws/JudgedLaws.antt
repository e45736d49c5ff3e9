-- A read, check after check.
-- Assumes nothing.
use Rattle.std.specs.Prelude.{◌≡◌, true, false, ℕ}
use Rattle.std.proofs.Math.Path.{ap₂}
use Rattle.std.proofs.Common.{sym, ◌∙◌}
use mathlib.Core.List.{[]}
use Rattle.lists.specs.Checks.{check_last, check_stops}
use Rattle.filesystem.specs.Tables.{Tables, find_id, find_handle}
use Rattle.rules.specs.Calls.{read}
use Rattle.rules.specs.Rules.{call_checks}
use Rattle.handle_calls.specs.Judged.{at_file, handled_for, lacks_right}
use Rattle.std.specs.Prelude.{Err}
use Rattle.handle_calls.specs.laws.HandledLaws.{allowed}

-- the open file is in place k
module _ (t : Tables) (h k : ℕ) (found : k ≡ find_handle t.opens h) where
  pub read-refused : (n : ℕ) → lacks_right t.opens 1 k ≡ true → handled_for t h (read h n) ≡ Err 9
  unfolding handled_for call_checks lacks_right
  read-refused n e = check_stops Err 9 _ [] _ (allowed t h k found 1 ∙ e)

  pub read_handled : (n node : ℕ) → node ≡ find_id t.nodes h → lacks_right t.opens 1 k ≡ false
      → handled_for t h (read h n) ≡ at_file k node
  unfolding handled_for call_checks lacks_right
  read_handled n node q e = check_last Err 9 _ _ (allowed t h k found 1 ∙ e)
      ∙ ap₂ (λ (i j : ℕ). at_file i j) (sym found) (sym q)
