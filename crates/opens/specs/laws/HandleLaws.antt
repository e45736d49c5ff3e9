-- A close and a seek, check after check.
-- Assumes nothing.
use Rattle.std.specs.Prelude.{◌≡◌, ℕ, ◌≤◌, ◌<◌, length}
use Rattle.std.proofs.Math.Path.{ap, ap₂}
use Rattle.std.proofs.Common.{sym, ◌∙◌}
use mathlib.Core.List.{[]}
use borrow.Author.Tests.{le-leb, lt-leb}
use Rattle.lists.specs.Checks.{check_last, check_passes, check_stops}
use Rattle.filesystem.specs.Tables.{Tables, find_id, find_handle}
use Rattle.rules.specs.Calls.{close, seek}
use Rattle.rules.specs.Rules.{call_checks}
use Rattle.handle_calls.specs.Judged.{at_file, handled_for, end_checked}
use Rattle.std.specs.Prelude.{Err}
use Rattle.handle_calls.specs.laws.HandledLaws.{there}

-- the open file is in place k
module _ (t : Tables) (h k : ℕ) (found : k ≡ find_handle t.opens h) where
  pub close_refused : length t.opens ≤ k → handled_for t h (close h) ≡ Err 9
  unfolding handled_for call_checks
  close_refused l = check_stops Err 9 _ [] _ (there t h k found ∙ le-leb _ _ l)

  pub close_handled : (node : ℕ) → node ≡ find_id t.nodes h → k < length t.opens
      → handled_for t h (close h) ≡ at_file k node
  unfolding handled_for call_checks
  close_handled node e l = check_last Err 9 _ _ (there t h k found ∙ lt-leb _ _ l)
      ∙ ap₂ (λ (i j : ℕ). at_file i j) (sym found) (sym e)

  pub seek_refused : (p : ℕ) → length t.opens ≤ k → handled_for t h (seek h p) ≡ Err 9
  unfolding handled_for call_checks
  seek_refused p l = check_stops Err 9 _ _ _ (there t h k found ∙ le-leb _ _ l)

  pub seek_handled : (p : ℕ) → k < length t.opens → handled_for t h (seek h p) ≡ end_checked t.nodes h k p
  unfolding handled_for call_checks end_checked
  seek_handled p l = check_passes Err 9 _ _ _ (there t h k found ∙ lt-leb _ _ l)
      ∙ ap (λ j. end_checked t.nodes h j p) (sym found)
