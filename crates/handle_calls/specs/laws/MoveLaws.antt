-- Laws of specs/Passed.antt.
-- Assumes nothing.
use Rattle.std.proofs.Math.Path.{◌≡◌, ap, sym}
use Rattle.std.proofs.Common.{◌∙◌, arith}
use Rattle.std.specs.Prelude.{ℕ, Ok, Err}
use Rattle.lists.specs.Checks.{decide, decide_ind, decide-map}
use Rattle.filesystem.specs.Tables.{Tables}
use Rattle.rules.specs.Calls.{Call}
use Rattle.rules.specs.Rules.{Move, refuse, call_checks}
use Rattle.handle_calls.specs.declared.Handled.{Handled}
use Rattle.refusals.specs.Numbers.{Judged}
use Rattle.handle_calls.specs.Judged.{at_file, handled_for}
use Rattle.handle_calls.specs.laws.HandledLaws.{opened_of, node_of}
use Rattle.handle_calls.specs.Passed.{PassedAt}

unfoldable move_of : Move → Judged Handled → Move
move_of x (Err n) = refuse n
move_of x (Ok p) = x

module _ (t : Tables) (h : ℕ) (q : Call) (r : Judged Handled) (e : r ≡ handled_for t h q) where
  move-known : (x : Move) → decide refuse (call_checks t q) x ≡ move_of x r
  unfolding handled_for move_of
  move-known x = sym (decide-map Err (move_of x) (call_checks t q) _) ∙ ap (move_of x) (sym e)

  pub move_refused : (x : Move) (n : ℕ) → r ≡ Err n → decide refuse (call_checks t q) x ≡ refuse n
  unfolding move_of
  move_refused x n f = move-known x ∙ ap (move_of x) f

  pub move_passed : (x : Move) (k j : ℕ) → r ≡ at_file k j → decide refuse (call_checks t q) x ≡ x
  unfolding move_of
  move_passed x k j f = move-known x ∙ ap (move_of x) f

  pub passed_at : (k j : ℕ) → r ≡ at_file k j → PassedAt t h q k j
  unfolding handled_for
  passed_at k j f =
      decide_ind Err (λ y. y ≡ at_file k j → PassedAt t h q k j) (call_checks t q) _
      (λ n g z. absurd (let y : ◌≡◌ {A = ℕ} 0 1 = cc in omega arith))
      (λ p z. record { checks = p; open_place_lem = ap opened_of z; file_place_lem = ap node_of z }) (sym e ∙ f)
