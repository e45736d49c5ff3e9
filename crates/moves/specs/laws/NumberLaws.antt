-- The numbers of a move, test by test.
-- Assumes nothing.
use Rattle.std.specs.Prelude.{◌≡◌, Bool, not, ◌||◌, ℕ, ◌/◌, ◌%◌, ◌<◌, eqb, take}
use Rattle.std.proofs.Common.{ap, ◌∙◌}
use Rattle.std.proofs.Math.Path.{sym}
use Rattle.std.proofs.Math.Bool.{true, false}
use mathlib.Core.List.{List, []}
use Rattle.lists.specs.Checks.{check_stops, check_passes, check_last}
use Rattle.filesystem.specs.Tables.{Node, node_at, has_bit}
use Rattle.filesystem.specs.Image.{beneath, too_deep}
use Rattle.tables.specs.laws.RowsInUse.{node_front_lem}
use Rattle.moves.specs.Moves.{move_number}

-- a bit of the mode x of node k
pub bit_front : (n : ℕ) (ns : List Node) (k b x : ℕ) → k < n → x ≡ (node_at ns k).mode
    → has_bit b (node_at (take n ns) k) ≡ eqb (x / b % 2) 1
bit_front n ns k b x h e = ap (has_bit b) (node_front_lem n ns k h) ∙ ap (λ (y : ℕ). eqb (y / b % 2) 1) (sym e)

module _ (ns : List Node) (k from d : ℕ) (name : List ℕ) where
  abbrev barred : Bool
  barred = not (has_bit 2 (node_at ns from)) || not (has_bit 2 (node_at ns d))

  abbrev number : ℕ → ℕ
  number n = n

  pub move_within : beneath ns k d ≡ true → 22 ≡ move_number ns k from d name
  unfolding move_number
  move_within e = sym (check_stops number 22 (beneath ns k d) _ 0 e)

  module _ (away : beneath ns k d ≡ false) where
    pub move-barred : barred ≡ true → 13 ≡ move_number ns k from d name
    unfolding move_number
    move-barred e = sym (check_passes number 22 (beneath ns k d) _ 0 away ∙ check_stops number 13 barred _ 0 e)

    module _ (free : barred ≡ false) where
      pub move-deep : too_deep ns k d name ≡ true → 36 ≡ move_number ns k from d name
      unfolding move_number
      move-deep e =
          sym (check_passes number 22 (beneath ns k d) _ 0 away ∙ (check_passes number 13 barred _ 0 free
          ∙ check_stops number 36 (too_deep ns k d name) [] 0 e))

      pub move-passes : too_deep ns k d name ≡ false → 0 ≡ move_number ns k from d name
      unfolding move_number
      move-passes e =
          sym (check_passes number 22 (beneath ns k d) _ 0 away ∙ (check_passes number 13 barred _ 0 free
          ∙ check_last number 36 (too_deep ns k d name) 0 e))
