-- A rename's own numbers, once both walks have led somewhere, case by case.
-- Assumes nothing.
use Rattle.std.specs.Prelude.{◌≡◌, refl, Bool, true, ◌&&◌, List, [], ◌∷◌, ℕ, zero, suc, ◌<◌, ◌≤◌, eqb, length}
use Rattle.std.proofs.Math.Path.{ap}
use Rattle.std.proofs.Common.{◌∙◌, arith}
use Rattle.std.proofs.Math.Bool.{false, not}
use borrow.Author.Tests.{eq-eqb, ne_eqb, le-leb, lt-leb}
use Rattle.lists.specs.Pick.{pick, pick_true}
use Rattle.lists.specs.All.{both, none}
use Rattle.lists.specs.Checks.{decide, decide_passed, check_passes, check_stops}
use Rattle.filesystem.specs.Tables.{Node, present}
use Rattle.filesystem.specs.Paths.{child_at}
use Rattle.moves.specs.Moves.{move_number}
use Rattle.renames.specs.Judged.{moved, by_number, own_checks, own_answer, name_own}
use Rattle.std.specs.Prelude.{Option, Some, None, Ok, Err}
use Rattle.refusals.specs.Numbers.{Judged}
use Rattle.renames.specs.declared.Move.{Move}

-- what a move has
abbrev pub node_in : Judged (Option Move) → ℕ
node_in (Ok (Some p)) = p.node
node_in (Ok None) = 0
node_in (Err b) = 0

abbrev pub parent_in : Judged (Option Move) → ℕ
parent_in (Ok (Some p)) = p.parent
parent_in (Ok None) = 0
parent_in (Err b) = 0

abbrev pub start_in : Judged (Option Move) → ℕ
start_in (Ok (Some p)) = p.start
start_in (Ok None) = 0
start_in (Err b) = 0

pub number_refuses : (k d at b : ℕ) → (b ≡ 0 → ⊥) → by_number k d at b ≡ Err b
unfolding by_number
number_refuses k d at zero h = absurd (h refl)
number_refuses k d at (suc b) h = refl

pub number_moves : (k d at b : ℕ) → b ≡ 0 → by_number k d at b ≡ moved k d at
unfolding by_number
number_moves k d at zero h = refl
number_moves k d at (suc b) h = absurd (omega arith)

-- three numbers, of which none is 0
as_number : (k d at : ℕ) (x y z : Bool)
    → decide Err ((22, x) ∷ (13, y) ∷ (36, z) ∷ []) (moved k d at)
    ≡ by_number k d at (decide (λ n. n) ((22, x) ∷ (13, y) ∷ (36, z) ∷ []) 0)
unfolding decide pick by_number
as_number k d at true y z = refl
as_number k d at false true z = refl
as_number k d at false false true = refl
as_number k d at false false false = refl

module _ (ns : List Node) (k from d at : ℕ) (name : List ℕ) where
  abbrev j : ℕ
  j = child_at ns d name

  pub root-first : k ≡ 0 → name_own ns k from d at name ≡ Err 16
  unfolding name_own
  root-first e = check_stops Err 16 _ _ _ (eq-eqb k 0 e)

  module _ (not_root : k ≡ 0 → ⊥) where
    -- where the second path leads to node k nothing more is asked
    pub same_done : j ≡ k → name_own ns k from d at name ≡ Ok None
    unfolding name_own
    same_done e =
        let q = eq-eqb j k e in
        let off : (b : Bool) → (not (eqb j k) && b) ≡ false = λ b. ap (λ x. not x && b) q in
        decide_passed Err (own_checks ns k from d j name) (own_answer ns k from d j name at)
        (both (ne_eqb k 0 not_root) (both (off _) (both (off _) (both (off _) (both (off _) none)))))
        ∙ pick_true (eqb j k) (Ok None) _ q

    module _ (other : j ≡ k → ⊥) where
      pub name-taken : j < length ns → name_own ns k from d at name ≡ Err 17
      unfolding name_own
      name-taken h =
          check_passes Err 16 _ _ _ (ne_eqb k 0 not_root)
          ∙ check_stops Err 17 _ _ _
          (ap (λ x. not x && present ns j) (ne_eqb j k other) ∙ ap not (lt-leb (length ns) j h))

      pub name_free : length ns ≤ j → name_own ns k from d at name ≡ by_number k d at (move_number ns k from d name)
      unfolding name_own move_number pick
      name_free h =
          let q = ne_eqb j k other in
          check_passes Err 16 _ _ _ (ne_eqb k 0 not_root)
          ∙ check_passes Err 17 _ _ _
          (ap (λ x. not x && present ns j) q ∙ ap not (le-leb (length ns) j h))
          ∙ rw q (as_number k d at _ _ _)
