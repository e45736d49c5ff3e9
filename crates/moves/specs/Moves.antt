-- The numbers that a move is refused with, once its two directories are found (SPECIFICATION 3).
-- Assumes nothing.
use Rattle.std.specs.Prelude.{not, ◌||◌, List, [], ◌∷◌, ℕ}
use Rattle.lists.specs.Checks.{decide}
use Rattle.filesystem.specs.Tables.{Node, node_at, has_bit}
use Rattle.filesystem.specs.Image.{beneath, too_deep}

-- the numbers of a move of node k, which the directory in place `from` holds, to `name` in the directory in place d; 0
-- where none holds
unfoldable pub move_number : List Node → (k from d : ℕ) → List ℕ → ℕ
move_number ns k from d name =
    decide (λ n. n)
    ((22, beneath ns k d)
    ∷ (13, not (has_bit 2 (node_at ns from)) || not (has_bit 2 (node_at ns d)))
    ∷ (36, too_deep ns k d name) ∷ []) 0
