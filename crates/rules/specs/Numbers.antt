-- Which numbers a refusal has, and which reasons a stop.
-- Assumes nothing.
use Rattle.std.specs.Prelude.{Bool, ◌&&◌, ℕ, eqb, leb}
use mathlib.Core.List.{List, [], ◌∷◌}
use Rattle.lists.specs.Search.{any}

-- SPECIFICATION 7.1
abbrev pub numbers : List ℕ
numbers = 5 ∷ 114 ∷ 61 ∷ 34 ∷ 22 ∷ 36 ∷ 12 ∷ 20 ∷ 13 ∷ 2 ∷ 17 ∷ 21 ∷ 16 ∷ 39 ∷ 24 ∷ 9 ∷ 27 ∷ 28 ∷ 74 ∷ 84 ∷ []

unfoldable pub known : ℕ → Bool
known n = any (eqb n) numbers

-- SPECIFICATION 5.10
unfoldable pub is_reason : ℕ → Bool
is_reason n = leb 1 n && leb n 8
