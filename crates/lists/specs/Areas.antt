-- A list cut into adjoining areas of given lengths. Over any element; assumes nothing.
use Rattle.std.specs.Prelude.{ℕ, ◌+◌, List, [], ◌∷◌}
use Rattle.lists.specs.Parts.{part}

-- the sum of lengths
abbrev pub total : List ℕ → ℕ
total [] = 0
total (n ∷ ns) = n + total ns

-- l from `at` on, cut into areas of the lengths ns
abbrev pub areas {ℓ} : {A : Type ℓ} → ℕ → List ℕ → List A → List (List A)
areas at [] l = []
areas at (n ∷ ns) l = part at n l ∷ areas (at + n) ns l
