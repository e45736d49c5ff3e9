-- A list cut into rows of one width, and a table: such rows, each read as a value. Over any element and value; assumes nothing.
use Rattle.std.specs.Prelude.{ℕ, zero, suc, List, [], ◌∷◌, map, take, drop}

-- the first n rows of w elements
unfoldable pub rows {ℓ} : {A : Type ℓ} → ℕ → ℕ → List A → List (List A)
rows w zero l = []
rows w (suc n) l = take w l ∷ rows w n (drop w l)

-- the values that v reads from the first n rows of w elements
unfoldable pub table : {A B : Type 0} → (List A → B) → ℕ → ℕ → List A → List B
table v w n l = map v (rows w n l)
