-- A part of a list, and a list with a part overwritten. Over any element; assumes nothing.
use Rattle.std.specs.Prelude.{ℕ, ◌+◌, List, ◌++◌, length, take, drop}

-- n elements from `at`
unfoldable pub part {ℓ} : {A : Type ℓ} → ℕ → ℕ → List A → List A
part at n l = take n (drop at l)

-- l with x in place of what stands at `at`
unfoldable pub overwrite {ℓ} : {A : Type ℓ} → List A → ℕ → List A → List A
overwrite l at x = take at l ++ (x ++ drop (at + length x) l)
