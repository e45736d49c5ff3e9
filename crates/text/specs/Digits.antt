-- A number as decimal digits, the first of them not 0 unless it is alone.
-- Assumes nothing.
use Rattle.std.specs.Prelude.{true, false, List, [], ◌∷◌, ◌++◌, ℕ, zero, suc, ◌+◌, ◌/◌, ◌%◌, ltb}

abbrev pub last_digit : ℕ → ℕ
last_digit n = 48 + n % 10

-- the last k + 1 digits of n, or all where there are fewer
unfoldable pub last_digits : ℕ → ℕ → List ℕ
last_digits zero n = last_digit n ∷ []
last_digits (suc k) n = elim (ltb n 10) [ true ↦ last_digit n ∷ [] | false ↦ last_digits k (n / 10) ++ (last_digit n ∷ []) ]

-- all digits, since a number is at least as large as it is long: `decimal_one` and `decimal_more`
unfoldable pub decimal_of : ℕ → List ℕ
decimal_of n = last_digits n n
