-- Numbers written in decimal digits.
-- Assumes nothing.
use Rattle.std.specs.Prelude.{List, [], ◌∷◌, ℕ, ◌+◌, ◌-◌, ◌*◌, ltb, Option, None, Some}
use Rattle.lists.specs.Pick.{pick}

-- the digits s after those of n; a byte that is no digit and a number of a thousand millions or more are none
unfoldable pub read_from : ℕ → List ℕ → Option ℕ
read_from n [] = Some n
read_from n (c ∷ s) = pick (ltb c 48) None
    (pick (ltb 57 c) None (pick (ltb 99999999 n) None (read_from (10 * n + (c - 48)) s)))

-- a number is one digit or more
unfoldable pub read_decimal : List ℕ → Option ℕ
read_decimal [] = None
read_decimal (c ∷ s) = read_from 0 (c ∷ s)
