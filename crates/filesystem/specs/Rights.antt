-- Whether a mode covers the rights of an open file: a table of 24 entries, eight modes for each of the rights 1, 2 and 3 (SPECIFICATION 4.8).
-- Assumes nothing.
use Rattle.std.specs.Prelude.{Bool, List, [], ◌∷◌, ℕ, ◌+◌, ◌-◌, ◌*◌, eqb, get_or}

unfoldable pub cover_table : List ℕ
cover_table =
    0 ∷ 0 ∷ 0 ∷ 0 ∷ 1 ∷ 1 ∷ 1 ∷ 1 ∷
    0 ∷ 0 ∷ 1 ∷ 1 ∷ 0 ∷ 0 ∷ 1 ∷ 1 ∷
    0 ∷ 0 ∷ 0 ∷ 0 ∷ 0 ∷ 0 ∷ 1 ∷ 1 ∷ []

unfoldable pub covers : (mode rights : ℕ) → Bool
covers mode rights = eqb (get_or cover_table (8 * (rights - 1) + mode) 0) 1
