-- The parts between slashes, one after the other from the front; a path's components for any bytes.
-- Assumes nothing.
use Rattle.std.specs.Prelude.{Bool, ◌||◌, List, [], ◌∷◌, ℕ, eqb}
use Rattle.filesystem.specs.Paths.{Path, slash, split}

-- the components of any bytes: the parts behind the first byte, and none where there is nothing behind it
unfoldable pub components_of : List ℕ → Path
components_of [] = []
components_of (b ∷ []) = []
components_of (b ∷ x ∷ s) = split (x ∷ s)

-- a byte that ends a part
abbrev pub is_slash : ℕ → Bool
is_slash b = eqb b slash

-- a byte that no component has
abbrev pub is_end : ℕ → Bool
is_end b = eqb b 0 || eqb b slash
