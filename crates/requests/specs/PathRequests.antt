-- The request of a call by path, from its kind, its mode or rights, and its path's bytes: the call itself
-- (SPECIFICATION 5.2). A rename has two paths, the first behind its length.
-- Assumes nothing.
use Rattle.std.specs.Prelude.{Bool, ◌||◌, List, ◌∷◌, ◌++◌, ℕ, eqb, leb, length}
use Rattle.lists.specs.Pick.{pick}

-- create, mkdir and chmod have a mode, open has rights
unfoldable pub has_number : ℕ → Bool
has_number kind = leb kind 3 || eqb kind 11

unfoldable pub path_request : (kind number : ℕ) → List ℕ → List ℕ
path_request kind number s = pick (has_number kind) (kind ∷ number ∷ s) (kind ∷ s)

unfoldable pub rename_request : (first second : List ℕ) → List ℕ
rename_request p q = 16 ∷ length p ∷ (p ++ q)
