-- Lines of a text.
-- Assumes nothing.
use Rattle.std.specs.Prelude.{◌≡◌, Bool, true, false, List, [], ◌∷◌, ℕ, ◌+◌, ◌≤◌, eqb, length, drop}
use Rattle.lists.specs.Pick.{pick}
use Rattle.lists.specs.Search.{place}

abbrev pub is_newline : ℕ → Bool
is_newline c = eqb c 10

-- e is where the line that starts at a ends: at the first newline, or at the end of the text
pub record LineEnd (s : List ℕ) (a e : ℕ) : Type 0 where
  pub found : e ≡ a + place is_newline (drop a s)
  pub after : a ≤ e
  pub inside : e ≤ length s

-- whether s begins with w
unfoldable pub begins : List ℕ → List ℕ → Bool
begins s [] = true
begins [] (x ∷ w) = false
begins (c ∷ s) (x ∷ w) = pick (eqb c x) (begins s w) false
