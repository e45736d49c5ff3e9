-- What the reply to a map is judged to be.
--   new_map            a map of this size at an address
--   is_misplaced       it may not begin there, whatever maps live
--   map_reason ms      the stop reason of a reply beside these maps, or 0
-- Assumes nothing.
use Rattle.std.specs.Prelude.{Bool, ◌||◌, not, List, ◌∷◌, ℕ, ◌+◌, ◌%◌, eqb, ltb, length}
use Rattle.lists.specs.Checks.{decide}
use Rattle.filesystem.specs.MemoryMaps.{Map, MAP_UNIT}
use Rattle.rules.specs.MapRules.{ADDRESSES, map_faults}

abbrev pub new_map : (address size : ℕ) → Map
new_map a n = record { address = a; size = n }

unfoldable pub is_misplaced : (address size : ℕ) → Bool
is_misplaced a n = eqb a 0 || (not (eqb (a % MAP_UNIT) 0) || ltb ADDRESSES (a + n))

unfoldable pub map_reason : List Map → (size : ℕ) → List ℕ → ℕ
map_reason ms n r = decide (λ i. i) ((1, not (eqb (length r) (8 + n))) ∷ map_faults ms n r) 0
