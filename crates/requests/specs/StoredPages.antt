-- The page of a store, as it is put together in place: bytes with zeros behind, the bytes of a write over them.
-- Assumes nothing.
use Rattle.std.specs.Prelude.{ℕ, List}
use Rattle.lists.specs.Cells.{tab}

-- n zeros
unfoldable pub zeros : ℕ → List ℕ
zeros n = tab n (λ j. 0)
