-- What a search among n rows answers: the place, or none where it is none of theirs.
-- Assumes nothing.
use Rattle.std.specs.Prelude.{ℕ, ltb, Option, Some, None}
use Rattle.lists.specs.Pick.{pick}

unfoldable pub found : (n k : ℕ) → Option ℕ
found n k = pick (ltb k n) (Some k) None
