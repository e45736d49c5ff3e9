-- Counts that go no further than they fit.
-- Assumes nothing.
use Rattle.std.specs.Prelude.{Bool, ℕ, ◌+◌, min}
use Rattle.lists.specs.Pick.{pick}

unfoldable pub one_more : ℕ → ℕ
one_more n = min (n + 1) 18446744073709551615

-- one that is the same is not counted
unfoldable pub one_more_unless : Bool → ℕ → ℕ
one_more_unless same n = pick same n (one_more n)
