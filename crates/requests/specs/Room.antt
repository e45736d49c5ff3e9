-- The caller's request buffer.
-- Assumes nothing.
use Rattle.std.specs.Prelude.{List, ℕ, ◌≤◌, length}
use Rattle.rules.specs.Requests.{store_length}

-- long enough for each request: a store is the longest
abbrev pub HoldsRequest : List ℕ → Type 0
HoldsRequest q = store_length ≤ length q
