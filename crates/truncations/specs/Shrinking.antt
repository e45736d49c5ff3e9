-- The pending truncation of a memory.
-- Assumes nothing.
use Rattle.std.specs.Prelude.{List, ℕ, ◌≤◌}
use Rattle.memory.specs.Layout.{mem_of}
use Rattle.rules.specs.Pages.{Change, shrinking}
use Rattle.guard_state.specs.Calls.{SHRINK_FETCHING, CUTTING}
use Rattle.guard_state.specs.State.{numbers_of}

-- the numbers of a pending truncation (guard_state, src/calls.rt)
abbrev pub Shrinking : ℕ → Type 0
Shrinking call = (SHRINK_FETCHING ≤ call) × (call ≤ CUTTING)

unfoldable pub shrink_in : List ℕ → Change
shrink_in m = shrinking (numbers_of (mem_of m).head).size
