-- A page of a change is asked for, or goes out: what the machine makes of it.
-- Assumes nothing.
use Rattle.guard_state.specs.Calls.{FETCHING, CUTTING}
use Rattle.std.specs.Prelude.{ℕ, ◌≤◌}

-- the numbers of a pending change (guard_state, src/calls.rt)
abbrev pub Changing : ℕ → Type 0
Changing call = (FETCHING ≤ call) × (call ≤ CUTTING)

-- a store before its page: kind, descriptor, page, size
abbrev pub store_front : ℕ
store_front = 13
