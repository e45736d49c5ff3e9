-- A seek that is done.
-- Assumes nothing.
use Rattle.std.specs.Prelude.{ℕ}
use Rattle.filesystem.specs.Tables.{set_cursor}
use Rattle.rules.specs.Skeleton.{Config}
use Rattle.machine.specs.Machine.{State, guard as digest_store}
use Rattle.guard_state.specs.Waits.{ends}

module _ (c : Config) (s : State (digest_store c)) where
  -- no call is pending, and the open file in place k has this cursor
  abbrev pub cursor_moved : (k position : ℕ) → State (digest_store c)
  cursor_moved k p = ends c s
      (record { nodes = s.skeleton.tables.nodes; opens = set_cursor s.skeleton.tables.opens k p }) s.contents
