-- The end of a change: what the tables must be able to take, and that the machine's change is then done.
--   Ended              the numbers with which a change ends
-- Assumes nothing.
use Rattle.std.specs.Prelude.{◌≡◌, List, ℕ, ◌<◌, take}
use Rattle.filesystem.specs.Tables.{node_at, open_at}
use Rattle.memory.specs.Layout.{mem_of}
use Rattle.tables.specs.View.{staged_digests, Changeable}
use Rattle.rules.specs.Pages.{Change, first, size_after, cursor_after, number_of}
use Rattle.rules.specs.Skeleton.{Config}
use Rattle.guard_state.specs.State.{numbers_of, state_of}

-- the numbers with which the change q of the memory m ends: of the node in place k and the open file in place o; of the
-- digests that were staged it takes the first `count`
pub record Ended (c : Config) (m : List ℕ) (q : Change) (k o size cursor from count number : ℕ) : Type 0 where
  pub can : Changeable (state_of c m).skeleton.tables.nodes k size from count
  pub opened : o < (numbers_of (mem_of m).head).opens
  pub sized : size ≡ size_after q (node_at (state_of c m).skeleton.tables.nodes k).size
  pub moved : cursor ≡ cursor_after q (open_at (state_of c m).skeleton.tables.opens o).cursor
  pub begins : from ≡ first q
  pub staged : take count (state_of c m).progress.digests ≡ staged_digests count (mem_of m).staged
  pub says : number ≡ number_of q
