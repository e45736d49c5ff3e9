-- `tables::first_child` meets its contract. The loop's invariant: no node of the blocks before has the parent. Assumes
-- nothing.
use Prim.Native.Nat.{◌*◌}
use Rattle.memory.specs.Layout.{mem_of}
use Rattle.tables.specs.View.{Others}
use Rattle.tables.proofs.first_child.Given as goal

abbrev pub invariant-loop-block : goal.invariant-loop-block
invariant-loop-block l = Others (mem_of l.m).nodes l.parent 0 (8 * l.block)
