-- `tables::place_of` is safe and ends: the place falls. The loop's invariant: it is a row's. Assumes nothing.
use Prim.Native.Nat.{◌<◌}
use Rattle.filesystem.specs.Tables.{NODES}
use Rattle.tables.proofs.place_of.Given as goal

abbrev pub invariant-loop-next : goal.invariant-loop-next
invariant-loop-next l = l.k < NODES

abbrev pub decreases-loop-next : goal.decreases-loop-next
decreases-loop-next l = l.k
