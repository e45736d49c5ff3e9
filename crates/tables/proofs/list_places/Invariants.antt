-- `tables::list_places` is safe and ends. The loop's invariant: the place is within the nodes. Assumes nothing.
use Prim.Native.Nat.{◌≤◌}
use Rattle.tables.proofs.list_places.Given as goal

abbrev pub invariant-loop-k : goal.invariant-loop-k
invariant-loop-k l = l.k ≤ l.n
