-- `tables::count_children` meets its contract. The loop's invariant: the count is that so far and the count in what
-- remains. Assumes nothing.
use Prim.Native.Nat.{◌+◌, ◌≤◌}
use mathlib.Core.Path.{◌≡◌}
use lib.ListN.{length, take, drop}
use Rattle.lists.specs.Search.{select}
use Rattle.filesystem.specs.Tables.{has_parent}
use Rattle.memory.specs.Layout.{mem_of}
use Rattle.tables.proofs.count_children.Given as goal

abbrev pub invariant-loop-i : goal.invariant-loop-i
invariant-loop-i l =
    (l.i ≤ l.n) × (l.c ≤ l.i) × (length (select (has_parent l.parent) (take l.n (mem_of l.m).nodes)) ≡ l.c + length
    (select (has_parent l.parent) (drop l.i (take l.n (mem_of l.m).nodes))))
