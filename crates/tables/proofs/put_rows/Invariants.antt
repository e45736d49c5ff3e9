-- `tables::put_rows` meets its contract. The loop's invariant: i of the rows are written. Assumes nothing.
use Prim.Native.Nat.{◌≤◌}
use mathlib.Core.Path.{◌≡◌}
use lib.ListN.{length, replicate}
use Rattle.lists.specs.Parts.{overwrite}
use Rattle.memory.specs.Layout.{mem_of, with_digests}
use Rattle.tables.proofs.put_rows.Given as goal

abbrev pub invariant-loop-i : goal.invariant-loop-i
invariant-loop-i l =
    (l.i ≤ l.count) × (mem_of l.m ≡ with_digests (overwrite (mem_of l.initial.m).digests l.at (replicate l.i l.d)) (mem_of l.initial.m))
    × (length l.m ≡ length l.initial.m)
