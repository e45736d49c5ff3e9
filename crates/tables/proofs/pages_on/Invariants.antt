-- `tables::pages_on` meets its contract. The loop's invariant: t is the total of the nodes passed. Assumes nothing.
use Prim.Native.Nat.{◌*◌, ◌≤◌}
use mathlib.Core.Path.{◌≡◌}
use lib.ListN.{take}
use Rattle.filesystem.specs.Tables.{page_total}
use Rattle.memory.specs.Layout.{mem_of}
use Rattle.tables.proofs.pages_on.Given as goal

abbrev pub invariant-loop-i : goal.invariant-loop-i
invariant-loop-i l = (l.i ≤ l.n) × (l.t ≤ l.i * 4194304) × (l.t ≡ page_total (take l.i (mem_of l.m).nodes))
