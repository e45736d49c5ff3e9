-- `image_loader::load_records` meets its contract. The invariant says what remains to be done. Assumes nothing.
use mathlib.Core.Path.{◌≡◌}
use Prim.Native.Nat.{◌-◌}
use lib.ListN.{length}
use Rattle.lists.specs.Parts.{overwrite}
use Rattle.image_records.specs.Laid.{laid}
use Rattle.memory.specs.Layout.{mem_of, with_nodes}
use Rattle.image_records.specs.Records.{nodes_from, end_from}
use Rattle.image_loader.proofs.load_records.Given as goal

abbrev pub invariant-loop-i : goal.invariant-loop-i
invariant-loop-i l =
    (length l.m ≡ length l.initial.m) × (l.at ≡ end_from (laid l.layout) l.image 4 l.i)
    × (end_from (laid l.layout) l.image l.at (l.n - l.i) ≡ end_from (laid l.layout) l.image 4 l.n)
    × (mem_of l.m ≡ with_nodes (overwrite (mem_of l.initial.m).nodes 0 (nodes_from (laid l.layout) l.image 4 l.i))
    (mem_of l.initial.m))
