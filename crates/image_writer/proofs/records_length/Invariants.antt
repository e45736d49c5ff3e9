-- `image_writer::records_length` meets its contract. The invariant says what remains to be done. Assumes nothing.
use Prim.Native.Nat.{◌+◌, ◌*◌, ◌≤◌}
use mathlib.Core.Path.{◌≡◌}
use lib.ListN.{drop}
use Rattle.filesystem.specs.Image.{records_length}
use Rattle.image_records.specs.Laid.{laid}
use Rattle.image_writer.specs.Images.{nodes_in}
use Rattle.image_writer.proofs.records_length.Given as goal

abbrev pub invariant-loop-i : goal.invariant-loop-i
invariant-loop-i l =
    (l.total + records_length (laid l.fn.layout) (drop l.i (nodes_in l.n l.m)) ≡ records_length (laid l.fn.layout)
    (nodes_in l.n l.m))
    × (l.total ≤ l.i * 56)
