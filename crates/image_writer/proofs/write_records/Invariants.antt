-- `image_writer::write_records` meets its contract. The invariant says what remains to be done. Assumes nothing.
use Prim.Native.Nat.{◌+◌}
use mathlib.Core.Path.{◌≡◌}
use lib.ListN.{length, drop}
use Rattle.lists.specs.Form.{put_all}
use Rattle.lists.specs.Parts.{overwrite}
use Rattle.filesystem.specs.Image.{node_form, records_length}
use Rattle.image_records.specs.Laid.{laid}
use Rattle.image_writer.specs.Images.{nodes_in}
use Rattle.image_writer.proofs.write_records.Given as goal

abbrev pub invariant-loop-i : goal.invariant-loop-i
invariant-loop-i l =
    (length l.out ≡ length l.initial.out)
    × (overwrite l.out l.next (put_all (node_form (laid l.layout)) (drop l.i (nodes_in l.n l.m)))
    ≡ overwrite l.initial.out l.at (put_all (node_form (laid l.layout)) (nodes_in l.n l.m)))
    × (l.next + records_length (laid l.layout) (drop l.i (nodes_in l.n l.m))
    ≡ l.at + records_length (laid l.layout) (nodes_in l.n l.m))
