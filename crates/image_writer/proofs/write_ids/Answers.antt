-- `image_writer::write_ids` meets its contract. Assumes nothing.
use native.Mathlib.Omega.{arith}
use Prim.Native.Nat.{◌+◌}
use Rattle.lists.specs.LittleEndian.{encode, length-encode}
use Rattle.image_writer.specs.laws.Written.{next-part}
use Rattle.image_writer.proofs.write_ids.Goals as goal

pub returns : goal.returns
returns c =
    let a = c.args in
    next-part a.out.now a.at (omega arith) (encode a.layout.id_bytes a.id) (encode a.layout.id_bytes a.parent)
    (a.at + a.layout.id_bytes)
    c.put_number.ensures (rw (length-encode a.layout.id_bytes a.id)) c.put_number-2.ensures
