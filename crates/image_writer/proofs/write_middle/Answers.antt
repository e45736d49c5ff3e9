-- `image_writer::write_middle` meets its contract. Assumes nothing.
use native.Mathlib.Omega.{arith}
use Rattle.image_writer.specs.laws.Written.{middle_made}
use Rattle.image_writer.proofs.write_middle.Goals as goal

pub returns : goal.returns
returns c =
    let a = c.args in
    let y = a.layout in
    middle_made a.out.now a.at y.id_bytes y.maker_bytes a.kind a.mode a.size a.n y.is_layout.1 (omega arith)
    c.put_number.ensures c.put_number-2.ensures c.put_number-3.ensures
    c.put_number-4.ensures c.put_number-5.ensures
