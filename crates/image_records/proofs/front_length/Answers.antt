-- `image_records::front_length` meets its contract. Assumes nothing.
use native.Mathlib.Omega.{arith}
use Rattle.filesystem.proofs.LayoutLaws.{maker_length}
use Rattle.image_records.proofs.front_length.Goals as goal

pub returns : goal.returns
returns c =
    let y = c.args.layout in
    (omega (arith, maker_length y.id_bytes y.maker_bytes y.is_layout.1), omega arith, omega arith)
