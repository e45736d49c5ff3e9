-- `image_reader::stands` meets its contract. Assumes nothing.
use native.Mathlib.Omega.{arith}
use Rattle.image_records.specs.Laid.{laid}
use Rattle.image_records.specs.laws.RecordLaws.{record_least}
use Rattle.image_reader.proofs.stands.Goals as goal

pub is_in_limits-requires : goal.is_in_limits-requires
is_in_limits-requires c =
    let a = c.args in
    omega (arith, record_least (laid a.layout) a.image.now a.at)
