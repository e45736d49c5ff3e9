-- `call_reader::handle_before` meets its contract. Assumes nothing.
use native.Mathlib.Omega.{arith}
use Rattle.filesystem.specs.Tables.{ID_BYTES}
use Rattle.call_reader.specs.laws.FieldLaws.{number_below}
use Rattle.call_reader.proofs.handle_before.Goals as goal

pub returns : goal.returns
returns c = (
  omega arith,
  c.number_at.ensures,
  number_below ID_BYTES 1 c.args.s.now _ c.requires.0 (omega arith) c.number_at.ensures,
)
