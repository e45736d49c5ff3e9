-- `call_reader::read_opening` meets its contract. Assumes nothing.
use native.Mathlib.Omega.{arith}
use lib.ListN.{drop}
use Rattle.lists.specs.Pick.{pick}
use Rattle.filesystem.specs.Tables.{ID_BYTES}
use Rattle.rules.specs.Calls.{read_fields}
use Rattle.call_reader.specs.Meaning.{made_by}
use Rattle.call_reader.specs.laws.FieldLaws.{of_kind}
use Rattle.call_reader.proofs.read_opening.Goals as goal

pub returns-in-1 : goal.returns-in-1
unfolding read_fields made_by pick
returns-in-1 c =
    let a = c.args in (
      of_kind ID_BYTES 1 a.kind (drop 1 a.s.now) _ (omega arith) c.read_numbered.ensures.0,
      c.read_numbered.ensures.1,
    )

pub returns-in-2 : goal.returns-in-2
unfolding read_fields made_by pick
returns-in-2 c =
    let a = c.args in (
      of_kind ID_BYTES 2 a.kind (drop 1 a.s.now) _ (omega arith) c.read_numbered-in-2.ensures.0,
      c.read_numbered-in-2.ensures.1,
    )

pub returns-in_default : goal.returns-in_default
unfolding read_fields made_by pick
returns-in_default c =
    let a = c.args in (
      of_kind ID_BYTES 3 a.kind (drop 1 a.s.now) _ (omega arith) c.read_numbered-in_default.ensures.0,
      c.read_numbered-in_default.ensures.1,
    )
