-- `call_reader::read_by_path` meets its contract. Assumes nothing.
use native.Mathlib.Omega.{arith}
use lib.ListN.{drop}
use Rattle.lists.specs.Pick.{pick}
use Rattle.filesystem.specs.Tables.{ID_BYTES}
use Rattle.rules.specs.Calls.{read_fields}
use Rattle.call_reader.specs.Meaning.{made_by}
use Rattle.call_reader.specs.laws.FieldLaws.{of_kind}
use Rattle.call_reader.proofs.read_by_path.Goals as goal

pub returns-in-9 : goal.returns-in-9
unfolding read_fields made_by pick
returns-in-9 c =
    let a = c.args in (
      of_kind ID_BYTES 9 a.kind (drop 1 a.s.now) _ (omega arith) c.read_plain.ensures.0,
      c.read_plain.ensures.1,
    )

pub returns-in-10 : goal.returns-in-10
unfolding read_fields made_by pick
returns-in-10 c =
    let a = c.args in (
      of_kind ID_BYTES 10 a.kind (drop 1 a.s.now) _ (omega arith) c.read_plain-in-10.ensures.0,
      c.read_plain-in-10.ensures.1,
    )

pub returns-in-11 : goal.returns-in-11
unfolding read_fields made_by pick
returns-in-11 c =
    let a = c.args in (
      of_kind ID_BYTES 11 a.kind (drop 1 a.s.now) _ (omega arith) c.read_numbered.ensures.0,
      c.read_numbered.ensures.1,
    )

pub returns-in-12 : goal.returns-in-12
unfolding read_fields made_by pick
returns-in-12 c =
    let a = c.args in (
      of_kind ID_BYTES 12 a.kind (drop 1 a.s.now) _ (omega arith) c.read_plain-in-12.ensures.0,
      c.read_plain-in-12.ensures.1,
    )

pub returns-in_default : goal.returns-in_default
unfolding read_fields made_by pick
returns-in_default c =
    let a = c.args in (
      of_kind ID_BYTES 13 a.kind (drop 1 a.s.now) _ (omega arith) c.read_plain-in_default.ensures.0,
      c.read_plain-in_default.ensures.1,
    )
