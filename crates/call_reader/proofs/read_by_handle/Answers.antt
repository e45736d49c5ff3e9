-- `call_reader::read_by_handle` meets its contract. Assumes nothing.
use native.Mathlib.Omega.{arith}
use lib.ListN.{drop}
use Rattle.lists.specs.Pick.{pick}
use Rattle.filesystem.specs.Tables.{ID_BYTES}
use Rattle.rules.specs.Calls.{read_fields}
use Rattle.call_reader.specs.laws.FieldLaws.{of_kind}
use Rattle.call_reader.proofs.read_by_handle.Goals as goal

pub returns-in-4 : goal.returns-in-4
unfolding read_fields pick
returns-in-4 c =
    let a = c.args in (
      of_kind ID_BYTES 4 a.kind (drop 1 a.s.now) _ (omega arith) c.read_close.ensures.0,
      c.read_close.ensures.1,
    )

pub returns-in-5 : goal.returns-in-5
unfolding read_fields pick
returns-in-5 c =
    let a = c.args in (
      of_kind ID_BYTES 5 a.kind (drop 1 a.s.now) _ (omega arith) c.read_seek.ensures.0,
      c.read_seek.ensures.1,
    )

pub returns-in-6 : goal.returns-in-6
unfolding read_fields pick
returns-in-6 c =
    let a = c.args in (
      of_kind ID_BYTES 6 a.kind (drop 1 a.s.now) _ (omega arith) c.read_read.ensures.0,
      c.read_read.ensures.1,
    )

pub returns-in-7 : goal.returns-in-7
unfolding read_fields pick
returns-in-7 c =
    let a = c.args in (
      of_kind ID_BYTES 7 a.kind (drop 1 a.s.now) _ (omega arith) c.read_write.ensures.0,
      c.read_write.ensures.1,
    )

pub returns-in_default : goal.returns-in_default
unfolding read_fields pick
returns-in_default c =
    let a = c.args in (
      of_kind ID_BYTES 8 a.kind (drop 1 a.s.now) _ (omega arith) c.read_truncate.ensures.0,
      c.read_truncate.ensures.1,
    )
