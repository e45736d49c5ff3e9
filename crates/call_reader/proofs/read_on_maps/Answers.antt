-- `call_reader::read_on_maps` meets its contract. Assumes nothing.
use native.Mathlib.Omega.{arith}
use lib.ListN.{drop}
use Rattle.lists.specs.Pick.{pick}
use Rattle.filesystem.specs.Tables.{ID_BYTES}
use Rattle.rules.specs.Calls.{read_fields}
use Rattle.call_reader.specs.laws.FieldLaws.{of_kind}
use Rattle.call_reader.proofs.read_on_maps.Goals as goal

pub returns-in-14 : goal.returns-in-14
unfolding read_fields pick
returns-in-14 c =
    let a = c.args in (
      of_kind ID_BYTES 14 a.kind (drop 1 a.s.now) _ (omega arith) c.read_map.ensures.0,
      c.read_map.ensures.1,
    )

pub returns-in_default : goal.returns-in_default
unfolding read_fields pick
returns-in_default c =
    let a = c.args in (
      of_kind ID_BYTES 15 a.kind (drop 1 a.s.now) _ (omega arith) c.read_unmap.ensures.0,
      c.read_unmap.ensures.1,
    )
