-- `image_loader::load_record` meets its contract. Assumes nothing.
use native.Mathlib.Omega.{arith}
use mathlib.Core.Path.{ap, ◌∙◌}
use lib.ListN.{set}
use Rattle.image_records.specs.Laid.{laid}
use Rattle.filesystem.specs.Tables.{Node}
use Rattle.memory.specs.Layout.{mem_of, with_nodes}
use Rattle.image_records.specs.laws.RecordLaws.{record_least}
use Rattle.image_loader.specs.laws.LoadedLaws.{same_node_lem}
use Rattle.image_loader.proofs.load_record.Goals as goal

pub record_id-requires : goal.record_id-requires
record_id-requires c =
    let a = c.args in
    let pre = c.requires in
    let h = record_least (laid a.layout) a.image.now a.at in
    omega (arith, h, pre.0)

pub record_parent-requires : goal.record_parent-requires
record_parent-requires c =
    let a = c.args in
    let pre = c.requires in
    let h = record_least (laid a.layout) a.image.now a.at in
    omega (arith, h, pre.0)

pub record_kind-requires : goal.record_kind-requires
record_kind-requires c =
    let a = c.args in
    let pre = c.requires in
    let h = record_least (laid a.layout) a.image.now a.at in
    omega (arith, h, pre.0)

pub record_mode-requires : goal.record_mode-requires
record_mode-requires c =
    let a = c.args in
    let pre = c.requires in
    let h = record_least (laid a.layout) a.image.now a.at in
    omega (arith, h, pre.0)

pub record_size-requires : goal.record_size-requires
record_size-requires c =
    let a = c.args in
    let pre = c.requires in
    let h = record_least (laid a.layout) a.image.now a.at in
    omega (arith, h, pre.0)

pub returns : goal.returns
returns c =
    let size = c.record_size in
    let mode = c.record_mode in
    let kind = c.record_kind in
    let parent = c.record_parent in
    let id = c.record_id in
    let a = c.args in
    let x = c.node_row-row.ensures
    ∙ same_node_lem (laid a.layout) a.image.now a.at id.ensures parent.ensures kind.ensures
    mode.ensures size.ensures c.record_name-name.ensures in (
      c.put_node.ensures.0
          ∙ ap (λ (v0 : Node). with_nodes (set (mem_of a.m.now).nodes a.i v0) (mem_of a.m.now)) x,
      c.put_node.ensures.1,
    )
