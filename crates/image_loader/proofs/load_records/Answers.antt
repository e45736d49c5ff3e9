-- `image_loader::load_records` meets its contract. The invariant says what remains to be done. Assumes nothing.
use native.Mathlib.Omega.{arith}
use mathlib.Core.Path.{◌≡◌, refl, ap, ap₂, sym, ◌∙◌}
use mathlib.Core.List.{List}
use Prim.Native.Nat.{◌+◌, ◌-◌}
use lib.ListN.{set}
use Rattle.lists.specs.Parts.{overwrite}
use Rattle.lists.specs.PartLaws.{overwrite_none}
use Rattle.image_records.specs.Laid.{laid}
use Rattle.filesystem.specs.Tables.{Node, no_node}
use Rattle.memory.specs.Layout.{Mem, mem_of, with_nodes}
use Rattle.memory.specs.laws.MemLaws.{length-nodes}
use Rattle.image_records.specs.Records.{record_at, end_from}
use Rattle.image_records.specs.laws.RecordLaws.{record_least, record_in, end-next, end-last, nodes-last}
use Rattle.image_loader.specs.laws.LoadedLaws.{short-name, next-end, loaded-next}
use Rattle.image_loader.proofs.load_records.Goals as goal

pub loop-i-init : goal.loop-i-init
loop-i-init c =
    let a = c.args in
    let s = a.image.now in
    let y = laid a.layout in
    let ns = (mem_of a.m.now).nodes in
    let e : a.n - 0 ≡ a.n = omega arith in (
      refl,
      sym (end-last y s 4),
      ap (end_from y s 4) e,
      ap (λ (r : List Node). with_nodes r (mem_of a.m.now)) (sym (ap (overwrite ns 0) (nodes-last y s 4)
          ∙ overwrite_none no_node ns 0)),
    )

pub load_record-requires : goal.load_record-requires
load_record-requires c =
    let pre = c.requires in
    let a = c.args in
    let s = a.image.now in
    let y = laid a.layout in
    let l = c.loop-i in
    let h = record_in y s l.at (a.n - l.i) (omega arith) in (
      omega (arith, h, l.invariant.2, pre.2),
      short-name y s a.n l.i pre.0 (omega arith) l.invariant.1,
      omega (arith, pre.1),
      omega (arith, l.invariant.0, pre.3),
    )

pub record_end-at-requires : goal.record_end-at-requires
record_end-at-requires c =
    let a = c.args in
    let s = a.image.now in
    let y = laid a.layout in
    let l = c.loop-i in
    let h = record_in y s l.at (a.n - l.i) (omega arith) in
    let g = record_least y s l.at in
    let pre = c.requires in
    omega (arith, h, g, l.invariant.2, pre.2)

pub loop-i-preserved : goal.loop-i-preserved
loop-i-preserved c =
    let pre = c.requires in
    let a = c.args in
    let s = a.image.now in
    let y = laid a.layout in
    let l = c.loop-i in
    let x = record_at y s l.at in
    let r = c.record_end-at.ensures.0 in
    let e : a.n - (l.i + 1) ≡ a.n - l.i - 1 = omega arith in
    let k = length-nodes a.m.now in (
      c.load_record.ensures.1 ∙ l.invariant.0,
      next-end y s l.at l.i l.invariant.1 r,
      ap₂ (end_from y s) r e ∙ sym (end-next y s l.at (a.n - l.i) (omega arith)) ∙ l.invariant.2,
      c.load_record.ensures.0 ∙ ap (λ (M : Mem). with_nodes (set M.nodes l.i x) M)
          l.invariant.3
          ∙ ap (λ (ns : List Node). with_nodes ns (mem_of a.m.now))
          (loaded-next y s (mem_of a.m.now).nodes l.i l.at l.invariant.1 (omega (arith, k, pre.1))),
    )
