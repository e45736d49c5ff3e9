-- `reads::page_part` meets its contract. Assumes nothing.
use native.Mathlib.Omega.{arith}
use Prim.Native.Nat.{◌-◌}
use Rattle.lists.specs.Parts.{part}
use Rattle.lists.specs.PartLaws.{length_part}
use Rattle.reads.specs.laws.PageLaws.{page_part_lem}
use Rattle.reads.proofs.page_part.Goals as goal

pub returns : goal.returns
unfolding part
returns c =
    let a = c.args in
    let s = c.saturating_sub-start.result in
    let e = c.min-end.result in
    let u = c.saturating_sub-start.ensures in
    let v = c.min-end.ensures in (
      page_part_lem a.reply.now a.position a.count a.page s e c.requires.0 (omega (arith, u))
          (omega (arith, v, c.requires.4)) (omega (arith, u, v, c.requires.4, c.requires.5)),
      omega (
        arith,
        length_part s (e - s) a.reply.now (omega (arith, u, v, c.requires.0, c.requires.4, c.requires.5)),
        u,
        v,
        c.requires.4,
        c.requires.5,
      ),
    )
