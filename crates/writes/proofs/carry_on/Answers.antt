-- `writes::carry_on` meets its contract. Assumes nothing.
use native.Mathlib.Omega.{arith}
use mathlib.Core.Path.{refl, ap}
use Rattle.guard_state.specs.declared.Guard.{Guard}
use Rattle.guard_state.specs.laws.Ranges.{in_range}
use Rattle.writes.specs.laws.PageLaws.{behind-ends, from-behind, from_page, few_sent}
use Rattle.writes.proofs.carry_on.Goals as goal

pub overflow_add-g : goal.overflow_add-g
overflow_add-g c = let r = in_range _ _ c.load-g.ensures in omega (arith, r.position, r.bytes)

pub returns-then-g-page : goal.returns-then-g-page
returns-then-g-page c =
    let a = c.args in
    let p = ap (λ (x : Guard). x.position) c.load-g.ensures in
    let n = ap (λ (x : Guard). x.bytes) c.load-g.ensures in (
      λ d u h.
          from-behind d a.m.now (omega arith) a.page h (omega (arith, c.if-g-page.true, p, n)) c.requires.0 _
          c.load-g.ensures _ _ _ _
          (c.end_write.ensures.sends d _ (behind-ends d a.m.now (omega arith) a.page h
          (omega (arith, c.if-g-page.true, p, n)) c.requires.0 _ c.load-g.ensures) a.request.now),
      omega arith,
    )

pub returns-then-g-ge-NEW_DIGESTS : goal.returns-then-g-ge-NEW_DIGESTS
returns-then-g-ge-NEW_DIGESTS c =
    let a = c.args in
    let p = ap (λ (x : Guard). x.position) c.load-g.ensures in
    let n = ap (λ (x : Guard). x.bytes) c.load-g.ensures in
    let k = ap (λ (x : Guard). x.digests) c.load-g.ensures in (
      λ d u h. absurd (omega (
        arith,
        c.if-g-ge-NEW_DIGESTS.true,
        k,
        few_sent d a.m.now (omega arith) a.page h
            (omega (arith, c.if-g-page.false, p, n)),
      )),
      refl,
    )

pub returns : goal.returns
returns c =
    let a = c.args in
    let p = ap (λ (x : Guard). x.position) c.load-g.ensures in
    let n = ap (λ (x : Guard). x.bytes) c.load-g.ensures in (
      λ d u h. from_page d a.m.now (omega arith) a.page h (omega (arith, c.if-g-page.false, p, n)) _ _ _ _
          (c.on_page.ensures.0 d u h),
      omega arith,
    )
