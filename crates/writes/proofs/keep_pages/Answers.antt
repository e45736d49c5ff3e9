-- `writes::keep_pages` meets its contract. Assumes nothing.
use native.Mathlib.Omega.{arith}
use mathlib.Core.Path.{ap}
use Rattle.guard_state.specs.declared.Guard.{Guard}
use Rattle.guard_state.specs.laws.Ranges.{in_range}
use Rattle.writes.specs.laws.EndLaws.{keeps_none, keeps_pages}
use Rattle.writes.proofs.keep_pages.Goals as goal

pub returns-then-g-first : goal.returns-then-g-first
returns-then-g-first c =
    let a = c.args in
    let n = ap (λ (x : Guard). x.page) c.load-g.ensures in
    let p = ap (λ (x : Guard). x.position) c.load-g.ensures in record {
      sends = λ d h q. keeps_none d a.m.now (omega arith) h c.requires.0 (omega (arith, c.if-g-first.true, n, p)) _ _ q
          (c.give_up.ensures.sends d q);
      keeps_length = omega arith;
    }

pub overflow_mul-g : goal.overflow_mul-g
overflow_mul-g c =
    record { fits = omega (arith, (in_range _ _ c.load-g.ensures).page) }

pub end_write-requires : goal.end_write-requires
end_write-requires c =
    let r = in_range _ _ c.load-g.ensures in
    let p = ap (λ (x : Guard). x.position) c.load-g.ensures in
    (omega (arith, c.if-g-first.false, p), omega (arith, r.page), omega arith)

pub returns : goal.returns
returns c =
    let a = c.args in
    let n = ap (λ (x : Guard). x.page) c.load-g.ensures in
    let p = ap (λ (x : Guard). x.position) c.load-g.ensures in record {
      sends = λ d h q. keeps_pages d a.m.now (omega arith) h c.requires.0 (omega (arith, c.if-g-first.false, n, p)) _
          c.load-g.ensures _ _ q (λ e. c.end_write.ensures.sends d _ e q);
      keeps_length = omega arith;
    }
