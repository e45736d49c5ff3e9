-- `writes::accept_fetched` meets its contract. Assumes nothing.
use native.Mathlib.Omega.{arith}
use mathlib.Core.Path.{refl, sym, subst}
use Rattle.guard_state.specs.declared.Guard.{Guard}
use Rattle.guard_state.specs.laws.Ranges.{in_range}
use Rattle.page_changes.specs.laws.FetchedLaws.{judged-stops}
use Rattle.writes.specs.laws.RepliedLaws.{fetch_waits, page_sending, page_room, page_goes}
use Rattle.page_changes.specs.Fetched.{JudgedPage}
use Rattle.writes.proofs.accept_fetched.Goals as goal

pub returns-in-Err : goal.returns-in-Err
returns-in-Err c =
    let a = c.args in
    let f = c.in-Err.ensures in (
      λ d s w h. judged-stops d a.m.now _ h (omega (arith, c.requires.0), omega (arith, c.requires.0))
          (fetch_waits d a.m.now c.requires.0) _ refl _ a.reply.now
          (f.judged (page_room d a.m.now h _ refl c.requires.0 (omega arith)))
          s _ refl a.request.now,
      refl,
    )

pub store_page-requires : goal.store_page-requires
store_page-requires c =
    let f = c.in_default.ensures in (
      (omega (arith, c.requires.0), omega (arith, c.requires.0)),
      f.room refl,
      (in_range _ _ c.load-g.ensures).page,
      omega (arith, f.long refl),
      omega arith,
      omega (arith, c.requires.2),
    )

pub returns : goal.returns
returns c =
    let a = c.args in
    let f = c.in_default.ensures in (
      λ d s w h. page_goes d a.m.now h _ c.load-g.ensures c.requires.0 s _ a.reply.now
          (subst (λ (x : Guard). JudgedPage a.m.now x 0 a.reply.now)
          (sym c.load-g.ensures)
          (f.judged (f.room refl)))
          refl _ _ a.request.now _
          (c.store_page.ensures.0 d s (page_sending d a.m.now h _ c.load-g.ensures c.requires.0)),
      omega arith,
    )
