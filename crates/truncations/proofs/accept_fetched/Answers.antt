-- `truncations::accept_fetched` meets its contract. Assumes nothing.
use native.Mathlib.Omega.{arith}
use mathlib.Core.Path.{refl}
use Rattle.page_changes.specs.laws.FetchedLaws.{judged-stops, judged-stores}
use Rattle.truncations.specs.laws.RepliedLaws.{fetch_waits, page_sending, page_room}
use Rattle.truncations.proofs.accept_fetched.Goals as goal

pub returns-in-Err : goal.returns-in-Err
returns-in-Err c =
    let a = c.args in
    let f = c.in-Err.ensures in (
      λ d s w h. judged-stops d a.m.now _ h (omega (arith, c.requires.0), omega (arith, c.requires.0))
          (fetch_waits d a.m.now c.requires.0) _ refl _ a.reply.now
          (f.judged (page_room d a.m.now h c.requires.0))
          s _ refl a.request.now,
      refl,
    )

pub returns : goal.returns
returns c =
    let a = c.args in
    let f = c.in_default.ensures in (
      λ d s w h. judged-stores d a.m.now _ h (omega (arith, c.requires.0), omega (arith, c.requires.0))
          (fetch_waits d a.m.now c.requires.0) _ refl _ a.reply.now (f.judged (f.room refl))
          s refl _ _ a.request.now _
          (c.store_page.ensures.0 d s (page_sending d a.m.now h c.requires.0)),
      omega arith,
    )
