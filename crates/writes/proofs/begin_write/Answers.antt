-- `writes::begin_write` meets its contract. Assumes nothing.
use native.Mathlib.Omega.{arith}
use mathlib.Core.Path.{ap, refl}
use Rattle.refusals.specs.Numbers.{numbered}
use Rattle.rules.specs.Calls.{write}
use Rattle.handle_calls.specs.laws.HandledLaws.{judged-at}
use Rattle.guard_state.specs.State.{state_of}
use Rattle.guard_state.specs.laws.LoadedLaws.{counts_fit, tables-loaded}
use Rattle.page_changes.specs.laws.BegunLaws.{call_refused, call_passed}
use Rattle.writes.proofs.begin_write.Goals as goal

pub judge_write-requires : goal.judge_write-requires
judge_write-requires c =
    let a = c.args in
    ((counts_fit a.m.now _ c.load-g.ensures).0, (counts_fit a.m.now _ c.load-g.ensures).1, omega arith)

pub write_at-requires : goal.write_at-requires
write_at-requires c =
    let a = c.args in
    let o = (counts_fit a.m.now _ c.load-g.ensures).1 in
    let p = c.judge_write.ensures.there _ _ (ap numbered c.in-Ok.is) in
    (omega (arith, p, o), c.requires.0, omega arith, omega (arith, c.requires.2))

pub returns-in-Ok : goal.returns-in-Ok
returns-in-Ok c =
    let a = c.args in (
      λ d u w h.
          call_passed d (state_of d a.m.now) a.handle (write a.handle a.bytes.now) _
          (judged-at _ c.judge_write.ensures _ (tables-loaded a.m.now _ c.load-g.ensures d) d.width
          h.holds.valid.tables.nodes_valid.sound)
          _ _ (ap numbered c.in-Ok.is) _ _ a.request.now _ (c.write_at.ensures.0 d u h a.handle),
      omega arith,
    )

pub returns-in-Err : goal.returns-in-Err
returns-in-Err c =
    let a = c.args in (
      λ d u w h.
          call_refused d (state_of d a.m.now) a.handle (write a.handle a.bytes.now) _
          (judged-at _ c.judge_write.ensures _ (tables-loaded a.m.now _ c.load-g.ensures d) d.width
          h.holds.valid.tables.nodes_valid.sound)
          _ a.m.now a.request.now (ap numbered c.in-Err.is) refl,
      refl,
    )
