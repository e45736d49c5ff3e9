-- `truncations::begin_truncate` meets its contract. Assumes nothing.
use native.Mathlib.Omega.{arith}
use mathlib.Core.Path.{ap, refl}
use Rattle.refusals.specs.Numbers.{numbered}
use Rattle.rules.specs.Calls.{truncate}
use Rattle.handle_calls.specs.laws.HandledLaws.{judged-at}
use Rattle.guard_state.specs.State.{state_of}
use Rattle.guard_state.specs.laws.LoadedLaws.{counts_fit, tables-loaded}
use Rattle.page_changes.specs.laws.BegunLaws.{call_refused, call_passed}
use Rattle.truncations.proofs.begin_truncate.Goals as goal

pub judge_truncate-requires : goal.judge_truncate-requires
judge_truncate-requires c =
    let a = c.args in
    ((counts_fit a.m.now _ c.load-g.ensures).0, (counts_fit a.m.now _ c.load-g.ensures).1, omega arith)

pub truncate_at-requires : goal.truncate_at-requires
truncate_at-requires c =
    let a = c.args in
    let o = (counts_fit a.m.now _ c.load-g.ensures).1 in
    let p = c.judge_truncate.ensures.judgement.there _ _ (ap numbered c.in-Ok.is) in
    let z = c.in-Ok.ensures.fits in
    (omega (arith, p, o), omega (arith, z), omega arith, omega (arith, c.requires.1))

pub returns-in-Ok : goal.returns-in-Ok
returns-in-Ok c =
    let a = c.args in (
      λ d sha w h.
          call_passed d (state_of d a.m.now) a.handle (truncate a.handle a.size) _
          (judged-at _ c.judge_truncate.ensures.judgement _ (tables-loaded a.m.now _ c.load-g.ensures d) d.width
          h.holds.valid.tables.nodes_valid.sound)
          _ _ (ap numbered c.in-Ok.is) _ _ a.request.now _ (c.truncate_at.ensures.0 d sha h a.handle),
      omega arith,
    )

pub returns-in-Err : goal.returns-in-Err
returns-in-Err c =
    let a = c.args in (
      λ d sha w h.
          call_refused d (state_of d a.m.now) a.handle (truncate a.handle a.size) _
          (judged-at _ c.judge_truncate.ensures.judgement _ (tables-loaded a.m.now _ c.load-g.ensures d) d.width
          h.holds.valid.tables.nodes_valid.sound)
          _ a.m.now a.request.now (ap numbered c.in-Err.is) refl,
      refl,
    )
