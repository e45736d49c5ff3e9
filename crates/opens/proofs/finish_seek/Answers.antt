-- `opens::finish_seek` meets its contract. Assumes nothing.
use native.Mathlib.Omega.{arith}
use mathlib.Core.Path.{refl, ap}
use Rattle.refusals.specs.Numbers.{numbered}
use Rattle.tables.specs.View.{tables_in}
use Rattle.rules.specs.Calls.{seek}
use Rattle.handle_calls.specs.laws.HandledLaws.{judged-at}
use Rattle.guard_state.specs.declared.Guard.{Guard}
use Rattle.guard_state.specs.State.{state_of}
use Rattle.guard_state.specs.laws.LoadedLaws.{counts_fit, tables-loaded}
use Rattle.opens.specs.laws.StartedLaws.{handle_refused, seek_sends}
use Rattle.opens.proofs.finish_seek.Goals as goal

pub judge_seek-requires : goal.judge_seek-requires
judge_seek-requires c =
    let a = c.args in
    let f = counts_fit a.m.now _ c.load-g.ensures in
    (f.0, f.1, omega arith)

pub end_at-requires : goal.end_at-requires
unfolding tables_in
end_at-requires c =
    let a = c.args in
    let f = counts_fit a.m.now _ c.load-g.ensures in
    let p = c.judge_seek.ensures.judgement.there _ _ (ap numbered c.in-Ok.is) in
    let o = ap (λ (g : Guard). g.opens) c.load-g.ensures in
    (omega (arith, p, o), omega (arith, p, f.1), omega arith)

pub returns-in-Ok : goal.returns-in-Ok
returns-in-Ok c =
    let a = c.args in (
      λ q sha w h x.
          seek_sends q (state_of q a.m.now) a.handle _ _ _ a.position _ x
          (judged-at _ c.judge_seek.ensures.judgement _ (tables-loaded a.m.now _ c.load-g.ensures q) q.width
          h.holds.valid.tables.nodes_valid.sound) (ap numbered c.in-Ok.is)
          (c.end_at.ensures.0 q),
      omega arith,
    )

pub returns-in-Err : goal.returns-in-Err
returns-in-Err c =
    let a = c.args in (
      λ q sha w h x.
          handle_refused q (state_of q a.m.now) a.handle _ (seek a.handle a.position) _ a.m.now x
          (judged-at _ c.judge_seek.ensures.judgement _ (tables-loaded a.m.now _ c.load-g.ensures q) q.width
          h.holds.valid.tables.nodes_valid.sound) (ap numbered c.in-Err.is) refl,
      refl,
    )
