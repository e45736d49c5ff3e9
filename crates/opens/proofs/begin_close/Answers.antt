-- `opens::begin_close` meets its contract. Assumes nothing.
use native.Mathlib.Omega.{arith}
use mathlib.Core.Path.{refl, ap, sym, ◌∙◌}
use Rattle.refusals.specs.Numbers.{numbered}
use Rattle.filesystem.specs.Tables.{Tables, OpenFile, open_at}
use Rattle.memory.specs.Layout.{mem_of}
use Rattle.tables.specs.View.{tables_in}
use Rattle.tables.specs.laws.RowsInUse.{count-opens, open_front}
use Rattle.rules.specs.Calls.{close}
use Rattle.handle_calls.specs.laws.HandledLaws.{judged-at}
use Rattle.guard_state.specs.State.{state_of}
use Rattle.guard_state.specs.laws.LoadedLaws.{counts_fit, tables-loaded}
use Rattle.opens.specs.laws.StartedLaws.{handle_refused, close_sends}
use Rattle.opens.proofs.begin_close.Goals as goal

pub judge_close-requires : goal.judge_close-requires
judge_close-requires c =
    let a = c.args in
    let f = counts_fit a.m.now _ c.load-g.ensures in
    (f.0, f.1, omega arith)

pub send_close-requires : goal.send_close-requires
unfolding tables_in
send_close-requires c =
    let a = c.args in
    let f = counts_fit a.m.now _ c.load-g.ensures in
    let n = count-opens a.m.now c.load-g.result.opens f.1 in
    (omega (arith, f.1, c.judge_close.ensures.there _ _ (ap numbered c.in-Ok.is)), omega arith, omega arith)

pub returns-in-Ok : goal.returns-in-Ok
unfolding tables_in
returns-in-Ok c =
    let a = c.args in
    let f = counts_fit a.m.now _ c.load-g.ensures in
    let n = count-opens a.m.now c.load-g.result.opens f.1 in
    let p = c.judge_close.ensures.there _ _ (ap numbered c.in-Ok.is) in (
      λ q sha w h.
          let u = tables-loaded a.m.now _ c.load-g.ensures q in
          close_sends q (state_of q a.m.now) a.handle _ _ _ _ _ a.request.now _ _
          (judged-at _ c.judge_close.ensures _ u q.width h.holds.valid.tables.nodes_valid.sound)
          (ap numbered c.in-Ok.is)
          (ap (λ (t : Tables). (open_at t.opens c.in-Ok.file.opened).descriptor) (sym u)
          ∙ ap (λ (x : OpenFile). x.descriptor) (open_front c.load-g.result.opens (mem_of a.m.now).opens
          c.in-Ok.file.opened (omega (arith, n, p))))
          (c.send_close.ensures.0 q) c.send_close.ensures.2 c.send_close.ensures.3 (omega arith),
      omega arith,
    )

pub returns-in-Err : goal.returns-in-Err
returns-in-Err c =
    let a = c.args in (
      λ q sha w h.
          handle_refused q (state_of q a.m.now) a.handle _ (close a.handle) _ a.m.now a.request.now
          (judged-at _ c.judge_close.ensures _ (tables-loaded a.m.now _ c.load-g.ensures q) q.width
          h.holds.valid.tables.nodes_valid.sound) (ap numbered c.in-Err.is) refl,
      refl,
    )
