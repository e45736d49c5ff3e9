-- `reads::begin_read` meets its contract. Assumes nothing.
use native.Mathlib.Omega.{arith}
use mathlib.Core.Path.{refl, ap}
use Rattle.refusals.specs.Numbers.{numbered}
use Rattle.handle_calls.specs.laws.HandledLaws.{judged-at}
use Rattle.guard_state.specs.declared.Guard.{Guard}
use Rattle.guard_state.specs.State.{state_of}
use Rattle.guard_state.specs.laws.LoadedLaws.{counts_fit, tables-loaded}
use Rattle.reads.specs.laws.ReadLaws.{size_most, refused_sends, read_sends}
use Rattle.reads.proofs.begin_read.Goals as goal

pub judge_read-requires : goal.judge_read-requires
judge_read-requires c =
    let a = c.args in
    ((counts_fit a.m.now _ c.load-g.ensures).0, (counts_fit a.m.now _ c.load-g.ensures).1, omega arith)

pub read_at-requires : goal.read_at-requires
read_at-requires c =
    let a = c.args in
    let o = (counts_fit a.m.now _ c.load-g.ensures).1 in
    let p = (c.judge_read.ensures a.count).there _ _ (ap numbered c.in-Ok.is) in (
      ap (λ (x : Guard). x.nodes) c.load-g.ensures,
      omega (arith, p, ap (λ (x : Guard). x.opens) c.load-g.ensures),
      (counts_fit a.m.now _ c.load-g.ensures).0,
      omega (arith, p, o),
      omega arith,
      omega arith,
      omega arith,
    )

pub returns-in-Ok : goal.returns-in-Ok
returns-in-Ok c =
    let a = c.args in (
      λ q sha w h.
          let e = judged-at _ (c.judge_read.ensures a.count) _ (tables-loaded a.m.now _ c.load-g.ensures q)
          q.width h.holds.valid.tables.nodes_valid.sound in
          read_sends q (state_of q a.m.now) a.handle a.count _ e _ _ _ a.request.now _ _ (ap numbered c.in-Ok.is)
          (c.read_at.ensures.sends q (size_most q.width _ h.holds.valid.tables.nodes_valid.sound _)),
      omega arith,
    )

pub returns-in-Err : goal.returns-in-Err
returns-in-Err c =
    let a = c.args in (
      λ q sha w h.
          refused_sends q (state_of q a.m.now) a.handle a.count _
          (judged-at _ (c.judge_read.ensures a.count) _ (tables-loaded a.m.now _ c.load-g.ensures q)
          q.width h.holds.valid.tables.nodes_valid.sound)
          _ a.m.now a.request.now (ap numbered c.in-Err.is) refl,
      refl,
    )
