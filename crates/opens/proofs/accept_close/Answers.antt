-- `opens::accept_close` meets its contract. Assumes nothing.
use native.Mathlib.Omega.{arith}
use mathlib.Core.Path.{◌≡◌, refl, ap, sym, ◌∙◌}
use Rattle.memory.specs.Layout.{mem_of}
use Rattle.tables.specs.View.{View}
use Rattle.guard_state.specs.declared.Guard.{Guard}
use Rattle.rules.specs.Rules.{reply_action}
use Rattle.replies.specs.laws.JudgedLaws.{closing_reason}
use Rattle.guard_state.specs.State.{numbers_of, state_of}
use Rattle.guard_state.specs.Waits.{resting_state}
use Rattle.guard_state.specs.laws.LoadedLaws.{counts_fit}
use Rattle.guard_state.specs.laws.PendingLaws.{close_pending}
use Rattle.replies.specs.laws.TakenLaws.{answer-stops, answer_finishes}
use Rattle.opens.specs.laws.OpenedLaws.{close-ends, close_premises}
use Rattle.opens.proofs.accept_close.Goals as goal

pub returns-in-Err : goal.returns-in-Err
returns-in-Err c =
    let a = c.args in (
      λ d sha w held q. answer-stops d w (state_of d a.m.now) a.reply.now _
          (close_pending d a.m.now c.requires.0) refl _ _ q (c.in-Err.ensures
          ∙ sym (closing_reason (state_of d a.m.now).skeleton.tables a.reply.now _)) refl,
      refl,
    )

pub returns-then-o-k : goal.returns-then-o-k
returns-then-o-k c =
    let a = c.args in
    let n : c.load-g.result.opens ≡ (numbers_of (mem_of a.m.now).head).opens = ap (λ (x : Guard). x.opens)
    c.load-g.ensures in
    let k : c.load-g.result.opened ≡ (numbers_of (mem_of a.m.now).head).opened = ap (λ (x : Guard). x.opened)
    c.load-g.ensures in
    (λ d sha w held q. absurd (omega (arith, n, k, close_premises d a.m.now held c.requires.0, c.if-o-k.true)), refl)

pub remove_open-requires : goal.remove_open-requires
remove_open-requires c =
    let a = c.args in
    let f = counts_fit a.m.now _ c.load-g.ensures in
    (omega (arith, c.if-o-k.false), f.1, omega arith)

pub rest-requires : goal.rest-requires
rest-requires c =
    let a = c.args in
    let f = counts_fit a.m.now _ c.load-g.ensures in
    (f.0, omega (arith, f.1), omega arith)

pub returns : goal.returns
unfolding reply_action
returns c =
    let a = c.args in (
      λ d sha w held q.
          answer_finishes d w (state_of d a.m.now) a.reply.now _
          (close_pending d a.m.now c.requires.0) refl _ 0 _ q
          (c.in_default.ensures
          ∙ sym (closing_reason (state_of d a.m.now).skeleton.tables a.reply.now _)) refl
          (c.rest.ensures.0 d
          ∙ ap (λ (x : View). resting_state d x) (c.remove_open.ensures.by_index c.load-g.result.nodes)
          ∙ close-ends d a.m.now _ c.load-g.ensures),
      omega arith,
    )
