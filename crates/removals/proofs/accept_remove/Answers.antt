-- `removals::accept_remove` meets its contract. Assumes nothing.
use native.Mathlib.Omega.{arith}
use mathlib.Core.Path.{◌≡◌, refl, ap, sym, ◌∙◌}
use Rattle.filesystem.specs.Tables.{Tables, page_total}
use Rattle.memory.specs.Layout.{mem_of}
use Rattle.tables.specs.View.{View, tables_in}
use Rattle.rules.specs.Rules.{reply_action}
use Rattle.guard_state.specs.declared.Guard.{Guard}
use Rattle.guard_state.specs.State.{numbers_of, state_of}
use Rattle.guard_state.specs.Waits.{resting_state}
use Rattle.guard_state.specs.laws.LoadedLaws.{counts_fit, tables-loaded}
use Rattle.replies.specs.laws.JudgedLaws.{removing_reason}
use Rattle.guard_state.specs.laws.PendingLaws.{remove_pending}
use Rattle.replies.specs.laws.TakenLaws.{answer-stops, answer_deletes}
use Rattle.removals.specs.laws.RemovedLaws.{remove-ends, remove_premises}
use Rattle.removals.proofs.accept_remove.Goals as goal

pub returns-in-Err : goal.returns-in-Err
returns-in-Err c =
    let a = c.args in (
      λ d sha w held q.
          answer-stops d w (state_of d a.m.now) a.reply.now _
          (remove_pending d a.m.now c.requires.0) refl _ _ q
          (c.in-Err.ensures ∙ sym (removing_reason (state_of d a.m.now).skeleton.tables a.reply.now _)) refl,
      refl,
    )

pub returns-then-n-k : goal.returns-then-n-k
returns-then-n-k c =
    let a = c.args in
    let n : c.load-g.result.nodes ≡ (numbers_of (mem_of a.m.now).head).nodes = ap (λ (x : Guard). x.nodes)
    c.load-g.ensures in
    let k : c.load-g.result.node ≡ (numbers_of (mem_of a.m.now).head).node = ap (λ (x : Guard). x.node)
    c.load-g.ensures in (
      λ d sha w held q. absurd (omega (arith, n, k, (remove_premises d a.m.now held c.requires.0).0, c.if-n-k.true)),
      refl,
    )

pub first_page-requires : goal.first_page-requires
first_page-requires c =
    let a = c.args in
    ((counts_fit a.m.now _ c.load-g.ensures).0, omega arith)

pub returns-then-first_page-gt-PAGES : goal.returns-then-first_page-gt-PAGES
unfolding tables_in
returns-then-first_page-gt-PAGES c =
    let a = c.args in (
      λ d sha w held q.
          absurd (omega (
            arith,
            c.if-first_page-gt-PAGES.true,
            c.first_page.ensures.0,
            ap (λ (x : Tables). page_total x.nodes)
                (tables-loaded a.m.now _ c.load-g.ensures d),
            (remove_premises d a.m.now held c.requires.0).1,
          )),
      refl,
    )

pub remove_node-requires : goal.remove_node-requires
remove_node-requires c =
    let a = c.args in (
      omega (arith, c.if-n-k.false),
      (counts_fit a.m.now _ c.load-g.ensures).0,
      omega
          (arith, c.if-first_page-gt-PAGES.false, c.first_page.ensures.0),
      omega arith,
    )

pub rest-requires : goal.rest-requires
rest-requires c =
    let a = c.args in
    let f = counts_fit a.m.now _ c.load-g.ensures in
    (omega (arith, f.0), f.1, omega arith)

pub returns : goal.returns
unfolding reply_action
returns c =
    let a = c.args in (
      λ d sha w held q.
          answer_deletes d w (state_of d a.m.now) a.reply.now _
          (remove_pending d a.m.now c.requires.0) refl _ _ q
          (c.in_default.ensures
          ∙ sym (removing_reason (state_of d a.m.now).skeleton.tables a.reply.now _)) refl
          (c.rest.ensures.0 d
          ∙ ap (λ (x : View). resting_state d x) (c.remove_node.ensures.by_index c.load-g.result.opens)
          ∙ remove-ends d a.m.now _ c.load-g.ensures),
      omega arith,
    )
