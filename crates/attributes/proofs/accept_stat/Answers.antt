-- `attributes::accept_stat` meets its contract. Assumes nothing.
use native.Mathlib.Omega.{arith}
use mathlib.Core.Path.{◌≡◌, refl, ap, sym, ◌∙◌}
use Prim.Native.Nat.{ℕ}
use Rattle.filesystem.specs.Tables.{Node, node_at}
use Rattle.memory.specs.Layout.{mem_of}
use Rattle.rules.specs.Requests.{asked, stating}
use Rattle.rules.specs.Rules.{finish, reply_action}
use Rattle.replies.specs.Judged.{reason_for}
use Rattle.guard_state.specs.declared.Guard.{Guard}
use Rattle.guard_state.specs.State.{numbers_of, state_of}
use Rattle.guard_state.specs.laws.LoadedLaws.{counts_fit, node-there}
use Rattle.guard_state.specs.laws.PendingLaws.{stat_pending}
use Rattle.replies.specs.laws.TakenLaws.{answer_most, stop_fills, answer_fills, stating_long}
use Rattle.replies.specs.laws.ReasonLaws.{reason_loaded}
use Rattle.attributes.specs.laws.ChangedLaws.{stat_premises}
use Rattle.attributes.proofs.accept_stat.Goals as goal

pub returns-then-n-k : goal.returns-then-n-k
returns-then-n-k c =
    let a = c.args in
    let n : c.load-g.result.nodes ≡ (numbers_of (mem_of a.m.now).head).nodes = ap (λ (x : Guard). x.nodes)
    c.load-g.ensures in
    let k : c.load-g.result.node ≡ (numbers_of (mem_of a.m.now).head).node = ap (λ (x : Guard). x.node)
    c.load-g.ensures in
    (λ d sha w held f. absurd (omega (arith, n, k, stat_premises d a.m.now held c.requires.0, c.if-n-k.true)), refl)

pub judge_stat-requires : goal.judge_stat-requires
judge_stat-requires c =
    let a = c.args in
    (omega (arith, c.if-n-k.false), (counts_fit a.m.now _ c.load-g.ensures).0, omega arith)

pub returns-in-Err : goal.returns-in-Err
returns-in-Err c =
    let a = c.args in (
      λ d sha w held f.
          stop_fills d w (state_of d a.m.now) a.reply.now _ (stat_pending d a.m.now c.requires.0) refl _ _
          a.answer.now
          (c.in-Err.ensures c.load-g.result.opens ∙ reason_loaded d a.m.now _ c.load-g.ensures
          (λ i. asked (stating i)) a.reply.now) refl,
      refl,
    )

pub returns-then-answer-reply : goal.returns-then-answer-reply
returns-then-answer-reply c =
    let a = c.args in (
      λ d sha w held f.
          let s = state_of d a.m.now in
          let n = numbers_of (mem_of a.m.now).head in
          let h : 0 ≡ reason_for s.skeleton.tables a.reply.now (asked (stating n.node)) =
          c.in_default.ensures c.load-g.result.opens
          ∙ reason_loaded d a.m.now _ c.load-g.ensures (λ i. asked (stating i)) a.reply.now in
          absurd (omega (
            arith,
            answer_most d w,
            stating_long s.skeleton.tables a.reply.now n.node h,
            f,
            c.if-answer-reply.true,
          )),
      refl,
    )

pub node_size-size-requires : goal.node_size-size-requires
node_size-size-requires c =
    let a = c.args in (
      omega (
        arith,
        (counts_fit a.m.now _ c.load-g.ensures).0,
        c.if-n-k.false,
      ),
      omega arith,
    )

pub returns : goal.returns
unfolding reply_action
returns c =
    let a = c.args in
    let n = numbers_of (mem_of a.m.now).head in
    let k : c.load-g.result.node ≡ n.node = ap (λ (x : Guard). x.node) c.load-g.ensures in (
      λ d sha w held u.
          let s = state_of d a.m.now in
          let h : 0 ≡ reason_for s.skeleton.tables a.reply.now (asked (stating n.node)) =
          c.in_default.ensures c.load-g.result.opens
          ∙ reason_loaded d a.m.now _ c.load-g.ensures (λ i. asked (stating i)) a.reply.now in
          let q : c.node_size-size.result ≡ (node_at s.skeleton.tables.nodes n.node).size =
          c.node_size-size.ensures ∙ ap (λ (i : ℕ). (node_at (mem_of a.m.now).nodes i).size) k
          ∙ ap (λ (x : Node). x.size) (node-there a.m.now d n.node
          (stat_premises d a.m.now held c.requires.0)) in
          answer_fills d w s a.reply.now _ (stat_pending d a.m.now c.requires.0) refl s.skeleton.tables
          c.node_size-size.result _ a.reply.now _ a.answer.now _
          h (ap (λ (i : ℕ). finish s.skeleton.tables i a.reply.now) (sym q)) (c.finish.ensures.0 d)
          c.put.ensures refl (omega (arith, c.if-answer-reply.false)),
      omega arith,
    )
