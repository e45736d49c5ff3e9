-- `attributes::accept_chmod` meets its contract. Assumes nothing.
use native.Mathlib.Omega.{arith}
use native.Mathlib.Nat.{mod-eq_of_lt}
use mathlib.Core.Path.{◌≡◌, refl, ap, ap₂, sym, ◌∙◌}
use Prim.Native.Nat.{ℕ, ◌%◌}
use Rattle.filesystem.specs.Tables.{set_mode}
use Rattle.memory.specs.Layout.{mem_of, with_nodes}
use Rattle.rules.specs.Rules.{reply_action}
use Rattle.guard_state.specs.declared.Guard.{Guard}
use Rattle.guard_state.specs.State.{numbers_of, state_of}
use Rattle.replies.specs.laws.JudgedLaws.{changing_reason}
use Rattle.guard_state.specs.laws.PendingLaws.{chmod_pending}
use Rattle.replies.specs.laws.TakenLaws.{answer-stops, answer_finishes}
use Rattle.attributes.specs.laws.ChangedLaws.{chmod-ends, chmod_premises}
use Rattle.attributes.proofs.accept_chmod.Goals as goal

pub returns-in-Err : goal.returns-in-Err
returns-in-Err c =
    let a = c.args in (
      λ d sha w held q.
          answer-stops d w (state_of d a.m.now) a.reply.now _
          (chmod_pending d a.m.now c.requires.0) refl _ _ q
          (c.in-Err.ensures ∙ sym (changing_reason (state_of d a.m.now).skeleton.tables a.reply.now _
          _)) refl,
      refl,
    )

pub set_mode-requires : goal.set_mode-requires
unfolding numbers_of
set_mode-requires c =
    let a = c.args in
    let k : c.load-g.result.node ≡ (numbers_of (mem_of a.m.now).head).node = ap (λ (x : Guard). x.node)
    c.load-g.ensures in
    (omega (arith, k), omega arith)

pub returns : goal.returns
unfolding reply_action
returns c =
    let a = c.args in
    let n = numbers_of (mem_of a.m.now).head in
    let k : c.load-g.result.node ≡ n.node = ap (λ (x : Guard). x.node) c.load-g.ensures in
    let z : c.load-g.result.mode ≡ n.mode = ap (λ (x : Guard). x.mode) c.load-g.ensures in (
      λ d sha w held q.
          let fits = chmod_premises d a.m.now held c.requires.0 in
          answer_finishes d w (state_of d a.m.now) a.reply.now _
          (chmod_pending d a.m.now c.requires.0) refl _ 0 _ q
          (c.in_default.ensures
          ∙ sym (changing_reason (state_of d a.m.now).skeleton.tables a.reply.now _ _)) refl
          (c.finish.ensures.0 d
          ∙ chmod-ends d a.m.now _ n.node n.mode
          (c.set_mode.ensures.0
          ∙ ap₂ (λ (i y : ℕ). with_nodes (set_mode (mem_of a.m.now).nodes i y) (mem_of a.m.now)) k
          (ap (λ (y : ℕ). y % 256) z ∙ mod-eq_of_lt fits.1)) fits.0),
      omega arith,
    )
