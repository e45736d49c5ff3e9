-- `truncations::accept_growth` meets its contract. Assumes nothing.
use native.Mathlib.Omega.{arith}
use mathlib.Core.Path.{refl, sym, ◌∙◌}
use mathlib.Core.Bool.{true≢false}
use Rattle.rules.specs.Rules.{full_action}
use Rattle.replies.specs.laws.JudgedLaws.{cutting_reason}
use Rattle.replies.specs.laws.TakenLaws.{answer-stops, answer-gives_up}
use Rattle.guard_state.specs.State.{state_of}
use Rattle.guard_state.specs.laws.LoadedLaws.{counts_fit}
use Rattle.guard_state.specs.laws.PendingLaws.{grow_pending}
use Rattle.guard_state.specs.laws.Ranges.{in_range}
use Rattle.truncations.specs.laws.GrowthLaws.{can_grow, growth_done}
use Rattle.truncations.proofs.accept_growth.Goals as goal

pub returns-then-is_full : goal.returns-then-is_full
returns-then-is_full c =
    let a = c.args in (
      λ d sha w h q. answer-gives_up d w (state_of d a.m.now) a.reply.now _
          (grow_pending d a.m.now c.requires.0)
          (sym c.is_full.ensures ∙ c.if-is_full.true) (unfold full_action in refl) _ _ q q
          (c.give_up.ensures.sends d q),
      omega arith,
    )

pub returns-in-Err : goal.returns-in-Err
returns-in-Err c =
    let a = c.args in (
      λ d sha w h q. answer-stops d w (state_of d a.m.now) a.reply.now _ (grow_pending d a.m.now c.requires.0)
          (sym c.is_full.ensures ∙ c.if-is_full.false) _ _ q
          (c.in-Err.ensures ∙ sym (cutting_reason (state_of d a.m.now).skeleton.tables a.reply.now _ _
          _)) refl,
      refl,
    )

pub overflow_cast-g : goal.overflow_cast-g
overflow_cast-g c = record { fits = omega (arith, (in_range _ _ c.load-g.ensures).size) }

pub grow_file-requires : goal.grow_file-requires
grow_file-requires c =
    let a = c.args in
    ((counts_fit a.m.now _ c.load-g.ensures).0, omega arith)

pub returns-then-not-grow_file : goal.returns-then-not-grow_file
returns-then-not-grow_file c =
    let a = c.args in (
      λ d sha w h q. absurd (true≢false (sym (c.grow_file.ensures.value
          (can_grow d a.m.now h c.requires.0 _ c.load-g.ensures)).0 ∙ c.if-not-grow_file.true)),
      c.grow_file.ensures.keeps_length,
    )

pub rest-requires : goal.rest-requires
rest-requires c =
    let a = c.args in
    let f = counts_fit a.m.now _ c.load-g.ensures in
    (f.0, f.1, omega arith)

pub returns : goal.returns
returns c =
    let a = c.args in (
      λ d sha w h q.
          growth_done d a.m.now h c.requires.0 _ c.load-g.ensures sha w a.reply.now
          (c.in_default.ensures) _ _ q
          ((c.grow_file.ensures.value (can_grow d a.m.now h c.requires.0 _ c.load-g.ensures)).1
          c.load-g.result.opens) (c.rest.ensures.0 d),
      omega arith,
    )
