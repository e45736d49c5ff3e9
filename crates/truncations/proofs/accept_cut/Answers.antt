-- `truncations::accept_cut` meets its contract. Assumes nothing.
use native.Mathlib.Omega.{arith}
use mathlib.Core.Path.{refl, sym, ◌∙◌}
use Rattle.replies.specs.laws.JudgedLaws.{cutting_reason}
use Rattle.replies.specs.laws.TakenLaws.{answer-stops}
use Rattle.guard_state.specs.State.{state_of}
use Rattle.guard_state.specs.laws.Ranges.{in_range}
use Rattle.truncations.specs.laws.RepliedLaws.{cut_waits, cut_ended, cut_done_lem}
use Rattle.truncations.specs.Shrinking.{shrink_in}
use Rattle.truncations.proofs.accept_cut.Goals as goal

pub returns-in-Err : goal.returns-in-Err
returns-in-Err c =
    let a = c.args in (
      λ d sha w h q. answer-stops d w (state_of d a.m.now) a.reply.now _ (cut_waits d a.m.now c.requires.0)
          (unfold shrink_in in refl) _
          _ q
          (c.in-Err.ensures ∙ sym (cutting_reason (state_of d a.m.now).skeleton.tables a.reply.now _ _
          _)) refl,
      refl,
    )

pub overflow_cast-size : goal.overflow_cast-size
overflow_cast-size c = record { fits = omega (arith, (in_range _ _ c.load-g.ensures).size) }

pub open_cursor-requires : goal.open_cursor-requires
open_cursor-requires c = ((in_range _ _ c.load-g.ensures).opened, omega arith)

pub end_change-requires : goal.end_change-requires
end_change-requires c = (
  (in_range _ _ c.load-g.ensures).opened,
  omega arith,
)

pub returns : goal.returns
returns c =
    let a = c.args in (
      λ d sha w h q. cut_done_lem d a.m.now h c.requires.0 _ c.load-g.ensures w a.reply.now _ _ q q
          (c.in_default.ensures)
          (c.end_change.ensures.sends d _ (cut_ended d a.m.now h c.requires.0 _ c.load-g.ensures _ _
          c.open_cursor.ensures c.min-cursor.ensures) q),
      omega arith,
    )
