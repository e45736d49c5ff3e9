-- `truncations::accept_stored` meets its contract. Assumes nothing.
use native.Mathlib.Omega.{arith}
use mathlib.Core.Path.{refl, sym, ◌∙◌}
use Rattle.replies.specs.laws.JudgedLaws.{storing_reason}
use Rattle.replies.specs.laws.TakenLaws.{answer-stops}
use Rattle.guard_state.specs.State.{state_of}
use Rattle.truncations.specs.laws.RepliedLaws.{store_waits, stored_within, stored_cuts}
use Rattle.truncations.specs.Shrinking.{shrink_in}
use Rattle.truncations.proofs.accept_stored.Goals as goal

pub returns-in-Err : goal.returns-in-Err
returns-in-Err c =
    let a = c.args in (
      λ d sha w h. answer-stops d w (state_of d a.m.now) a.reply.now _ (store_waits d a.m.now c.requires.0)
          (unfold shrink_in in refl) _
          _ a.request.now
          (c.in-Err.ensures ∙ sym (storing_reason (state_of d a.m.now).skeleton.tables a.reply.now _ _
          _ _)) refl,
      refl,
    )

pub returns : goal.returns
returns c =
    let a = c.args in (
      λ d sha w h. stored_cuts d a.m.now h c.requires.0 w a.reply.now _ _ a.request.now _ (c.in_default.ensures)
          (c.ask_cut.ensures.0 d (stored_within d a.m.now h c.requires.0)),
      omega arith,
    )
