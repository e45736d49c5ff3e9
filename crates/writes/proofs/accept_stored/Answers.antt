-- `writes::accept_stored` meets its contract. Assumes nothing.
use native.Mathlib.Omega.{arith}
use mathlib.Core.Path.{refl, sym, ◌∙◌}
use Rattle.rules.specs.Pages.{stores_more}
use Rattle.replies.specs.laws.JudgedLaws.{storing_reason, and-false}
use Rattle.replies.specs.laws.TakenLaws.{answer-stops}
use Rattle.guard_state.specs.State.{state_of}
use Rattle.guard_state.specs.laws.Ranges.{in_range}
use Rattle.writes.specs.laws.RepliedLaws.{store_waits, store_full, next-sending, next_most, stored_next}
use Rattle.writes.specs.Writing.{write_in}
use Rattle.writes.proofs.accept_stored.Goals as goal

pub returns-then-is_full : goal.returns-then-is_full
returns-then-is_full c =
    let a = c.args in (
      λ d u w h. store_full d a.m.now c.requires.0 w a.reply.now
          (sym c.is_full.ensures ∙ c.if-is_full.true)
          _ _ _ (c.keep_pages.ensures.sends d h a.request.now),
      omega arith,
    )

pub returns-in-Err : goal.returns-in-Err
returns-in-Err c =
    let a = c.args in (
      λ d u w h. answer-stops d w (state_of d a.m.now) a.reply.now _ (store_waits d a.m.now c.requires.0)
          (and-false (stores_more (write_in a.m.now)) _ (sym c.is_full.ensures ∙ c.if-is_full.false)) _ _
          a.request.now
          (c.in-Err.ensures ∙ sym (storing_reason (state_of d a.m.now).skeleton.tables a.reply.now _ _
          _ _)) refl,
      refl,
    )

pub overflow_add-page : goal.overflow_add-page
overflow_add-page c = record { fits = omega (arith, (in_range _ _ c.load-g.ensures).page) }

pub returns-then-page-gt-FILE_PAGES : goal.returns-then-page-gt-FILE_PAGES
returns-then-page-gt-FILE_PAGES c = (
  λ d u w h. absurd (omega (
    arith,
    next_most d c.args.m.now h _ c.load-g.ensures c.requires.0 _ refl,
    c.if-page-gt-FILE_PAGES.true,
  )),
  refl,
)

pub returns : goal.returns
returns c =
    let a = c.args in (
      λ d u w h. stored_next d a.m.now h _ c.load-g.ensures c.requires.0 _ refl w a.reply.now _ _
          a.request.now _
          (c.in_default.ensures)
          (c.carry_on.ensures.0 d u (next-sending d a.m.now h _ c.load-g.ensures c.requires.0 _ refl)),
      omega arith,
    )
