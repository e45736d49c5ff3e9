-- `reply_dispatch::accept_reply` meets its contract. Assumes nothing.
use native.Mathlib.Omega.{arith}
use Rattle.outcomes.specs.laws.SentLaws.{sends_leaves, fills_leaves}
use Rattle.reply_dispatch.proofs.accept_reply.Goals as goal

pub returns-in-6 : goal.returns-in-6
returns-in-6 c =
    let a = c.args in (
      λ d h w held low high wide. fills_leaves d _ _ _ _ _ (c.accept_listing.ensures.0 d h w held wide)
          a.request.now,
      omega arith,
    )

pub returns-in-7 : goal.returns-in-7
returns-in-7 c =
    let a = c.args in (
      λ d h w held low high wide. fills_leaves d _ _ _ _ _ (c.accept_stat.ensures.0 d h w held wide)
          a.request.now,
      omega arith,
    )

pub returns-in-17 : goal.returns-in-17
returns-in-17 c =
    let a = c.args in (
      λ d h w held low high wide. sends_leaves d _ _ _ _ _ (c.accept_rename.ensures.0 d h w held
          a.request.now) a.answer.now,
      omega arith,
    )

pub returns-in-1-to-5 : goal.returns-in-1-to-5
returns-in-1-to-5 c =
    let a = c.args in (
      λ d h w held low high wide. sends_leaves d _ _ _ _ _ (c.accept_change.ensures.0 d h w held a.request.now)
          a.answer.now,
      omega arith,
    )

pub returns-in-9-to-14 : goal.returns-in-9-to-14
returns-in-9-to-14 c =
    let a = c.args in (
      λ d h w held low high wide. sends_leaves d _ _ _ _ _ (c.accept_page_change.ensures.0 d h w held)
          a.answer.now,
      omega arith,
    )

pub returns-in-15-to-16 : goal.returns-in-15-to-16
returns-in-15-to-16 c =
    let a = c.args in (
      λ d h w held low high wide. sends_leaves d _ _ _ _ _ (c.accept_on_maps.ensures.0 d h w held a.request.now)
          a.answer.now,
      omega arith,
    )
