-- `reads::take_page` meets its contract. Assumes nothing.
use native.Mathlib.Omega.{arith}
use Rattle.outcomes.specs.laws.SentLaws.{sends_leaves, fills_leaves}
use Rattle.reads.proofs.take_page.Goals as goal

pub returns-then-page-position : goal.returns-then-page-position
returns-then-page-position c =
    let a = c.args in record {
      leaves = λ q h e. sends_leaves q _ _ _ a.request.now _ (c.next_page.ensures.sends q a.reply.now
          c.page_part-more.ensures.0 e) a.answer.now;
      keeps_length = omega arith;
    }

pub returns : goal.returns
returns c =
    let a = c.args in record {
      leaves = λ q h e.
          fills_leaves q _ _ _ a.answer.now _
          (c.last_page.ensures.fills q a.node a.page a.reply.now (omega (arith, c.if-page-position.false))
          c.page_part-more.ensures.0 e) a.request.now;
      keeps_length = omega arith;
    }
