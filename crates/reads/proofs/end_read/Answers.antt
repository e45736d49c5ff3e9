-- `reads::end_read` meets its contract. Assumes nothing.
use native.Mathlib.Omega.{arith}
use mathlib.Core.Path.{◌∙◌}
use Rattle.reads.specs.laws.PageLaws.{cursor_ends}
use Rattle.reads.proofs.end_read.Goals as goal

pub returns : goal.returns
returns c =
    let a = c.args in (
      λ q. c.finish.ensures.0 q ∙ cursor_ends q a.m.now _ a.opened a.end c.requires.0
          c.set_cursor.ensures.0,
      omega arith,
    )
