-- `opens::end_at` meets its contract. Assumes nothing.
use native.Mathlib.Omega.{arith}
use Rattle.opens.specs.laws.StartedLaws.{cursor_ends}
use Rattle.opens.proofs.end_at.Goals as goal

pub returns : goal.returns
returns c =
    let a = c.args in (
      λ q. cursor_ends q a.m.now _ _ a.opened a.position c.set_cursor.ensures.0 c.requires.0
          (c.finish.ensures.0 q),
      omega arith,
    )
