-- `reads::last_page` meets its contract. Assumes nothing.
use native.Mathlib.Omega.{arith}
use mathlib.Core.Path.{sym}
use lib.ListN.{take}
use Rattle.memory.specs.Layout.{mem_of}
use Rattle.guard_state.specs.State.{state_of}
use Rattle.reads.specs.laws.PageLaws.{last_fills, staged_more}
use Rattle.reads.proofs.last_page.Goals as goal

pub returns : goal.returns
returns c =
    let a = c.args in record {
      fills = λ q k i x h e g.
          last_fills q (state_of q a.m.now) k a.opened a.position a.count i _
          (take a.bytes (mem_of a.m.now).staged) x a.more.now _ a.answer.now _
          h g e (c.end_read.ensures.0 q) c.put_answer.ensures
          (sym (staged_more a.m.now a.more.now a.bytes (omega (arith, c.requires.4)) (omega arith)));
      keeps_length = omega arith;
    }
