-- `reads::next_page` meets its contract. Assumes nothing.
use native.Mathlib.Omega.{arith}
use mathlib.Core.Path.{ap, ◌∙◌}
use lib.ListN.{take}
use Rattle.filesystem.specs.Tables.{OpenFile}
use Rattle.memory.specs.Layout.{mem_of}
use Rattle.guard_state.specs.State.{state_of}
use Rattle.outcomes.specs.declared.Outcome.TheVariants.{Ask}
use Rattle.guard_state.specs.laws.LoadedLaws.{open_loaded}
use Rattle.reads.specs.laws.PageLaws.{next_sends}
use Rattle.reads.proofs.next_page.Goals as goal

pub returns : goal.returns
returns c =
    let a = c.args in record {
      sends = λ q x e g.
          next_sends q (state_of q a.m.now) a.node a.opened a.position a.count a.page _ _
          (take a.bytes (mem_of a.m.now).staged) x _ _ a.request.now _ _
          (c.open_descriptor-descriptor.ensures ∙ ap (λ (f : OpenFile). f.descriptor) (open_loaded a.m.now q a.opened
          c.requires.0)) (omega arith) c.requires.1 g e
          (c.wait_page.ensures.0 q) c.write_fetch-l.ensures.0 (ap Ask c.write_fetch-l.ensures.1) (omega arith);
      keeps_length = omega arith;
    }
