-- `memory::put_digests` meets its contract. Assumes nothing.
use mathlib.Core.Path.{ap, ◌∙◌}
use native.Mathlib.Omega.{arith}
use Rattle.memory.specs.Layout.{mem_of}
use Rattle.memory.specs.laws.FlatLaws.{mem_digests}
use Rattle.memory.proofs.put_digests.Goals as goal

pub returns : goal.returns
returns c =
    let a = c.args in (
      ap mem_of c.put.ensures ∙ mem_digests a.m.now a.x.now a.n (omega arith) (omega arith)
          (omega arith),
      omega arith,
    )
