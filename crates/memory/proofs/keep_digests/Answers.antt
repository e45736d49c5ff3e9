-- `memory::keep_digests` meets its contract. Assumes nothing.
use native.Mathlib.Omega.{arith}
use mathlib.Core.Path.{ap, ◌∙◌}
use Rattle.memory.specs.Layout.{mem_of}
use Rattle.memory.specs.laws.MemLaws.{mem_keep}
use Rattle.memory.proofs.keep_digests.Goals as goal

pub returns : goal.returns
returns c =
    let a = c.args in (
      ap mem_of c.shift.ensures ∙ mem_keep a.m.now (omega arith) a.i a.n (omega arith)
          (omega arith),
      omega arith,
    )
