-- `memory::stage` meets its contract. Assumes nothing.
use native.Mathlib.Omega.{arith}
use mathlib.Core.Path.{ap, ◌∙◌}
use Rattle.memory.specs.Layout.{mem_of}
use Rattle.memory.specs.laws.MemLaws.{mem_staged}
use Rattle.memory.proofs.stage.Goals as goal

pub returns : goal.returns
returns c =
    let a = c.args in
    let e = c.put.ensures in
    (ap mem_of e ∙ mem_staged a.m.now a.x.now (omega arith) a.at (omega arith), omega arith)
