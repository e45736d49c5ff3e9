-- `memory::put_open` meets its contract. Assumes nothing.
use native.Mathlib.Omega.{arith}
use mathlib.Core.Path.{ap, ◌∙◌}
use Rattle.memory.specs.Layout.{mem_of}
use Rattle.memory.specs.laws.MemLaws.{mem_open}
use borrow.Author.Rules.{rules}
use Rattle.memory.proofs.put_open.Goals as goal

pub returns : goal.returns
returns c =
    let a = c.args in
    let e = c.put.ensures in
    (ap mem_of e ∙ mem_open a.m.now a.row (omega arith) a.i (search rules) (omega arith), omega arith)
