-- `memory::put_digest` meets its contract. Assumes nothing.
use native.Mathlib.Omega.{arith}
use mathlib.Core.Path.{ap, ◌∙◌}
use Rattle.memory.specs.Layout.{mem_of}
use Rattle.memory.specs.laws.MemLaws.{mem_digest}
use borrow.Author.Rules.{rules}
use Rattle.memory.proofs.put_digest.Goals as goal

pub returns : goal.returns
returns c =
    let a = c.args in
    let e = c.put.ensures in
    (ap mem_of e ∙ mem_digest a.m.now a.x (omega arith) a.k (search rules) (omega arith), omega arith)
