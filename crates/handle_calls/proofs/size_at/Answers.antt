-- `handle_calls::size_at` meets its contract. Assumes nothing.
use native.Mathlib.Omega.{arith}
use mathlib.Core.Path.{◌≡◌, sym, ◌∙◌}
use lib.ListN.{length, take}
use Rattle.memory.specs.Layout.{mem_of}
use Rattle.handle_calls.specs.laws.HandledLaws.{size-front, size_past}
use Rattle.tables.specs.laws.RowsInUse.{count-nodes}
use Rattle.handle_calls.proofs.size_at.Goals as goal

pub returns-then-n-k : goal.returns-then-n-k
returns-then-n-k c =
    let a = c.args in
    let ns = take a.n (mem_of a.m.now).nodes in
    let e : length ns ≡ a.n = count-nodes a.m.now a.n (omega arith) in
    sym (size_past ns a.k (omega arith))

pub returns : goal.returns
returns c =
    let a = c.args in
    c.node_size.ensures ∙ sym (size-front a.n (mem_of a.m.now).nodes a.k (omega arith))
