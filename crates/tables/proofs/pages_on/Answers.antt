-- `tables::pages_on` meets its contract. The loop's invariant: t is the total of the nodes passed. Assumes nothing.
use mathlib.Core.Path.{◌≡◌, sym, ap, ◌∙◌}
use native.Mathlib.Omega.{arith}
use lib.ListN.{length}
use Rattle.filesystem.specs.Tables.{pages_for, node_at}
use Rattle.memory.specs.Layout.{mem_of}
use Rattle.memory.specs.laws.MemLaws.{length-nodes}
use Rattle.tables.specs.laws.ContentLaws.{total-next}
use Rattle.tables.proofs.pages_on.Goals as goal

pub loop-i-preserved : goal.loop-i-preserved
loop-i-preserved c =
    let a = c.args in
    let l = c.loop-i in
    let ns = (mem_of a.m.now).nodes in
    let f : length ns ≡ _ = length-nodes a.m.now in
    let e : c.pages_for-t.result ≡ pages_for (node_at ns l.i).size = c.pages_for-t.ensures.0
    ∙ ap pages_for c.node_size.ensures in
    (omega arith, omega arith, rw (e, l.invariant.2) (sym (total-next ns l.i (omega arith))))
