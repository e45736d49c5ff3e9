-- `tables::rows_of` meets its contract. Assumes nothing.
use native.Mathlib.Omega.{arith}
use mathlib.Core.Path.{ap, ◌∙◌}
use Rattle.filesystem.specs.Tables.{pages_for}
use Rattle.memory.specs.Layout.{mem_of}
use Rattle.memory.specs.laws.MemLaws.{length-nodes}
use Rattle.tables.specs.laws.ContentLaws.{total-next}
use Rattle.tables.proofs.rows_of.Goals as goal

pub rows_moved-behind-requires : goal.rows_moved-behind-requires
rows_moved-behind-requires c =
    let a = c.args in
    let l = length-nodes a.m.now in
    let e = c.pages_for-old.ensures.0 ∙ ap pages_for c.node_size.ensures in
    let t = total-next (mem_of a.m.now).nodes a.k (omega arith) in
    (omega arith, omega arith, omega (arith, c.first_page-first.ensures.0), omega arith, omega arith)
