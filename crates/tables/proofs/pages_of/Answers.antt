-- `tables::pages_of` meets its contract. Assumes nothing.
use native.Mathlib.Omega.{arith}
use mathlib.Core.Path.{◌≡◌, ap, ◌∙◌}
use lib.ListN.{length, take}
use Rattle.filesystem.specs.Tables.{node_at, pages_for, page_total}
use Rattle.memory.specs.Layout.{mem_of}
use Rattle.memory.specs.laws.MemLaws.{length-nodes}
use Rattle.tables.specs.laws.ContentLaws.{total-part, total-next}
use Rattle.tables.proofs.pages_of.Goals as goal

pub pages_on-total-requires : goal.pages_on-total-requires
pages_on-total-requires c =
    let a = c.args in
    let ns = (mem_of a.m.now).nodes in
    let l : length ns ≡ 256 = length-nodes a.m.now in
    let x : c.first_page-first.result ≡ page_total (take a.k ns) =
    c.first_page-first.ensures.0 in
    let y : c.pages_for.result ≡ pages_for (node_at ns a.k).size = c.pages_for.ensures.0
    ∙ ap pages_for c.node_size.ensures in
    let t = total-next ns a.k (omega arith) in
    (omega arith, omega arith, omega arith, omega arith, omega arith)

pub returns : goal.returns
returns c =
    let a = c.args in
    let ns = (mem_of a.m.now).nodes in
    let l : length ns ≡ 256 = length-nodes a.m.now in
    let x : c.first_page-first.result ≡ page_total (take a.k ns) = c.first_page-first.ensures.0 in
    let y : c.pages_for.result ≡ pages_for (node_at ns a.k).size = c.pages_for.ensures.0
    ∙ ap pages_for c.node_size.ensures in
    let z : c.pages_on-total.result ≡ page_total (take a.n ns) = c.pages_on-total.ensures.0 in
    let t = total-part ns a.n a.k (omega arith) (omega arith) in (
      record { known = omega arith; fits = omega arith; begins = x; ends = omega arith; within = omega arith; all = z },
      c.pages_on-total.ensures.1,
    )
