-- `tables::is_page` meets its contract. Where the pages are not too many, the digest's place is among them. Assumes
-- nothing.
use native.Mathlib.Omega.{arith}
use mathlib.Core.Path.{◌≡◌, sym, ap, ap₂, ◌∙◌}
use mathlib.Core.List.{[]}
use Prim.Native.Nat.{ℕ, ◌+◌}
use lib.ListN.{length, get_or, take}
use Rattle.lists.specs.Equal.{equal}
use Rattle.filesystem.specs.Tables.{page_total}
use Rattle.memory.specs.Layout.{mem_of}
use Rattle.memory.specs.laws.MemLaws.{length-nodes}
use Rattle.tables.specs.laws.ContentLaws.{total-part, digest-place}
use Rattle.tables.proofs.is_page.Goals as goal

pub returns-then-at-ge-PAGES : goal.returns-then-at-ge-PAGES
returns-then-at-ge-PAGES c =
    let a = c.args in
    let ns = (mem_of a.m.now).nodes in
    let l : length ns ≡ 256 = length-nodes a.m.now in
    let x : c.first_page.result ≡ page_total (take a.k ns) = c.first_page.ensures.0 in
    λ n h g f w. let t = total-part ns n a.k h (omega arith) in absurd (omega arith)

pub returns : goal.returns
returns c =
    let first-page = c.first_page in
    let a = c.args in
    let ns = (mem_of a.m.now).nodes in
    let ds = (mem_of a.m.now).digests in
    let l : length ns ≡ 256 = length-nodes a.m.now in
    let x : first-page.result ≡ page_total (take a.k ns) = first-page.ensures.0 in
    λ n h g f w.
    c.same.ensures
    ∙ ap₂ equal c.sha256-d.ensures
    (c.digest.ensures.0 ∙ ap (λ (j : ℕ). get_or ds (j + a.i) []) x
    ∙ sym (digest-place ns ds n a.k a.i h (omega arith) f))
