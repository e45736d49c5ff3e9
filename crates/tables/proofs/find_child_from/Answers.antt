-- `tables::find_child_from` meets its contract. Assumes nothing.
use Rattle.std.proofs.Common.{rules, true, false, ◌≡◌, ◌&&◌, ap, ◌∙◌, length, length-take-le, get_or, take, unwrap_or, arith}
use Rattle.std.proofs.lemmas.Iterator.{first_from_Range}
use borrow.Author.Tests.{tests, ne_eqb}
use Rattle.filesystem.specs.Tables.{find_child, is_child, no_node, node_at}
use Rattle.lists.specs.Equal.{equal}
use Rattle.lists.specs.Search.{place_most}
use Rattle.memory.specs.Layout.{mem_of}
use Rattle.memory.specs.laws.MemLaws.{length-nodes}
use Rattle.tables.specs.laws.FoundLaws.{found_by, found_or}
use Rattle.tables.proofs.find_child_from.Goals as goal

pub returns : goal.returns
unfolding find_child node_at
returns c o =
    let a = c.args in
    let ns = (mem_of a.m.now).nodes in
    let l : length (mem_of a.m.now).nodes ≡ _ = length-nodes a.m.now in
    let f = is_child a.parent a.name.now in
    let s : length (take a.nodes ns) ≡ a.nodes = length-take-le a.nodes ns (omega arith) in
    let q = found_by no_node (is_child a.parent a.name.now) ns a.nodes a.start (omega arith)
    (λ k h. ap (λ b. b && equal (get_or ns k no_node).name a.name.now) (ne_eqb _ _ (o k (omega arith) h))) _
    (λ k. is_child a.parent a.name.now (node_at ns k) ≡ true)
    (λ k. is_child a.parent a.name.now (node_at ns k) ≡ false) (λ k e. e) (λ k e. e)
    (first_from_Range _ _ _ _ (λ k. is_child a.parent a.name.now (node_at ns k) ≡ true)
    (λ k. is_child a.parent a.name.now (node_at ns k) ≡ false)
    c.find.ensures.ran (λ x q k. search (rules, tests)) (λ x q k. search (rules, tests))) in
    let most = place_most f (take a.nodes ns) in
    c.unwrap_or.ensures ∙ ap (λ r. unwrap_or r a.nodes) q ∙ found_or a.nodes _ (omega (arith, s, most))
