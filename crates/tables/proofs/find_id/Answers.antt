-- `tables::find_id` meets its contract. Assumes nothing.
use Rattle.std.proofs.Common.{rules, ◌≡◌, ◌≢◌, length, arith}
use Rattle.std.proofs.lemmas.Iterator.{first_from_Range}
use borrow.Author.Tests.{tests, eq-eqb, ne_eqb}
use Rattle.filesystem.specs.Tables.{find_id, has_id, no_node, node_at}
use Rattle.memory.specs.Layout.{mem_of}
use Rattle.memory.specs.laws.MemLaws.{length-nodes}
use Rattle.tables.specs.laws.FoundLaws.{found_by}
use Rattle.tables.proofs.find_id.Goals as goal

pub returns : goal.returns
unfolding find_id node_at
returns c =
    let a = c.args in
    let ns = (mem_of a.m.now).nodes in
    let l : length (mem_of a.m.now).nodes ≡ _ = length-nodes a.m.now in
    found_by no_node (has_id a.id) ns a.n 0 (omega arith) (λ k h. absurd (omega arith)) _
    (λ k. (node_at ns k).id ≡ a.id) (λ k. (node_at ns k).id ≢ a.id) (λ k. eq-eqb _ _) (λ k. ne_eqb _ _)
    (first_from_Range _ _ _ _ (λ k. (node_at ns k).id ≡ a.id) (λ k. (node_at ns k).id ≢ a.id)
    c.find.ensures.ran (λ x q k. search (rules, tests)) (λ x q k. search (rules, tests)))
