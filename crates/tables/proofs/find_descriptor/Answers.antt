-- `tables::find_descriptor` meets its contract. Assumes nothing.
use Rattle.std.proofs.Common.{rules, ◌≡◌, ◌≢◌, length, arith}
use Rattle.std.proofs.lemmas.Iterator.{first_from_Range}
use borrow.Author.Tests.{tests, eq-eqb, ne_eqb}
use Rattle.filesystem.specs.Tables.{find_descriptor, has_descriptor, no_open_file, open_at}
use Rattle.memory.specs.Layout.{mem_of}
use Rattle.memory.specs.laws.MemLaws.{length-opens}
use Rattle.tables.specs.laws.FoundLaws.{found_by}
use Rattle.tables.proofs.find_descriptor.Goals as goal

pub returns : goal.returns
unfolding find_descriptor open_at
returns c =
    let a = c.args in
    let ns = (mem_of a.m.now).opens in
    let l : length (mem_of a.m.now).opens ≡ _ = length-opens a.m.now in
    found_by no_open_file (has_descriptor a.descriptor) ns a.o 0 (omega arith) (λ k h. absurd (omega arith)) _
    (λ k. (open_at ns k).descriptor ≡ a.descriptor) (λ k. (open_at ns k).descriptor ≢ a.descriptor) (λ k. eq-eqb _ _)
    (λ k. ne_eqb _ _)
    (first_from_Range _ _ _ _ (λ k. (open_at ns k).descriptor ≡ a.descriptor)
    (λ k. (open_at ns k).descriptor ≢ a.descriptor)
    c.find.ensures.ran (λ x q k. search (rules, tests)) (λ x q k. search (rules, tests)))
