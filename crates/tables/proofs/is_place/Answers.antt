-- `tables::is_place` meets its contract. Assumes nothing.
use native.Mathlib.Omega.{arith}
use mathlib.Core.Path.{◌≡◌, sym, ap, ◌∙◌}
use borrow.Author.Tests.{eqb-true}
use lib.ListN.{length, take}
use Rattle.memory.specs.Layout.{mem_of}
use Rattle.tables.specs.laws.RowsInUse.{count-nodes, node_front_lem}
use Rattle.filesystem.specs.Tables.{Node}
use Rattle.filesystem.specs.Sound.{to_sound, place_with_id}
use Rattle.tables.specs.Found.{found}
use Rattle.tables.specs.laws.FoundLaws.{found_at}
use Rattle.tables.proofs.is_place.Goals as goal

pub returns-clause-place : goal.returns-clause-place
returns-clause-place c e w v =
    let a = c.args in
    let ns = take a.n (mem_of a.m.now).nodes in
    let l : length ns ≡ a.n = count-nodes a.m.now a.n (omega arith) in
    let g = node_front_lem a.n (mem_of a.m.now).nodes a.k (omega arith) in
    let p = place_with_id ns a.k a.id (to_sound w ns v) (omega arith) (ap (λ (y : Node). y.id) g
    ∙ sym c.node_id.ensures ∙ eqb-true _ _ e) in
    sym (ap (found a.n) (sym p) ∙ found_at a.n a.k (omega arith))
