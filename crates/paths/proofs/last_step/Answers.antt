-- `paths::last_step` meets its contract. Assumes nothing.
use native.Mathlib.Omega.{arith}
use mathlib.Core.Path.{◌≡◌, refl, sym, ◌∙◌}
use lib.ListN.{length, take}
use Rattle.memory.specs.Layout.{mem_of}
use Rattle.paths.specs.laws.WalkLaws.{child_front, child_absent, child_there}
use Rattle.tables.specs.laws.RowsInUse.{count-nodes}
use Rattle.tables.specs.laws.FoundLaws.{found_none, found_some}
use Rattle.paths.proofs.last_step.Goals as goal

pub returns-in_default : goal.returns-in_default
returns-in_default c =
    let a = c.args in
    let ns = take a.n (mem_of a.m.now).nodes in
    let n : length ns ≡ a.n = count-nodes a.m.now a.n (omega arith) in
    let h = found_none _ _ (sym c.in_default.is ∙ c.find_child.ensures) in
    let k = child_front a.n (mem_of a.m.now).nodes a.d _ _ a.name.now (omega arith) c.node_id.ensures refl in
    sym (child_absent ns a.d _ _ k (omega arith))

pub returns : goal.returns
returns c =
    let a = c.args in
    let ns = take a.n (mem_of a.m.now).nodes in
    let n : length ns ≡ a.n = count-nodes a.m.now a.n (omega arith) in
    let (e, h) = found_some _ _ (sym c.in-Some.is ∙ c.find_child.ensures) in
    let k = child_front a.n (mem_of a.m.now).nodes a.d _ _ a.name.now (omega arith) c.node_id.ensures e in
    sym (child_there ns a.d _ _ k (omega arith))
