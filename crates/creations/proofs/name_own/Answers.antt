-- `creations::name_own` meets its contract. Assumes nothing.
use native.Mathlib.Omega.{arith}
use mathlib.Core.Path.{◌≡◌, refl, sym, ap, ◌∙◌}
use mathlib.Core.Bool.{not}
use lib.ListN.{length, take}
use borrow.Author.Tests.{le-leb, lt-leb}
use Rattle.lists.specs.All.{both, none}
use Rattle.lists.specs.Checks.{decide_passed, check_passes, check_stops}
use Rattle.filesystem.specs.Tables.{NODES}
use Rattle.filesystem.specs.Paths.{child_at}
use Rattle.memory.specs.Layout.{mem_of}
use Rattle.paths.specs.laws.WalkLaws.{child_front}
use Rattle.std.specs.Prelude.{Err, is_some}
use Rattle.tables.specs.laws.FoundLaws.{found_within, found_nowhere}
use Rattle.path_calls.specs.laws.Rows.{bit, no_bit}
use Rattle.creations.specs.NameChecks.{name_own}
use Rattle.tables.specs.laws.RowsInUse.{count-nodes}
use Rattle.creations.proofs.name_own.Goals as goal

pub returns-then-is_some : goal.returns-then-is_some
unfolding name_own
returns-then-is_some c =
    let a = c.args in
    let ns = (mem_of a.m.now).nodes in
    let n : length (take a.n ns) ≡ a.n = count-nodes a.m.now a.n (omega arith) in
    let h = found_within _ _ (ap is_some (sym c.find_child.ensures) ∙ sym c.is_some.ensures ∙ c.if-is_some.true) in
    let k = child_front a.n ns a.d _ _ a.name.now (omega arith) c.node_id.ensures refl in
    sym (check_stops Err 17 _ _ _
    (ap not (lt-leb (length (take a.n ns)) (child_at (take a.n ns) a.d a.name.now) (omega (arith, k)))))

pub returns-then-node_mode-ne1 : goal.returns-then-node_mode-ne1
unfolding name_own
returns-then-node_mode-ne1 c =
    let a = c.args in
    let ns = (mem_of a.m.now).nodes in
    let n : length (take a.n ns) ≡ a.n = count-nodes a.m.now a.n (omega arith) in
    let h = found_nowhere _ _ (ap is_some (sym c.find_child.ensures) ∙ sym c.is_some.ensures ∙ c.if-is_some.false) in
    let k = child_front a.n ns a.d _ _ a.name.now (omega arith) c.node_id.ensures refl in
    let f = le-leb (length (take a.n ns)) (child_at (take a.n ns) a.d a.name.now) (omega (arith, k)) in
    sym (check_passes Err 17 _ _ _ (ap not f)
    ∙ check_stops Err 13 _ _ _
    (ap not (no_bit a.n ns a.d (omega arith) _ 2 c.node_mode.ensures c.if-node_mode-ne1.true)))

pub returns-then-n-ge-NODES : goal.returns-then-n-ge-NODES
unfolding name_own
returns-then-n-ge-NODES c =
    let a = c.args in
    let ns = (mem_of a.m.now).nodes in
    let n : length (take a.n ns) ≡ a.n = count-nodes a.m.now a.n (omega arith) in
    let h = found_nowhere _ _ (ap is_some (sym c.find_child.ensures) ∙ sym c.is_some.ensures ∙ c.if-is_some.false) in
    let k = child_front a.n ns a.d _ _ a.name.now (omega arith) c.node_id.ensures refl in
    let f = le-leb (length (take a.n ns)) (child_at (take a.n ns) a.d a.name.now) (omega (arith, k)) in
    let g = bit a.n ns a.d (omega arith) _ 2 c.node_mode.ensures c.if-node_mode-ne1.false in
    sym (check_passes Err 17 _ _ _ (ap not f) ∙ check_passes Err 13 _ _ _ (ap not g)
    ∙ check_stops Err 28 _ _ _ (le-leb NODES (length (take a.n ns)) (omega arith)))

pub returns : goal.returns
unfolding name_own
returns c =
    let a = c.args in
    let ns = (mem_of a.m.now).nodes in
    let n : length (take a.n ns) ≡ a.n = count-nodes a.m.now a.n (omega arith) in
    let h = found_nowhere _ _ (ap is_some (sym c.find_child.ensures) ∙ sym c.is_some.ensures ∙ c.if-is_some.false) in
    let k = child_front a.n ns a.d _ _ a.name.now (omega arith) c.node_id.ensures refl in
    let f = le-leb (length (take a.n ns)) (child_at (take a.n ns) a.d a.name.now) (omega (arith, k)) in
    let g = bit a.n ns a.d (omega arith) _ 2 c.node_mode.ensures c.if-node_mode-ne1.false in
    let room = lt-leb NODES (length (take a.n ns)) (omega arith) in
    sym (decide_passed Err _ _ (both (ap not f) (both (ap not g) (both room none))))
