-- `removals::remove_own` meets its contract. Assumes nothing.
use native.Mathlib.Omega.{arith}
use mathlib.Core.Path.{sym, ap, ◌∙◌}
use mathlib.Core.Bool.{not}
use Rattle.lists.specs.All.{both, none}
use Rattle.lists.specs.Checks.{decide_passed, check_passes, check_stops}
use Rattle.memory.specs.Layout.{mem_of}
use Rattle.std.specs.Prelude.{Err}
use Rattle.tables.specs.View.{tables_in}
use Rattle.path_calls.specs.laws.Rows.{folder, no-folder, bit, no_bit, is_open_lem, not_open}
use Rattle.removals.specs.RemoveChecks.{remove_own}
use Rattle.removals.proofs.remove_own.Goals as goal

pub returns-then-node_kind-eq-DIRECTORY : goal.returns-then-node_kind-eq-DIRECTORY
unfolding remove_own tables_in
returns-then-node_kind-eq-DIRECTORY c =
    let a = c.args in
    sym (check_stops Err 21 _ _ _ (folder a.n (mem_of a.m.now).nodes a.k (omega arith) _
    c.node_kind.ensures c.if-node_kind-eq-DIRECTORY.true))

pub returns-then-node_mode-ne1 : goal.returns-then-node_mode-ne1
unfolding remove_own tables_in
returns-then-node_mode-ne1 c =
    let a = c.args in
    let ns = (mem_of a.m.now).nodes in
    let f = no-folder a.n ns a.k (omega arith) _ c.node_kind.ensures
    c.if-node_kind-eq-DIRECTORY.false in
    sym (check_passes Err 21 _ _ _ f
    ∙ check_stops Err 13 _ _ _
    (ap not (no_bit a.n ns a.d (omega arith) _ 2 c.node_mode.ensures c.if-node_mode-ne1.true)))

pub returns-then-is_some : goal.returns-then-is_some
unfolding remove_own tables_in
returns-then-is_some c =
    let if1 = c.if-node_kind-eq-DIRECTORY in
    let node-kind = c.node_kind in
    let a = c.args in
    let ns = (mem_of a.m.now).nodes in
    let f = no-folder a.n ns a.k (omega arith) _ node-kind.ensures if1.false in
    let g = bit a.n ns a.d (omega arith) _ 2 c.node_mode.ensures
    c.if-node_mode-ne1.false in
    let h = is_open_lem a.m.now a.n a.o a.k (omega arith) (omega arith) _ c.node_id.ensures _
    c.find_handle.ensures (sym c.is_some.ensures ∙ c.if-is_some.true) in
    sym (check_passes Err 21 _ _ _ f ∙ check_passes Err 13 _ _ _ (ap not g)
    ∙ check_stops Err 16 _ _ _ h)

pub returns : goal.returns
unfolding remove_own tables_in
returns c =
    let if1 = c.if-node_kind-eq-DIRECTORY in
    let node-kind = c.node_kind in
    let a = c.args in
    let ns = (mem_of a.m.now).nodes in
    let f = no-folder a.n ns a.k (omega arith) _ node-kind.ensures if1.false in
    let g = bit a.n ns a.d (omega arith) _ 2 c.node_mode.ensures
    c.if-node_mode-ne1.false in
    let h = not_open a.m.now a.n a.o a.k (omega arith) (omega arith) _ c.node_id.ensures _
    c.find_handle.ensures (sym c.is_some.ensures ∙ c.if-is_some.false) in
    sym (decide_passed Err _ _ (both f (both (ap not g) (both h none))))
