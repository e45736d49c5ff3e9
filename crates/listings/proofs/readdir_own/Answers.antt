-- `listings::readdir_own` meets its contract. Assumes nothing.
use native.Mathlib.Omega.{arith}
use mathlib.Core.Path.{sym, ap, ◌∙◌}
use mathlib.Core.Bool.{not}
use Rattle.lists.specs.All.{both, none}
use Rattle.lists.specs.Checks.{decide_passed, check_passes, check_stops}
use Rattle.memory.specs.Layout.{mem_of}
use Rattle.std.specs.Prelude.{Err}
use Rattle.path_calls.specs.laws.Rows.{folder, no-folder, bit, no_bit}
use Rattle.listings.specs.ListChecks.{readdir_own}
use Rattle.listings.proofs.readdir_own.Goals as goal

pub returns-then-node_kind-ne-DIRECTORY : goal.returns-then-node_kind-ne-DIRECTORY
unfolding readdir_own
returns-then-node_kind-ne-DIRECTORY c =
    let a = c.args in
    let ns = (mem_of a.m.now).nodes in
    sym (check_stops Err 20 _ _ _
    (ap not (no-folder a.n ns a.k (omega arith) _ c.node_kind.ensures c.if-node_kind-ne-DIRECTORY.true)))

pub returns-then-node_mode-ne1 : goal.returns-then-node_mode-ne1
unfolding readdir_own
returns-then-node_mode-ne1 c =
    let a = c.args in
    let ns = (mem_of a.m.now).nodes in
    let f = folder a.n ns a.k (omega arith) _ c.node_kind.ensures
    c.if-node_kind-ne-DIRECTORY.false in
    sym (check_passes Err 20 _ _ _ (ap not f)
    ∙ check_stops Err 13 _ _ _
    (ap not (no_bit a.n ns a.k (omega arith) _ 4 c.node_mode.ensures c.if-node_mode-ne1.true)))

pub returns : goal.returns
unfolding readdir_own
returns c =
    let a = c.args in
    let ns = (mem_of a.m.now).nodes in
    let f = folder a.n ns a.k (omega arith) _ c.node_kind.ensures
    c.if-node_kind-ne-DIRECTORY.false in
    let g = bit a.n ns a.k (omega arith) _ 4 c.node_mode.ensures c.if-node_mode-ne1.false in
    sym (decide_passed Err _ _ (both (ap not f) (both (ap not g) none)))
