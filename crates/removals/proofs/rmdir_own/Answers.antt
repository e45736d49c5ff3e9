-- `removals::rmdir_own` meets its contract. Assumes nothing.
use native.Mathlib.Omega.{arith}
use Prim.Native.Nat.{◌<◌, ◌≤◌}
use mathlib.Core.Path.{sym, ap, ◌∙◌}
use mathlib.Core.Bool.{not}
use lib.ListN.{length, take}
use borrow.Author.Tests.{eq-eqb, ne_eqb, lt-ltb, le-ltb}
use Rattle.lists.specs.All.{both, none}
use Rattle.lists.specs.Checks.{decide_passed, check_passes, check_stops}
use Rattle.filesystem.specs.Tables.{node_at, children}
use Rattle.memory.specs.Layout.{mem_of}
use Rattle.std.specs.Prelude.{Err}
use Rattle.path_calls.specs.laws.Rows.{folder, no-folder, bit, no_bit, children-front}
use Rattle.removals.specs.RemoveChecks.{rmdir_own}
use Rattle.removals.proofs.rmdir_own.Goals as goal

pub returns-then-k-eq0 : goal.returns-then-k-eq0
unfolding rmdir_own
returns-then-k-eq0 c =
    sym (check_stops Err 16 _ _ _ (eq-eqb _ _ c.if-k-eq0.true))

pub returns-then-node_kind-ne-DIRECTORY : goal.returns-then-node_kind-ne-DIRECTORY
unfolding rmdir_own
returns-then-node_kind-ne-DIRECTORY c =
    let a = c.args in
    let ns = (mem_of a.m.now).nodes in
    let z = ne_eqb a.k 0 c.if-k-eq0.false in
    sym (check_passes Err 16 _ _ _ z
    ∙ check_stops Err 20 _ _ _
    (ap not (no-folder a.n ns a.k (omega arith) _ c.node_kind.ensures c.if-node_kind-ne-DIRECTORY.true)))

pub returns-then-node_mode-ne1 : goal.returns-then-node_mode-ne1
unfolding rmdir_own
returns-then-node_mode-ne1 c =
    let a = c.args in
    let ns = (mem_of a.m.now).nodes in
    let z = ne_eqb a.k 0 c.if-k-eq0.false in
    let f = folder a.n ns a.k (omega arith) _ c.node_kind.ensures
    c.if-node_kind-ne-DIRECTORY.false in
    let g = no_bit a.n ns a.d (omega arith) _ 2 c.node_mode.ensures c.if-node_mode-ne1.true in
    sym (check_passes Err 16 _ _ _ z ∙ check_passes Err 20 _ _ _ (ap not f)
    ∙ check_stops Err 13 _ _ _ (ap not g))

pub returns-then-count_children-gt0 : goal.returns-then-count_children-gt0
unfolding rmdir_own
returns-then-count_children-gt0 c =
    let if2 = c.if-node_kind-ne-DIRECTORY in
    let node-kind = c.node_kind in
    let a = c.args in
    let ns = (mem_of a.m.now).nodes in
    let z = ne_eqb a.k 0 c.if-k-eq0.false in
    let f = folder a.n ns a.k (omega arith) _ node-kind.ensures if2.false in
    let g = bit a.n ns a.d (omega arith) _ 2 c.node_mode.ensures
    c.if-node_mode-ne1.false in
    let h : 0 < length (children (take a.n ns) (node_at (take a.n ns) a.k).id) =
    omega (
      arith,
      children-front a.n ns a.k (omega arith) _ _ c.node_id.ensures
          c.count_children.ensures,
    ) in
    sym (check_passes Err 16 _ _ _ z ∙ check_passes Err 20 _ _ _ (ap not f)
    ∙ check_passes Err 13 _ _ _ (ap not g) ∙ check_stops Err 39 _ _ _ (lt-ltb _ _ h))

pub returns : goal.returns
unfolding rmdir_own
returns c =
    let if2 = c.if-node_kind-ne-DIRECTORY in
    let node-kind = c.node_kind in
    let a = c.args in
    let ns = (mem_of a.m.now).nodes in
    let z = ne_eqb a.k 0 c.if-k-eq0.false in
    let f = folder a.n ns a.k (omega arith) _ node-kind.ensures if2.false in
    let g = bit a.n ns a.d (omega arith) _ 2 c.node_mode.ensures
    c.if-node_mode-ne1.false in
    let h : length (children (take a.n ns) (node_at (take a.n ns) a.k).id) ≤ 0 =
    omega (
      arith,
      children-front a.n ns a.k (omega arith) _ _ c.node_id.ensures
          c.count_children.ensures,
    ) in
    sym (decide_passed Err _ _ (both z (both (ap not f) (both (ap not g) (both (le-ltb _ _ h) none)))))
