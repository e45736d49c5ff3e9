-- `opens::open_own` meets its contract. Assumes nothing.
use native.Mathlib.Omega.{arith}
use mathlib.Core.Path.{◌≡◌, sym, ap, ◌∙◌}
use mathlib.Core.Bool.{not}
use lib.ListN.{length, take}
use borrow.Author.Tests.{le-leb, lt-leb}
use Rattle.lists.specs.All.{both, none}
use Rattle.lists.specs.Checks.{decide_passed, check_passes, check_stops}
use Rattle.filesystem.specs.Tables.{OPEN_FILES}
use Rattle.memory.specs.Layout.{mem_of}
use Rattle.std.specs.Prelude.{Err}
use Rattle.tables.specs.View.{tables_in}
use Rattle.path_calls.specs.laws.Rows.{covers-front, folder, no-folder, is_open_lem, not_open}
use Rattle.opens.specs.OpenChecks.{open_own}
use Rattle.tables.specs.laws.RowsInUse.{count-opens}
use Rattle.opens.proofs.open_own.Goals as goal

pub returns-then-node_kind-eq-DIRECTORY : goal.returns-then-node_kind-eq-DIRECTORY
unfolding open_own tables_in
returns-then-node_kind-eq-DIRECTORY c =
    let a = c.args in
    sym (check_stops Err 21 _ _ _ (folder a.n (mem_of a.m.now).nodes a.k (omega arith) _
    c.node_kind.ensures c.if-node_kind-eq-DIRECTORY.true))

pub returns-then-not-covers : goal.returns-then-not-covers
unfolding open_own tables_in
returns-then-not-covers c =
    let a = c.args in
    let ns = (mem_of a.m.now).nodes in
    let f = no-folder a.n ns a.k (omega arith) _ c.node_kind.ensures
    c.if-node_kind-eq-DIRECTORY.false in
    let g = ap not (sym (covers-front a.n ns a.k (omega arith) _ _ a.rights
    c.node_mode.ensures c.covers.ensures) ∙ c.if-not-covers.true) in
    sym (check_passes Err 21 _ _ _ f ∙ check_stops Err 13 _ _ _ g)

pub returns-then-is_some : goal.returns-then-is_some
unfolding open_own tables_in
returns-then-is_some c =
    let if2 = c.if-not-covers in
    let covers = c.covers in
    let node-mode = c.node_mode in
    let if1 = c.if-node_kind-eq-DIRECTORY in
    let node-kind = c.node_kind in
    let a = c.args in
    let ns = (mem_of a.m.now).nodes in
    let f = no-folder a.n ns a.k (omega arith) _ node-kind.ensures if1.false in
    let g = ap not (sym (covers-front a.n ns a.k (omega arith) _ _ a.rights node-mode.ensures
    covers.ensures) ∙ if2.false) in
    let h = is_open_lem a.m.now a.n a.o a.k (omega arith) (omega arith) _ c.node_id.ensures _
    c.find_handle.ensures (sym c.is_some.ensures ∙ c.if-is_some.true) in
    sym (check_passes Err 21 _ _ _ f ∙ check_passes Err 13 _ _ _ g ∙ check_stops Err 16 _ _ _ h)

pub returns-then-o-ge-OPEN_FILES : goal.returns-then-o-ge-OPEN_FILES
unfolding open_own tables_in
returns-then-o-ge-OPEN_FILES c =
    let node-id = c.node_id in
    let if2 = c.if-not-covers in
    let covers = c.covers in
    let node-mode = c.node_mode in
    let if1 = c.if-node_kind-eq-DIRECTORY in
    let node-kind = c.node_kind in
    let a = c.args in
    let ns = (mem_of a.m.now).nodes in
    let os = take a.o (mem_of a.m.now).opens in
    let f = no-folder a.n ns a.k (omega arith) _ node-kind.ensures if1.false in
    let g = ap not (sym (covers-front a.n ns a.k (omega arith) _ _ a.rights node-mode.ensures
    covers.ensures) ∙ if2.false) in
    let h = not_open a.m.now a.n a.o a.k (omega arith) (omega arith) _ node-id.ensures _
    c.find_handle.ensures (sym c.is_some.ensures ∙ c.if-is_some.false) in
    let l : length os ≡ a.o = count-opens a.m.now a.o (omega arith) in
    sym (check_passes Err 21 _ _ _ f ∙ check_passes Err 13 _ _ _ g ∙ check_passes Err 16 _ _ _ h
    ∙ check_stops Err 24 _ _ _ (le-leb OPEN_FILES (length os) (omega arith)))

pub returns : goal.returns
unfolding open_own tables_in
returns c =
    let node-id = c.node_id in
    let if2 = c.if-not-covers in
    let covers = c.covers in
    let node-mode = c.node_mode in
    let if1 = c.if-node_kind-eq-DIRECTORY in
    let node-kind = c.node_kind in
    let a = c.args in
    let ns = (mem_of a.m.now).nodes in
    let os = take a.o (mem_of a.m.now).opens in
    let f = no-folder a.n ns a.k (omega arith) _ node-kind.ensures if1.false in
    let g = ap not (sym (covers-front a.n ns a.k (omega arith) _ _ a.rights node-mode.ensures
    covers.ensures) ∙ if2.false) in
    let h = not_open a.m.now a.n a.o a.k (omega arith) (omega arith) _ node-id.ensures _
    c.find_handle.ensures (sym c.is_some.ensures ∙ c.if-is_some.false) in
    let l : length os ≡ a.o = count-opens a.m.now a.o (omega arith) in
    sym (decide_passed Err _ _
    (both f (both g (both h (both (lt-leb OPEN_FILES (length os) (omega arith)) none)))))
