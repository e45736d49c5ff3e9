-- `paths::check_search` meets its contract. Assumes nothing.
use native.Mathlib.Omega.{arith}
use Prim.Native.Nat.{◌%◌, ◌/◌}
use mathlib.Core.Path.{sym, ap, ◌∙◌}
use borrow.Author.Tests.{eq-eqb, ne_eqb}
use lib.ListN.{take}
use Rattle.filesystem.specs.Tables.{node_at, is_directory, has_bit}
use Rattle.memory.specs.Layout.{mem_of}
use Rattle.paths.specs.laws.WalkLaws.{search_no_folder, search_barred, search_free}
use Rattle.tables.specs.laws.RowsInUse.{node_front_lem}
use Rattle.paths.proofs.check_search.Goals as goal

pub returns-then-node_kind-ne-DIRECTORY : goal.returns-then-node_kind-ne-DIRECTORY
returns-then-node_kind-ne-DIRECTORY c =
    let a = c.args in
    let ns = (mem_of a.m.now).nodes in
    let e = ap is_directory (node_front_lem a.n ns a.d (omega arith)) in
    sym (search_no_folder (take a.n ns) a.d (e
    ∙ ne_eqb (node_at ns a.d).kind 2 (λ q. c.if-node_kind-ne-DIRECTORY.true (c.node_kind.ensures ∙ q))))

pub returns-then-node_mode-ne1 : goal.returns-then-node_mode-ne1
returns-then-node_mode-ne1 c =
    let a = c.args in
    let ns = (mem_of a.m.now).nodes in
    let f = node_front_lem a.n ns a.d (omega arith) in
    let k = ap is_directory f ∙ eq-eqb (node_at ns a.d).kind 2 (sym c.node_kind.ensures
    ∙ c.if-node_kind-ne-DIRECTORY.false) in
    sym (search_barred (take a.n ns) a.d k (ap (has_bit 1) f ∙ ne_eqb ((node_at ns a.d).mode / 1 % 2) 1
    (λ q. c.if-node_mode-ne1.true (omega (arith, c.node_mode.ensures)))))

pub returns : goal.returns
returns c =
    let a = c.args in
    let ns = (mem_of a.m.now).nodes in
    let f = node_front_lem a.n ns a.d (omega arith) in
    let k = ap is_directory f ∙ eq-eqb (node_at ns a.d).kind 2 (sym c.node_kind.ensures
    ∙ c.if-node_kind-ne-DIRECTORY.false) in
    sym (search_free (take a.n ns) a.d k (ap (has_bit 1) f ∙ eq-eqb ((node_at ns a.d).mode / 1 % 2) 1
    (omega (arith, c.node_mode.ensures, c.if-node_mode-ne1.false))))
