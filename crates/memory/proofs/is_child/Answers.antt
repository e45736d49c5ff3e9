-- `memory::is_child` meets its contract. Assumes nothing.
use Prim.Native.Nat.{◌+◌, ◌*◌, ◌%◌}
use mathlib.Core.Path.{◌≡◌, sym, ◌∙◌}
use mathlib.Core.Bool.{true, false}
use native.Mathlib.Omega.{arith}
use native.Mathlib.Nat.{add-sub_cancel_left}
use lib.Dec.{eqb}
use lib.ListN.{length, get_or}
use borrow.Author.Tests.{eq-eqb, ne_eqb}
use Rattle.lists.specs.Equal.{equal, and-false}
use Rattle.lists.specs.Parts.{part}
use Rattle.filesystem.specs.Tables.{node_at}
use Rattle.memory.specs.Records.{node_width}
use Rattle.memory.specs.Layout.{mem_of, nodes_at}
use Rattle.memory.specs.laws.MemLaws.{name_is}
use Rattle.memory.proofs.is_child.Goals as goal

pub returns-then-n-gt-NAME_BYTES : goal.returns-then-n-gt-NAME_BYTES
returns-then-n-gt-NAME_BYTES c =
    let a = c.args in
    let n = get_or a.m.now (nodes_at + a.i * node_width + 22) 0 % 33 in
    let d : eqb n (length a.name.now) ≡ false = ne_eqb _ _ (λ (q : n ≡ length a.name.now). omega arith) in
    rw (name_is a.m.now a.i a.name.now (omega arith) (omega arith), d, and-false, and-false)

pub returns-then-not-same : goal.returns-then-not-same
unfolding part
returns-then-not-same c =
    let a = c.args in
    let s : equal (part (nodes_at + a.i * node_width + 23) (length a.name.now) a.m.now) a.name.now ≡ false =
    sym (rw add-sub_cancel_left at c.same.ensures) ∙ c.if-not-same.true in
    rw (name_is a.m.now a.i a.name.now (omega arith) (omega arith), s, and-false)

pub returns : goal.returns
unfolding part
returns c =
    let a = c.args in
    let e : eqb (node_at (mem_of a.m.now).nodes a.i).parent a.parent ≡ true = eq-eqb _ _
    (sym c.node_parent.ensures
    ∙ c.if-node_parent-parent.false) in
    let s : equal (part (nodes_at + a.i * node_width + 23) (length a.name.now) a.m.now) a.name.now ≡ true =
    sym (rw add-sub_cancel_left at c.same.ensures) ∙ c.if-not-same.false in
    rw (e, name_is a.m.now a.i a.name.now (omega arith) (omega arith), s, c.name_length.ensures)
