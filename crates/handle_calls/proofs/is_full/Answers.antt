-- `handle_calls::is_full` meets its contract. Assumes nothing.
use native.Mathlib.Omega.{arith}
use mathlib.Core.Path.{sym, ap, ◌∙◌}
use lib.Dec.{ltb}
use Rattle.filesystem.specs.Tables.{pages_for}
use Rattle.memory.specs.Layout.{mem_of}
use Rattle.tables.specs.View.{tables_in}
use Rattle.rules.specs.Rules.{no_room}
use Rattle.handle_calls.specs.laws.HandledLaws.{room_past, room_left, size-front}
use Rattle.tables.specs.laws.RowsInUse.{count-nodes}
use Rattle.handle_calls.proofs.is_full.Goals as goal

pub returns-then-n-k : goal.returns-then-n-k
unfolding tables_in
returns-then-n-k c w o s =
    let a = c.args in
    let e = count-nodes a.m.now a.n (omega arith) in
    sym (room_past w (tables_in a.n o (mem_of a.m.now)) a.k a.size s (omega arith))

pub returns-then-pages_for : goal.returns-then-pages_for
unfolding tables_in
returns-then-pages_for c w o s =
    let a = c.args in
    let e = count-nodes a.m.now a.n (omega arith) in
    let new = c.pages_for.ensures.0 in
    let old = c.pages_for-2.ensures.0 ∙ ap pages_for (c.node_size.ensures
    ∙ sym (size-front a.n (mem_of a.m.now).nodes a.k (omega arith))) in
    sym (room_left w (tables_in a.n o (mem_of a.m.now)) a.k a.size s (omega arith) (omega (arith, new, old)))

pub returns : goal.returns
unfolding no_room tables_in
returns c w o s = ap (ltb 1024) c.pages_with.ensures
