-- `moves::judge_directory` meets its contract. Assumes nothing.
use native.Mathlib.Omega.{arith}
use mathlib.Core.Path.{sym, ◌∙◌}
use Prim.Native.Nat.{◌+◌}
use lib.ListN.{length, take}
use Rattle.filesystem.specs.Sound.{to_sound}
use Rattle.memory.specs.Layout.{mem_of}
use Rattle.tables.specs.laws.RowsInUse.{count-nodes}
use Rattle.moves.specs.laws.MoveLaws.{climb_within, climb_away, reach_shallow, reach-deep}
use Rattle.moves.specs.laws.NumberLaws.{move_within, move-barred, move-deep, move-passes}
use Rattle.moves.proofs.judge_directory.Goals as goal

pub returns-then-is_none : goal.returns-then-is_none
returns-then-is_none c w e f =
    let a = c.args in
    let p = c.requires in
    let ns = take a.n (mem_of a.m.now).nodes in
    let pp = c.place_parents.ensures.1 w e in
    move_within ns a.k a.from a.d a.name.now
    (climb_within a.n a.k a.d (length a.name.now + 1) p.1 w ns a.name.now (to_sound w ns e)
    (count-nodes a.m.now a.n p.4) p.0 (omega arith) f pp
    c.climb.result c.climb.ensures c.if-is_none.ensures)

pub returns-then-is_barred : goal.returns-then-is_barred
returns-then-is_barred c w e f =
    let a = c.args in
    let p = c.requires in
    let ns = take a.n (mem_of a.m.now).nodes in
    let pp = c.place_parents.ensures.1 w e in
    let climb = c.climb in
    move-barred ns a.k a.from a.d a.name.now
    (climb_away a.n a.k a.d (length a.name.now + 1) p.1 w ns a.name.now (to_sound w ns e)
    (count-nodes a.m.now a.n p.4) p.0 (omega arith) f pp climb.result climb.ensures c.if-is_none.ensures)
    (sym c.is_barred.ensures ∙ c.if-is_barred.true)

pub returns-then-not-all_climb : goal.returns-then-not-all_climb
returns-then-not-all_climb c w e f =
    let a = c.args in
    let p = c.requires in
    let ns = take a.n (mem_of a.m.now).nodes in
    let pp = c.place_parents.ensures.1 w e in
    let s = to_sound w ns e in
    let long = count-nodes a.m.now a.n p.4 in
    let size = length a.name.now + 1 in
    let away = climb_away a.n a.k a.d size p.1 w ns a.name.now s long p.0 (omega arith) f pp
    c.climb.result c.climb.ensures c.if-is_none.ensures in
    move-deep ns a.k a.from a.d a.name.now away (sym c.is_barred.ensures ∙ c.if-is_barred.false)
    (reach-deep a.n a.k a.d size p.1 w ns a.name.now s long p.0 (omega arith) f pp away _ c.all_climb.ensures
    c.if-not-all_climb.true)

pub returns : goal.returns
returns c w e f =
    let a = c.args in
    let p = c.requires in
    let ns = take a.n (mem_of a.m.now).nodes in
    let pp = c.place_parents.ensures.1 w e in
    let s = to_sound w ns e in
    let long = count-nodes a.m.now a.n p.4 in
    let size = length a.name.now + 1 in
    let away = climb_away a.n a.k a.d size p.1 w ns a.name.now s long p.0 (omega arith) f pp
    c.climb.result c.climb.ensures c.if-is_none.ensures in
    move-passes ns a.k a.from a.d a.name.now away (sym c.is_barred.ensures ∙ c.if-is_barred.false)
    (reach_shallow a.n a.k a.d size p.1 w ns a.name.now s long p.0 (omega arith) f pp away _ c.all_climb.ensures
    c.if-not-all_climb.false)
