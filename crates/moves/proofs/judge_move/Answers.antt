-- `moves::judge_move` meets its contract. Assumes nothing.
use native.Mathlib.Omega.{arith}
use mathlib.Core.Path.{◌≡◌, ap, sym, ◌∙◌}
use lib.ListN.{length, take}
use borrow.Author.Tests.{ne_eqb}
use Rattle.filesystem.specs.Sound.{to_sound}
use Rattle.filesystem.specs.Tables.{is_directory}
use Rattle.memory.specs.Layout.{mem_of}
use Rattle.tables.specs.laws.RowsInUse.{count-nodes, node_front_lem}
use Rattle.moves.specs.laws.MoveLaws.{file_away, file_shallow}
use Rattle.moves.specs.laws.NumberLaws.{move-barred, move-passes}
use Rattle.moves.proofs.judge_move.Goals as goal

pub returns-then-is_barred : goal.returns-then-is_barred
returns-then-is_barred c w e f l =
    let a = c.args in
    let ns = take a.n (mem_of a.m.now).nodes in
    let long : length ns ≡ a.n = count-nodes a.m.now a.n (omega arith) in
    let file = ap is_directory (node_front_lem a.n (mem_of a.m.now).nodes a.k (omega arith))
    ∙ ne_eqb _ 2 (λ p. c.if-node_kind-eq-DIRECTORY.false (c.node_kind.ensures ∙ p)) in
    let away = file_away w ns a.k a.d a.name.now (to_sound w ns e) (omega (arith, long)) file f in
    move-barred ns a.k a.from a.d a.name.now away (sym c.is_barred.ensures ∙ c.if-is_barred.true)

pub returns : goal.returns
returns c w e f l =
    let a = c.args in
    let ns = take a.n (mem_of a.m.now).nodes in
    let long : length ns ≡ a.n = count-nodes a.m.now a.n (omega arith) in
    let s = to_sound w ns e in
    let file = ap is_directory (node_front_lem a.n (mem_of a.m.now).nodes a.k (omega arith))
    ∙ ne_eqb _ 2 (λ p. c.if-node_kind-eq-DIRECTORY.false (c.node_kind.ensures ∙ p)) in
    move-passes ns a.k a.from a.d a.name.now
    (file_away w ns a.k a.d a.name.now s (omega (arith, long)) file f)
    (sym c.is_barred.ensures ∙ c.if-is_barred.false)
    (file_shallow w ns a.k a.d a.name.now s (omega (arith, long)) file f (omega arith) l)
