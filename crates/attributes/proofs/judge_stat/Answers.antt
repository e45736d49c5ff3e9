-- `attributes::judge_stat` meets its contract. Assumes nothing.
use native.Mathlib.Omega.{arith}
use mathlib.Core.Path.{sym, ◌∙◌}
use Rattle.memory.specs.Layout.{mem_of}
use Rattle.tables.specs.View.{tables_in}
use Rattle.filesystem.specs.Tables.{ID_BYTES}
use Rattle.attributes.specs.laws.StatLaws.{stat-length, stat-other, stat_same, stat_of_lem}
use Rattle.attributes.proofs.judge_stat.Goals as goal

pub returns-then-reply-ne-STAT_BYTES : goal.returns-then-reply-ne-STAT_BYTES
unfolding tables_in
returns-then-reply-ne-STAT_BYTES c o =
    let a = c.args in
    sym (stat-length (tables_in a.n o (mem_of a.m.now)) a.reply.now a.k c.if-reply-ne-STAT_BYTES.true)

pub returns-then-not-same : goal.returns-then-not-same
unfolding tables_in
returns-then-not-same c o =
    let a = c.args in
    let e = stat_of_lem ID_BYTES a.n (mem_of a.m.now).nodes a.k _ _ _ _ _ (omega arith)
    c.stat_row-row.ensures
    c.node_id.ensures
    c.node_kind.ensures
    c.node_mode.ensures
    c.node_size.ensures in
    sym (stat-other (tables_in a.n o (mem_of a.m.now)) a.reply.now a.k _ e (omega arith)
    (sym c.same.ensures ∙ c.if-not-same.true))

pub returns : goal.returns
unfolding tables_in
returns c o =
    let a = c.args in
    let e = stat_of_lem ID_BYTES a.n (mem_of a.m.now).nodes a.k _ _ _ _ _ (omega arith)
    c.stat_row-row.ensures
    c.node_id.ensures
    c.node_kind.ensures
    c.node_mode.ensures
    c.node_size.ensures in
    sym (stat_same (tables_in a.n o (mem_of a.m.now)) a.reply.now a.k _ e (omega arith)
    (sym c.same.ensures ∙ c.if-not-same.false))
