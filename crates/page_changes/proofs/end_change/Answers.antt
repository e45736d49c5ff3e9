-- `page_changes::end_change` meets its contract. Assumes nothing.
use native.Mathlib.Omega.{arith}
use mathlib.Core.Path.{ap, sym, subst, ◌∙◌}
use mathlib.Core.Bool.{true≢false}
use Rattle.filesystem.specs.Tables.{Tables}
use Rattle.tables.specs.View.{tables_in, Changeable}
use Rattle.machine.specs.Machine.{zero_digest}
use Rattle.guard_state.specs.declared.Guard.{Guard}
use Rattle.guard_state.specs.laws.LoadedLaws.{counts_fit, tables-loaded}
use Rattle.page_changes.specs.laws.EndedLaws.{change_sends}
use Rattle.page_changes.proofs.end_change.Goals as goal

pub change_file-requires : goal.change_file-requires
change_file-requires c =
    let a = c.args in
    ((counts_fit a.m.now _ c.load-g.ensures).0, omega arith)

pub returns-then-not-change_file : goal.returns-then-not-change_file
unfolding tables_in
returns-then-not-change_file c =
    let a = c.args in record {
      sends = λ d q h b.
          let can = subst (λ (t : Tables). Changeable t.nodes a.node a.size a.from a.count)
          (sym (tables-loaded a.m.now _ c.load-g.ensures d)) h.can in
          absurd (true≢false (sym (c.change_file.ensures.value can).0 ∙ c.if-not-change_file.true));
      keeps_length = c.change_file.ensures.keeps_length;
    }

pub rest-requires : goal.rest-requires
rest-requires c =
    let a = c.args in
    let f = counts_fit a.m.now _ c.load-g.ensures in
    (f.0, f.1, omega arith)

pub returns : goal.returns
unfolding tables_in
returns c =
    let a = c.args in record {
      sends = λ d q h b.
          let can = subst (λ (t : Tables). Changeable t.nodes a.node a.size a.from a.count)
          (sym (tables-loaded a.m.now _ c.load-g.ensures d)) h.can in
          change_sends d a.m.now q a.node a.opened a.size a.cursor a.from a.count a.number h
          c.load-g.result.nodes c.load-g.result.opens _ _ _ b
          (ap (λ (x : Guard). x.nodes) c.load-g.ensures) (ap (λ (x : Guard). x.opens) c.load-g.ensures)
          ((c.change_file.ensures.value can).1 (zero_digest d) c.load-g.result.opens) c.set_cursor.ensures.0
          (c.rest.ensures.0 d);
      keeps_length = omega arith;
    }
