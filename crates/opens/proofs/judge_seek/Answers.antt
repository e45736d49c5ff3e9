-- `opens::judge_seek` meets its contract. Assumes nothing.
use native.Mathlib.Omega.{arith}
use mathlib.Core.Path.{◌≡◌, refl, sym, ◌∙◌}
use lib.ListN.{length, take}
use Rattle.memory.specs.Layout.{mem_of}
use Rattle.tables.specs.View.{tables_in}
use Rattle.handle_calls.specs.laws.HandledLaws.{judged_refused, judged_place, judged_rest}
use Rattle.opens.specs.laws.HandleLaws.{seek_refused, seek_handled}
use Rattle.tables.specs.laws.FoundLaws.{found_none, found_some}
use Rattle.tables.specs.laws.RowsInUse.{count-opens}
use Rattle.opens.proofs.judge_seek.Goals as goal

pub returns-in_default : goal.returns-in_default
unfolding tables_in
returns-in_default c =
    let a = c.args in
    let e : length (take a.o (mem_of a.m.now).opens) ≡ a.o = count-opens a.m.now a.o (omega arith) in
    let h = found_none _ _ (sym c.in_default.is ∙ c.find_handle.ensures) in record {
      judgement = judged_refused 9 (λ w s. seek_refused (tables_in a.n a.o (mem_of a.m.now)) a.handle _
          refl a.position (omega arith));
      fits = tt;
    }

pub judge_end-requires : goal.judge_end-requires
judge_end-requires c =
    let (k, h) = found_some _ _ (sym c.in-Some.is ∙ c.find_handle.ensures) in
    (omega arith, omega arith, omega arith)

pub returns : goal.returns
unfolding tables_in
returns c =
    let a = c.args in
    let e : length (take a.o (mem_of a.m.now).opens) ≡ a.o = count-opens a.m.now a.o (omega arith) in
    let (k, h) = found_some _ _ (sym c.in-Some.is ∙ c.find_handle.ensures) in record {
      judgement = record {
        judged = λ w s. c.judge_end.ensures.by_index w s
            ∙ sym (seek_handled (tables_in a.n a.o (mem_of a.m.now)) a.handle _ k a.position (omega arith));
        there = λ i j f. omega (arith, judged_place _ _ _ c.judge_end.ensures.passed i j f);
      };
      fits = judged_rest _ _ _ c.judge_end.ensures.passed;
    }
