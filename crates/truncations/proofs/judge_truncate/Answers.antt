-- `truncations::judge_truncate` meets its contract. Assumes nothing.
use native.Mathlib.Omega.{arith}
use Rattle.std.proofs.lemmas.Result.{MatchResult-from_err}
use mathlib.Core.Path.{refl}
use Rattle.memory.specs.Layout.{mem_of}
use Rattle.tables.specs.View.{tables_in}
use Rattle.handle_calls.specs.laws.HandledLaws.{judged_bad, with_err, with_ok, judged_refused, judged_open, has-place}
use Rattle.truncations.specs.laws.JudgedLaws.{truncate_refused, truncate-long, truncate-full, truncate_handled}
use Rattle.truncations.proofs.judge_truncate.Goals as goal

pub returns-in_err-k : goal.returns-in_err-k
unfolding tables_in
returns-in_err-k c =
    let a = c.args in
    let (b, l) = with_err _ a.handle 2 _ c.in_err-k.ensures in record {
      judgement = judged_bad _ _ c.from_residual.ensures.1 b
          (λ w s. truncate_refused (tables_in a.n a.o (mem_of a.m.now)) a.handle _ refl a.size l);
      fits = MatchResult-from_err _ _ _ c.from_residual.ensures.0 (λ e. tt);
    }

pub returns-then-size : goal.returns-then-size
unfolding tables_in
returns-then-size c =
    let a = c.args in
    let (k, has) = with_ok _ a.handle 2 _ c.in_ok-k.ensures in record {
      judgement = judged_refused 27 (λ w s. truncate-long (tables_in a.n a.o (mem_of a.m.now)) a.handle _
          k a.size has (omega arith));
      fits = tt;
    }

pub file_place-node-requires : goal.file_place-node-requires
file_place-node-requires c =
    let a = c.args in
    let h = has-place a.m.now a.o 2 _ (omega arith) (with_ok _ a.handle 2 _ c.in_ok-k.ensures).1 in
    (omega arith, omega arith, omega arith)

pub returns-then-is_full : goal.returns-then-is_full
unfolding tables_in
returns-then-is_full c =
    let a = c.args in
    let (k, has) = with_ok _ a.handle 2 _ c.in_ok-k.ensures in record {
      judgement = judged_refused 28 (λ w s. truncate-full (tables_in a.n a.o (mem_of a.m.now)) a.handle _
          k a.size has _ _
          (c.file_place-node.ensures w s) (c.is_full.ensures w a.o s) (omega arith) c.if-is_full.true);
      fits = tt;
    }

pub returns : goal.returns
unfolding tables_in
returns c =
    let a = c.args in
    let (k, has) = with_ok _ a.handle 2 _ c.in_ok-k.ensures in record {
      judgement = judged_open _ _ (has-place a.m.now a.o 2 _ (omega arith) has)
          (λ w s. truncate_handled (tables_in a.n a.o (mem_of a.m.now)) a.handle _
          k a.size has _ _
          (c.file_place-node.ensures w s) (c.is_full.ensures w a.o s) (omega arith) c.if-is_full.false);
      fits = omega arith;
    }
