-- `renames::judge_walks` meets its contract. Assumes nothing.
use native.Mathlib.Omega.{arith}
use Prim.Native.Nat.{ℕ}
use mathlib.Core.Path.{◌≡◌, sym, ◌∙◌}
use lib.ListN.{length, take}
use Rattle.memory.specs.Layout.{mem_of}
use Rattle.tables.specs.laws.RowsInUse.{count-nodes}
use Rattle.renames.specs.laws.WalkLaws.{walks_stop, walks_go}
use Rattle.refusals.specs.laws.NumberLaws.{passed_on}
use Rattle.renames.proofs.judge_walks.Goals as goal

pub returns-in_err-way : goal.returns-in_err-way
returns-in_err-way c =
    let a = c.args in
    let g = passed_on _ _ c.from_residual.ensures.1 in record {
      by_index = λ w s. g ∙ sym (walks_stop (take a.n (mem_of a.m.now).nodes) a.first.now a.second.now _
          (sym c.in_err-way.ensures));
      fits = λ i j x e. let q = sym g ∙ e in absurd (let z : ◌≡◌ {A = ℕ} 0 1 = cc in omega arith);
    }

pub judge_second-requires : goal.judge_second-requires
judge_second-requires c =
    let a = c.args in
    let ns = take a.n (mem_of a.m.now).nodes in
    let n : length ns ≡ a.n = count-nodes a.m.now a.n (omega arith) in
    let (_, k, d) = walks_go ns a.first.now a.second.now _ _ (omega arith) (sym c.in_ok-way.ensures) in
    (omega arith, omega arith, c.requires.1, c.requires.2, omega arith)

pub returns : goal.returns
returns c =
    let a = c.args in
    let ns = take a.n (mem_of a.m.now).nodes in
    let n : length ns ≡ a.n = count-nodes a.m.now a.n (omega arith) in
    let (g, _, _) = walks_go ns a.first.now a.second.now _ _ (omega arith) (sym c.in_ok-way.ensures) in
    record {
      by_index = λ w s. c.judge_second.ensures.by_index w s ∙ sym g;
      fits = c.judge_second.ensures.fits;
    }
