-- `renames::judge_rename` meets its contract. Assumes nothing.
use native.Mathlib.Omega.{arith}
use Prim.Native.Nat.{ℕ}
use mathlib.Core.Path.{◌≡◌, sym, ◌∙◌}
use Rattle.memory.specs.Layout.{mem_of}
use Rattle.tables.specs.View.{tables_in}
use Rattle.renames.specs.laws.WalkLaws.{renaming_fault, renaming_good, both-short}
use Rattle.refusals.specs.Numbers.{numbered}
use Rattle.renames.specs.Judged.{moved}
use Rattle.refusals.specs.laws.NumberLaws.{passed_on}
use Rattle.renames.proofs.judge_rename.Goals as goal

pub returns-in_err-forms : goal.returns-in_err-forms
returns-in_err-forms c =
    let a = c.args in
    let g = passed_on _ _ c.from_residual.ensures.1 in
    let never : (i j x : ℕ) → numbered c.from_residual.result ≡ moved i j x → ⊥ = λ i j x e.
    let q = sym g ∙ e in let z : ◌≡◌ {A = ℕ} 0 1 = cc in omega arith in record {
      by_index = λ w o s. g ∙ sym (renaming_fault (tables_in a.n o (mem_of a.m.now)) a.first.now a.second.now _
          (sym c.in_err-forms.ensures));
      fits_both = (λ i j x e. absurd (never i j x e), λ i j x e. absurd (never i j x e));
    }

pub judge_walks-requires : goal.judge_walks-requires
judge_walks-requires c =
    let a = c.args in (
      c.requires.0,
      c.requires.1,
      (both-short (tables_in a.n 0 (mem_of a.m.now)) a.first.now a.second.now (sym c.in_ok-forms.ensures)).1,
      omega arith,
    )

pub returns : goal.returns
unfolding tables_in
returns c =
    let a = c.args in
    let f = sym c.in_ok-forms.ensures in
    let (u, v) = both-short (tables_in a.n 0 (mem_of a.m.now)) a.first.now a.second.now f in record {
      by_index = λ w o s.
          c.judge_walks.ensures.by_index w s
          ∙ sym (renaming_good (tables_in a.n o (mem_of a.m.now)) a.first.now a.second.now f);
      fits_both = (c.judge_walks.ensures.fits, λ i j x e. (u.0, v.0));
    }
