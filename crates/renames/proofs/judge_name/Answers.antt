-- `renames::judge_name` meets its contract. Assumes nothing.
use native.Mathlib.Omega.{arith}
use mathlib.Core.Path.{◌≡◌, refl, ap, sym, ◌∙◌}
use Prim.Native.Nat.{ℕ}
use lib.ListN.{length, take}
use Rattle.memory.specs.Layout.{mem_of}
use Rattle.tables.specs.laws.RowsInUse.{count-nodes}
use Rattle.paths.specs.laws.WalkLaws.{child_front}
use Rattle.renames.specs.Judged.{by_number}
use Rattle.renames.specs.laws.NameLaws.{number_refuses, number_moves, node_in, parent_in, start_in, root-first}
use Rattle.renames.specs.laws.NameLaws.{same_done, name-taken, name_free}
use Rattle.refusals.specs.Numbers.{number_of}
use Rattle.refusals.specs.laws.NumberLaws.{number_positive, passed_on}
use Rattle.tables.specs.laws.FoundLaws.{found_none, found_some}
use Rattle.renames.proofs.judge_name.Goals as goal

pub returns-then-k-eq0 : goal.returns-then-k-eq0
returns-then-k-eq0 c =
    let a = c.args in
    let ns = take a.n (mem_of a.m.now).nodes in record {
      by_index = λ w s f l. sym (root-first ns a.k a.from a.d a.at a.name.now c.if-k-eq0.true);
      moves = λ i j x e. absurd (let z : ◌≡◌ {A = ℕ} 0 1 = cc in omega arith);
    }

pub returns-then-j-k : goal.returns-then-j-k
returns-then-j-k c =
    let a = c.args in
    let ns = (mem_of a.m.now).nodes in
    let (q, h) = found_some _ _ (sym c.in-Some.is ∙ c.find_child.ensures) in
    let j = child_front a.n ns a.d _ _ a.name.now (omega arith) c.node_id.ensures q in record {
      by_index = λ w s f l. sym (same_done (take a.n ns) a.k a.from a.d a.at a.name.now
          c.if-k-eq0.false
          (sym j ∙ c.if-j-k.true));
      moves = λ i j x e. absurd (let z : ◌≡◌ {A = ℕ} 0 1 = cc in omega arith);
    }

pub returns-in-Some : goal.returns-in-Some
returns-in-Some c =
    let a = c.args in
    let ns = (mem_of a.m.now).nodes in
    let n : length (take a.n ns) ≡ a.n = count-nodes a.m.now a.n (omega arith) in
    let (q, h) = found_some _ _ (sym c.in-Some.is ∙ c.find_child.ensures) in
    let j = child_front a.n ns a.d _ _ a.name.now (omega arith) c.node_id.ensures q in record {
      by_index = λ w s f l. sym (name-taken (take a.n ns) a.k a.from a.d a.at a.name.now
          c.if-k-eq0.false
          (λ e. c.if-j-k.false (j ∙ e)) (omega (arith, j, n, h)));
      moves = λ i j x e. absurd (let z : ◌≡◌ {A = ℕ} 0 1 = cc in omega arith);
    }

pub returns-in_err-judge_move : goal.returns-in_err-judge_move
returns-in_err-judge_move c =
    let a = c.args in
    let ns = (mem_of a.m.now).nodes in
    let n : length (take a.n ns) ≡ a.n = count-nodes a.m.now a.n (omega arith) in
    let h = found_none _ _ (sym c.in_default.is ∙ c.find_child.ensures) in
    let j = child_front a.n ns a.d _ _ a.name.now (omega arith) c.node_id.ensures refl in
    let b = c.in_err-judge_move.field-0.0 in
    let g = passed_on _ _ c.from_residual.ensures.1 in record {
      by_index = λ w s f l.
          g ∙ sym (name_free (take a.n ns) a.k a.from a.d a.at a.name.now c.if-k-eq0.false
          (λ e. omega (arith, j, n, h, e)) (omega (arith, j, n, h))
          ∙ ap (by_number a.k a.d a.at) (sym (c.in_err-judge_move.ensures w s f l))
          ∙ number_refuses a.k a.d a.at (number_of b) (λ z. omega (arith, z, number_positive b)));
      moves = λ i j x e. let q = sym g ∙ e in absurd (let z : ◌≡◌ {A = ℕ} 0 1 = cc in omega arith);
    }

pub returns : goal.returns
returns c =
    let a = c.args in
    let ns = (mem_of a.m.now).nodes in
    let n : length (take a.n ns) ≡ a.n = count-nodes a.m.now a.n (omega arith) in
    let h = found_none _ _ (sym c.in_default.is ∙ c.find_child.ensures) in
    let j = child_front a.n ns a.d _ _ a.name.now (omega arith) c.node_id.ensures refl in record {
      by_index = λ w s f l.
          sym (name_free (take a.n ns) a.k a.from a.d a.at a.name.now c.if-k-eq0.false
          (λ e. omega (arith, j, n, h, e)) (omega (arith, j, n, h))
          ∙ number_moves a.k a.d a.at _ (sym (c.in_ok-judge_move.ensures w s f l)));
      moves = λ i j x e. (sym (ap node_in e), sym (ap parent_in e), sym (ap start_in e));
    }
