-- `paths::walk` meets its contract: a walk is the way to the last component's directory and one step more. Assumes
-- nothing.
use native.Mathlib.Omega.{arith}
use Prim.Native.Nat.{ℕ, ◌≤◌, ◌<◌, ◌-◌}
use mathlib.Core.Path.{◌≡◌, sym, ap, ◌∙◌}
use mathlib.Core.List.{List}
use lib.ListN.{length, take, drop, length-drop}
use lib.Seq.{take_all}
use Rattle.filesystem.specs.Tables.{NODES}
use Rattle.memory.specs.Layout.{mem_of}
use Rattle.paths.specs.Parts.{components_of}
use Rattle.paths.specs.Walks.{walked, placed, child_step}
use Rattle.paths.specs.laws.WalkAnswers.{last_step, walked-placed, Holds, placed_in_lem}
use Rattle.std.specs.Prelude.{Option, Some, Ok}
use Rattle.refusals.specs.Numbers.{Judged}
use Rattle.refusals.specs.laws.NumberLaws.{passed_on}
use Rattle.paths.specs.declared.Place.{Place}
use Rattle.tables.specs.laws.RowsInUse.{count-nodes}
use borrow.Author.Rules.{rules}
use Rattle.paths.proofs.walk.Goals as goal

module _ (m s : List ℕ) (n : ℕ) where
  holds : (p : Place) → Ok (Some p) ≡ placed (take n (mem_of m).nodes) s → 0 < n → n ≤ NODES
      → Holds (take n (mem_of m).nodes) s p.parent p.start
  holds p e h l = let k = count-nodes m n l in placed_in_lem (take n (mem_of m).nodes) s p.parent p.start
      (omega arith) (sym e)

  answer : (q : Judged (Option Place)) → q ≡ placed (take n (mem_of m).nodes) s
      → last_step (take n (mem_of m).nodes) s q ≡ walked (take n (mem_of m).nodes) (components_of s)
  answer q e = ap (last_step (take n (mem_of m).nodes) s) e ∙ sym (walked-placed (take n (mem_of m).nodes) s)

pub returns-in_err-place : goal.returns-in_err-place
unfolding last_step
returns-in_err-place c =
    let a = c.args in
    passed_on _ _ c.from_residual.ensures.1 ∙ answer a.m.now a.path.now a.n _ c.in_err-place.ensures

pub slice_bounds-last_step-count : goal.slice_bounds-last_step-count
slice_bounds-last_step-count c =
    let a = c.args in
    (holds a.m.now a.path.now a.n _ (ap Ok (sym c.in-Some.is) ∙ c.in_ok-place.ensures) (omega arith)
    (omega arith)).start_within

pub slice_bounds-last_step-start : goal.slice_bounds-last_step-start
slice_bounds-last_step-start c =
    let a = c.args in
    let h = (holds a.m.now a.path.now a.n _ (ap Ok (sym c.in-Some.is) ∙ c.in_ok-place.ensures) (omega arith)
    (omega arith)).start_within in
    search rules

pub last_step-requires : goal.last_step-requires
last_step-requires c =
    let a = c.args in
    let h = (holds a.m.now a.path.now a.n _ (ap Ok (sym c.in-Some.is) ∙ c.in_ok-place.ensures) (omega arith)
    (omega arith)).place-within in
    let k = count-nodes a.m.now a.n (omega arith) in
    (omega arith, omega arith, omega arith)

pub returns-in-Some : goal.returns-in-Some
unfolding last_step
returns-in-Some c =
    let a = c.args in
    let s = a.path.now in
    let p = c.in-Some.place in
    let t : take (length s - p.start) (drop p.start s) ≡ drop p.start s = take_all (length s - p.start) (drop p.start s)
    (omega (arith, length-drop p.start s)) in
    c.last_step.ensures
    ∙ ap (child_step (take a.n (mem_of a.m.now).nodes) p.parent) t
    ∙ answer a.m.now s a.n _ (ap Ok (sym c.in-Some.is) ∙ c.in_ok-place.ensures)

pub returns-in-None : goal.returns-in-None
unfolding last_step
returns-in-None c =
    let a = c.args in
    answer a.m.now a.path.now a.n _ (ap Ok (sym c.in-None.is) ∙ c.in_ok-place.ensures)
