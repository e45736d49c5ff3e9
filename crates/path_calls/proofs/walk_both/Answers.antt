-- `path_calls::walk_both` meets its contract. Assumes nothing.
use native.Mathlib.Omega.{arith}
use Prim.Native.Nat.{ℕ, ◌-◌}
use mathlib.Core.List.{List}
use mathlib.Core.Path.{◌≡◌, sym, ap, ◌∙◌}
use lib.ListN.{length, take, drop, length-drop}
use lib.Seq.{take_all}
use Rattle.std.specs.Prelude.{Ok}
use Rattle.refusals.specs.laws.NumberLaws.{passed_on}
use Rattle.paths.specs.Walks.{child_step}
use Rattle.memory.specs.Layout.{mem_of}
use Rattle.path_calls.specs.Ways.{way_of}
use Rattle.path_calls.specs.laws.ReachedLaws.{both-root, both_in, both_refused}
use Rattle.path_calls.specs.laws.Rows.{holds_front}
use borrow.Author.Rules.{rules}
use Rattle.path_calls.proofs.walk_both.Goals as goal

pub returns-in_err-place : goal.returns-in_err-place
returns-in_err-place c =
    let a = c.args in
    passed_on _ _ c.from_residual.ensures.1
    ∙ sym (both_refused (take a.n (mem_of a.m.now).nodes) a.path.now _ (sym c.in_err-place.ensures))

pub slice_bounds-step_from-count : goal.slice_bounds-step_from-count
slice_bounds-step_from-count c =
    let a = c.args in
    (holds_front a.m.now a.n a.path.now (omega arith) (omega arith) _ _ _ c.in_ok-place.ensures
    (ap Ok c.in-Some.is)).0.start_within

pub slice_bounds-step_from-start : goal.slice_bounds-step_from-start
slice_bounds-step_from-start c =
    let a = c.args in
    let h = (holds_front a.m.now a.n a.path.now (omega arith) (omega arith) _ _ _ c.in_ok-place.ensures
    (ap Ok c.in-Some.is)).0.start_within in
    search rules

pub step_from-requires : goal.step_from-requires
step_from-requires c =
    let a = c.args in
    let h = (holds_front a.m.now a.n a.path.now (omega arith) (omega arith) _ _ _ c.in_ok-place.ensures
    (ap Ok c.in-Some.is)).1 in
    search rules

pub returns-in-Some : goal.returns-in-Some
returns-in-Some c =
    let a = c.args in
    let s = a.path.now in
    let p = c.in-Some.place in
    let h = (holds_front a.m.now a.n s (omega arith) (omega arith) _ _ _ c.in_ok-place.ensures
    (ap Ok c.in-Some.is)).0 in
    let t : take (length s - p.start) (drop p.start s) ≡ drop p.start s = take_all (length s - p.start)
    (drop p.start s) (omega (arith, length-drop p.start s)) in
    c.step_from.ensures
    ∙ ap (λ (x : List ℕ). way_of p.parent (child_step (take a.n (mem_of a.m.now).nodes) p.parent x)) t
    ∙ sym (both_in (take a.n (mem_of a.m.now).nodes) s _ _ h (sym c.in_ok-place.ensures ∙ ap Ok c.in-Some.is))

pub returns-in-None : goal.returns-in-None
returns-in-None c =
    let a = c.args in
    sym (both-root (take a.n (mem_of a.m.now).nodes) a.path.now (sym c.in_ok-place.ensures ∙ ap Ok c.in-None.is))
