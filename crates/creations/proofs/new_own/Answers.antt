-- `creations::new_own` meets its contract. Assumes nothing.
use native.Mathlib.Omega.{arith}
use Prim.Native.Nat.{◌-◌}
use mathlib.Core.Path.{◌≡◌, sym, ap, ◌∙◌}
use lib.ListN.{length, take, drop, length-drop}
use lib.Seq.{take_all}
use Rattle.std.specs.Prelude.{Ok}
use Rattle.refusals.specs.laws.NumberLaws.{passed_on}
use Rattle.memory.specs.Layout.{mem_of}
use Rattle.path_calls.specs.laws.Rows.{holds_front}
use Rattle.creations.specs.NameChecks.{name_own}
use Rattle.creations.specs.laws.NameLaws.{new-stops, new-root, new_goes}
use Rattle.tables.specs.laws.RowsInUse.{count-nodes}
use borrow.Author.Rules.{rules}
use Rattle.creations.proofs.new_own.Goals as goal

pub returns-in_err-place : goal.returns-in_err-place
returns-in_err-place c =
    let a = c.args in
    passed_on _ _ c.from_residual.ensures.1
    ∙ sym (new-stops (take a.n (mem_of a.m.now).nodes) a.path.now _ (sym c.in_err-place.ensures))

pub slice_bounds-name_own-count : goal.slice_bounds-name_own-count
slice_bounds-name_own-count c =
    let a = c.args in
    (holds_front a.m.now a.n a.path.now (omega arith) (omega arith) _ _ _ c.in_ok-place.ensures
    (ap Ok c.in-Some.is)).0.start_within

pub slice_bounds-name_own-start : goal.slice_bounds-name_own-start
slice_bounds-name_own-start c =
    let a = c.args in
    let h = (holds_front a.m.now a.n a.path.now (omega arith) (omega arith) _ _ _ c.in_ok-place.ensures
    (ap Ok c.in-Some.is)).0.start_within in
    search rules

pub name_own-requires : goal.name_own-requires
name_own-requires c =
    let a = c.args in
    let h = (holds_front a.m.now a.n a.path.now (omega arith) (omega arith) _ _ _ c.in_ok-place.ensures
    (ap Ok c.in-Some.is)).1 in
    search rules

pub returns-in-None : goal.returns-in-None
returns-in-None c =
    let a = c.args in
    sym (new-root (take a.n (mem_of a.m.now).nodes) a.path.now
    (omega (arith, count-nodes a.m.now a.n (omega arith))) (sym c.in_ok-place.ensures ∙ ap Ok c.in-None.is))

pub returns-in-Some : goal.returns-in-Some
returns-in-Some c =
    let a = c.args in
    let s = a.path.now in
    let p = c.in-Some.place in
    let h = (holds_front a.m.now a.n s (omega arith) (omega arith) _ _ _ c.in_ok-place.ensures
    (ap Ok c.in-Some.is)).0 in
    let t : take (length s - p.start) (drop p.start s) ≡ drop p.start s = take_all (length s - p.start)
    (drop p.start s) (omega (arith, length-drop p.start s)) in
    c.name_own.ensures ∙ ap (name_own (take a.n (mem_of a.m.now).nodes) p.parent p.start) t
    ∙ sym (new_goes (take a.n (mem_of a.m.now).nodes) s _ _ h)
