-- `paths::parts_form` meets its contract. The invariant: the whole has the form that what stands from `at` on has, with
-- what was
-- long before; the first part of it ends at `end`. Assumes nothing.
use native.Mathlib.Omega.{arith}
use Prim.Native.Nat.{◌+◌}
use mathlib.Core.Path.{sym, ap, ◌∙◌}
use mathlib.Core.Bool.{Bool}
use lib.ListN.{drop}
use Rattle.lists.specs.Pick.{pick}
use Rattle.filesystem.specs.Paths.{split}
use Rattle.paths.specs.PathForms.{parts_form, length_form}
use Rattle.paths.specs.laws.PathFormLaws.{from_zero, from_bad, from_on, last_bad, last_good}
use Rattle.paths.proofs.parts_form.Goals as goal

pub returns-then-path-end-eq0 : goal.returns-then-path-end-eq0
returns-then-path-end-eq0 c =
    let s = c.args.path.now in
    let l = c.loop-end in
    sym (l.invariant.3 ∙ from_zero s l.at l.end l.invariant.2 (omega arith) l.long (omega arith) c.if-path-end-eq0.true)

pub returns-then-not-is_name : goal.returns-then-not-is_name
returns-then-not-is_name c =
    let if1 = c.if-path-end-eq0 in
    let s = c.args.path.now in
    let l = c.loop-end in
    sym (l.invariant.3 ∙ from_bad s l.at l.end l.invariant.2 (omega arith) l.long (omega arith) if1.false
    (sym c.is_name.ensures ∙ c.if-not-is_name.true))

pub loop-end-preserved : goal.loop-end-preserved
loop-end-preserved c =
    let is_name = c.is_name in
    let if1 = c.if-path-end-eq0 in
    let s = c.args.path.now
    in
    let l = c.loop-end in
    let e = c.part_end-end-in-loop-end.ensures in
    let on = from_on s l.at l.end l.invariant.2 (omega arith) l.long (omega arith) if1.false
    (sym is_name.ensures ∙ c.if-not-is_name.false) in (
      e.1,
      e.2,
      e.0,
      l.invariant.3 ∙ on ∙ ap (λ (b : Bool). parts_form b (split (drop (l.end + 1) s)))
          (sym c.long_with-long.ensures),
    )

pub returns-then-not-is_name-2 : goal.returns-then-not-is_name-2
returns-then-not-is_name-2 c =
    let s = c.args.path.now in
    let l = c.loop-end in
    sym (l.invariant.3 ∙ last_bad s l.at l.end l.invariant.2 (omega arith) l.long (omega arith)
    (sym c.is_name-2.ensures ∙ c.if-not-is_name-2.true))

pub returns-then-long_with : goal.returns-then-long_with
unfolding length_form pick
returns-then-long_with c =
    let is-name2 = c.is_name-2 in
    let s = c.args.path.now in
    let l = c.loop-end in
    let good = last_good s l.at l.end l.invariant.2 (omega arith) l.long (omega arith)
    (sym is-name2.ensures ∙ c.if-not-is_name-2.false) in
    sym (l.invariant.3 ∙ good ∙ ap length_form (sym c.long_with.ensures ∙ c.if-long_with.true))

pub returns : goal.returns
unfolding length_form pick
returns c =
    let is-name2 = c.is_name-2 in
    let s = c.args.path.now in
    let l = c.loop-end in
    let good = last_good s l.at l.end l.invariant.2 (omega arith) l.long (omega arith)
    (sym is-name2.ensures ∙ c.if-not-is_name-2.false) in
    sym (l.invariant.3 ∙ good ∙ ap length_form (sym c.long_with.ensures ∙ c.if-long_with.false))
