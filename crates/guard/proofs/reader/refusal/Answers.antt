-- `guard::reader::refusal` meets its contract. Assumes nothing.
use native.Mathlib.Omega.{arith}
use mathlib.Core.Path.{refl, sym, ap, ◌∙◌}
use Rattle.lists.specs.Pick.{pick_true, pick-false}
use Rattle.refusals.specs.Numbers.{number_or_0}
use Rattle.refusals.specs.laws.NumberLaws.{number_positive}
use Rattle.std.proofs.Math.ListN.{take}
use Rattle.memory.specs.Layout.{memory_size}
use Rattle.guard.specs.Promise.{held}
use Rattle.guard.specs.laws.FrontLaws.{front-size}
use Rattle.guard.specs.laws.ReaderLaws.{number_short, number-long, first_stays, first_goes}
use Rattle.guard.proofs.reader.refusal.Goals as goal

pub returns-then-memory-lt-SIZE : goal.returns-then-memory-lt-SIZE
returns-then-memory-lt-SIZE c = let a = c.args in number_short a.memory.now _ _ _ c.if-memory-lt-SIZE.true

pub first_refusal-requires : goal.first_refusal-requires
first_refusal-requires c =
    let f = front-size c.args.memory.now c.if-memory-lt-SIZE.false in omega arith

pub returns-in-Some : goal.returns-in-Some
returns-in-Some c =
    let a = c.args in
    let z = sym (ap number_or_0 c.in-Some.is) ∙ c.first_refusal.ensures in
    number-long a.memory.now _ _ _ c.if-memory-lt-SIZE.false
    (first_stays (held (take memory_size a.memory.now)) _ (λ e. omega (arith, e, number_positive c.in-Some.first)) z _)
    refl

pub returns-then-is_short : goal.returns-then-is_short
returns-then-is_short c =
    let a = c.args in
    let z = sym (ap number_or_0 c.in_default.is) ∙ c.first_refusal.ensures in
    number-long a.memory.now _ _ _ c.if-memory-lt-SIZE.false (first_goes (held (take memory_size a.memory.now)) z _)
    (sym (pick_true _ _ _ (sym c.is_short.ensures ∙ c.if-is_short.true)))

pub returns : goal.returns
returns c =
    let a = c.args in
    let z = sym (ap number_or_0 c.in_default.is) ∙ c.first_refusal.ensures in
    number-long a.memory.now _ _ _ c.if-memory-lt-SIZE.false (first_goes (held (take memory_size a.memory.now)) z _)
    (sym (pick-false _ _ _ (sym c.is_short.ensures ∙ c.if-is_short.false)))
