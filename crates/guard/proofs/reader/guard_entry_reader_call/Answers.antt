-- `guard::reader::guard_entry_reader_call` meets its contract. Assumes nothing.
use native.Mathlib.Omega.{arith}
use mathlib.Core.Path.{ap, sym, ◌∙◌}
use Rattle.lists.specs.EqualLaws.{bytes_of}
use Rattle.refusals.specs.Numbers.{number_or_0}
use Rattle.refusals.specs.laws.NumberLaws.{number_positive}
use Rattle.rules.specs.Skeleton.{EventBytes}
use Rattle.guard.specs.Numbers.{refusal_number}
use Rattle.guard.specs.laws.ReaderLaws.{refused_shown, taken-shown}
use Rattle.guard.proofs.reader.guard_entry_reader_call.Goals as goal

pub returns-in_default : goal.returns-in_default
returns-in_default c =
    let a = c.args in
    taken-shown a.memory.now a.bytes.now _ c.refusal.ensures _ _ (ap number_or_0 c.in_default.is) _ _ _ _
    c.guard_entry_call.ensures

pub returns : goal.returns
unfolding EventBytes
returns c =
    let a = c.args in
    let own = ap number_or_0 c.in-Some.is in
    refused_shown a.memory.now a.bytes.now _ c.refusal.ensures a.answer.now a.request.now _
    (bytes_of a.bytes.now (λ k. omega (arith, c.type_inv.bytes k)))
    (λ z. omega (arith, z, own, number_positive c.in-Some.own))
    (c.refusal-refusal.ensures ∙ ap (refusal_number a.memory.now _ _) (sym own))
    _ c.shown.ensures
