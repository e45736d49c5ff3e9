-- `read_only_calls::takes_by_path` meets its contract. Assumes nothing.
use mathlib.Core.Path.{ap, sym}
use Rattle.lists.specs.Pick.{pick}
use Rattle.call_reader.specs.Meaning.{made_by}
use Rattle.read_only.specs.ReadOnly.{takes_call}
use Rattle.read_only_calls.specs.Refusals.{takes_by_path}
use Rattle.read_only_calls.specs.laws.RefusalLaws.{others_refused}
use Rattle.read_only_calls.proofs.takes_by_path.Goals as goal

pub returns-in-3 : goal.returns-in-3
unfolding takes_by_path made_by takes_call pick
returns-in-3 c = let a = c.args in sym (ap (λ k. takes_by_path k a.number) c.in-3.is)

pub returns-in-12 : goal.returns-in-12
unfolding takes_by_path made_by takes_call pick
returns-in-12 c = let a = c.args in sym (ap (λ k. takes_by_path k a.number) c.in-12.is)

pub returns-in-13 : goal.returns-in-13
unfolding takes_by_path made_by takes_call pick
returns-in-13 c = let a = c.args in sym (ap (λ k. takes_by_path k a.number) c.in-13.is)

pub returns-in_default : goal.returns-in_default
returns-in_default c =
    let a = c.args in
    let r = c.in_default.in_default-own.rest in
    sym (others_refused a.kind a.number c.requires r.0.0.1 r.0.1 r.1)
