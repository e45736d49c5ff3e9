-- `read_only_calls::refusal_of` meets its contract. Assumes nothing.
use Rattle.read_only_calls.specs.Refusals.{number_of_form}
use borrow.Author.Rules.{rules}
use Rattle.read_only_calls.proofs.refusal_of.Goals as goal

pub returns-in-Ok : goal.returns-in-Ok
unfolding number_of_form
returns-in-Ok c = search rules

pub returns-in-Err : goal.returns-in-Err
unfolding number_of_form
returns-in-Err c = search rules
