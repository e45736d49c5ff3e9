-- `path_calls::step_from` meets its contract. Assumes nothing.
use mathlib.Core.Path.{ap, ◌∙◌}
use Rattle.refusals.specs.laws.NumberLaws.{passed_on}
use Rattle.path_calls.specs.Ways.{way_of}
use Rattle.path_calls.proofs.step_from.Goals as goal

pub returns-in_err-node : goal.returns-in_err-node
unfolding way_of
returns-in_err-node c = passed_on _ _ c.from_residual.ensures.1 ∙ ap (way_of c.args.parent) c.in_err-node.ensures

pub returns : goal.returns
unfolding way_of
returns c = ap (way_of c.args.parent) c.in_ok-node.ensures
