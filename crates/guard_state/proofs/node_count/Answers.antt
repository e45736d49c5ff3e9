-- `guard_state::node_count` meets its contract. Assumes nothing.
use Rattle.guard_state.specs.State.{numbers_of}
use Rattle.guard_state.proofs.node_count.Goals as goal

pub returns : goal.returns
unfolding numbers_of
returns c = c.number.ensures
