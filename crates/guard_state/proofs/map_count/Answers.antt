-- `guard_state::map_count` meets its contract. Assumes nothing.
use Rattle.guard_state.specs.State.{map_count}
use Rattle.guard_state.proofs.map_count.Goals as goal

pub returns : goal.returns
unfolding map_count
returns c = c.number.ensures
