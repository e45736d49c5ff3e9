-- `tables::find_node` meets its contract. Assumes nothing.
use Rattle.tables.specs.laws.FoundLaws.{found_bounds}
use Rattle.tables.proofs.find_node.Goals as goal

pub returns-clause-within : goal.returns-clause-within
returns-clause-within c = found_bounds _ _ _ c.find_id.ensures
