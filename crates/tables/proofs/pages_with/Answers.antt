-- `tables::pages_with` meets its contract. Assumes nothing.
use Rattle.tables.specs.laws.ChangeLaws.{total-with}
use Rattle.tables.proofs.pages_with.Goals as goal

pub returns : goal.returns
returns c =
    rw c.pages_for.ensures.0 (total-with _ c.pages_of-s.ensures.0 _)
