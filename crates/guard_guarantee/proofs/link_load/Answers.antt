-- `guard_guarantee::link_load` meets its contract. Assumes nothing.
use Rattle.guard_guarantee.specs.Chains.{loaded}
use Rattle.guard_guarantee.proofs.link_load.Goals as goal

pub returns : goal.returns
returns c b =
    let a = c.args in
    loaded a.image.now a.digest.now _ c.guard_entry_load.ensures
