-- `guard_guarantee::link_save` meets its contract. Assumes nothing.
use Rattle.guard_guarantee.specs.Chains.{saved}
use Rattle.guard_guarantee.proofs.link_save.Goals as goal

pub returns : goal.returns
returns c b =
    let a = c.args in
    saved a.image.now _ a.digest.now _ _ c.guard_entry_save.ensures
