-- `guard_guarantee::link_reply` meets its contract. Assumes nothing.
use Rattle.guard_guarantee.specs.Chains.{replied}
use Rattle.guard_guarantee.proofs.link_reply.Goals as goal

pub returns : goal.returns
returns c b =
    let a = c.args in
    replied a.bytes.now a.answer.now a.request.now _ _ _ c.guard_entry_reply.ensures
