-- `guard_guarantee::link_call` meets its contract. Assumes nothing.
use Rattle.guard_guarantee.specs.Chains.{called}
use Rattle.guard_guarantee.proofs.link_call.Goals as goal

pub returns : goal.returns
returns c =
    let a = c.args in
    called a.bytes.now a.answer.now a.request.now _ _ _ c.guard_entry_call.ensures
