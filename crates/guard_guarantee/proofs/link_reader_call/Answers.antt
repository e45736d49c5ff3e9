-- `guard_guarantee::link_reader_call` meets its contract. Assumes nothing.
use Rattle.guard_guarantee.specs.Chains.{reader_called}
use Rattle.guard_guarantee.proofs.link_reader_call.Goals as goal

pub returns : goal.returns
returns c =
    let a = c.args in
    reader_called a.bytes.now a.answer.now a.request.now _ _ _ c.guard_entry_reader_call.ensures
