-- `guard::save_into` meets its contract. Assumes nothing.
use native.Mathlib.Omega.{arith}
use Rattle.guard.specs.laws.FrontLaws.{front-size}
use Rattle.guard.specs.laws.EntryLaws.{save_promised}
use Rattle.guard.proofs.save_into.Goals as goal

pub take_save-requires : goal.take_save-requires
take_save-requires c =
    let f = front-size c.args.memory.now c.if-memory-lt-SIZE.false in
    (omega (arith, c.requires), omega arith)

pub returns : goal.returns
returns c =
    let a = c.args in
    save_promised a.memory.now _ c.if-memory-lt-SIZE.false c.take_save.ensures.keeps_length _ _ _ _ _ c.requires
    c.take_save.ensures.saving
