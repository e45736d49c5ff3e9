-- `guard::on_load` meets its contract. Assumes nothing.
use native.Mathlib.Omega.{arith}
use Rattle.lists.specs.EqualLaws.{bytes_of}
use Rattle.guard.specs.laws.FrontLaws.{front-size}
use Rattle.guard.specs.laws.EntryLaws.{load_short_memory, load_promised}
use Rattle.guard.proofs.on_load.Goals as goal

pub returns-then-memory-lt-SIZE : goal.returns-then-memory-lt-SIZE
returns-then-memory-lt-SIZE c =
    let a = c.args in
    load_short_memory a.memory.now c.if-memory-lt-SIZE.true a.image.now a.digest.now
    (bytes_of a.image.now (λ k. omega (arith, c.type_inv.image k)))
    (bytes_of a.digest.now (λ k. omega (arith, c.type_inv.digest k)))

pub take_load-requires : goal.take_load-requires
take_load-requires c = let f = front-size
    c.args.memory.now c.if-memory-lt-SIZE.false in omega arith

pub returns : goal.returns
returns c =
    let a = c.args in
    load_promised a.memory.now _ c.if-memory-lt-SIZE.false c.take_load.ensures.keeps_length a.image.now a.digest.now
    (bytes_of a.image.now (λ k. omega (arith, c.type_inv.image k)))
    (bytes_of a.digest.now (λ k. omega (arith, c.type_inv.digest k))) _ c.take_load.ensures.steps
