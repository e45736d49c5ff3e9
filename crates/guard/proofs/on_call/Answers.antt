-- `guard::on_call` meets its contract. Assumes nothing.
use native.Mathlib.Omega.{arith}
use Rattle.lists.specs.EqualLaws.{bytes_of}
use Rattle.rules.specs.Skeleton.{EventBytes}
use Rattle.guard.specs.laws.FrontLaws.{front-size}
use Rattle.guard.specs.laws.EntryLaws.{call_short_memory, call_promised}
use Rattle.guard.proofs.on_call.Goals as goal

pub returns-then-memory-lt-SIZE : goal.returns-then-memory-lt-SIZE
unfolding EventBytes
returns-then-memory-lt-SIZE c =
    let a = c.args in
    call_short_memory a.memory.now c.if-memory-lt-SIZE.true
    (bytes_of a.bytes.now (λ k. omega (arith, c.type_inv.bytes k))) _

pub take_call-requires : goal.take_call-requires
take_call-requires c = let f = front-size
    c.args.memory.now c.if-memory-lt-SIZE.false in omega arith

pub returns : goal.returns
unfolding EventBytes
returns c =
    let a = c.args in
    call_promised a.memory.now _ c.if-memory-lt-SIZE.false c.take_call.ensures.keeps_length
    (bytes_of a.bytes.now (λ k. omega (arith, c.type_inv.bytes k))) _ _ _
    c.take_call.ensures.takes
