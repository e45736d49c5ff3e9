-- `guard::on_fresh` meets its contract. Assumes nothing.
use native.Mathlib.Omega.{arith}
use Rattle.guard.specs.laws.FrontLaws.{front-size}
use Rattle.guard.specs.laws.EntryLaws.{fresh_promised}
use Rattle.guard.proofs.on_fresh.Goals as goal

pub make_fresh-requires : goal.make_fresh-requires
make_fresh-requires c = let f = front-size c.args.memory.now
    c.if-memory-lt-SIZE.false in omega arith

pub returns : goal.returns
returns c =
    fresh_promised c.args.memory.now _ c.if-memory-lt-SIZE.false c.make_fresh.ensures.keeps_length
    c.make_fresh.ensures.m_after
