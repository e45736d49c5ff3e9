-- `guard_state::Guard::load` meets its contract. Assumes nothing.
use Rattle.guard_state.specs.State.{numbers_of}
use Rattle.guard_state.proofs.Guard.load.Goals as goal

pub returns : goal.returns
unfolding numbers_of
returns c =
    rw (
      c.number.ensures,
      c.number-2.ensures,
      c.head.ensures,
      c.head-2.ensures,
      c.number-3.ensures,
      c.number-4.ensures,
      c.head-3.ensures,
      c.head-4.ensures,
      c.head-5.ensures,
      c.head-6.ensures,
      c.number-5.ensures,
      c.number-6.ensures,
      c.number-7.ensures,
      c.number-8.ensures,
      c.number-9.ensures,
      c.number-10.ensures,
    )
