-- `replies::give_up` meets its contract. Assumes nothing.
use native.Mathlib.Omega.{arith}
use Rattle.guard_state.specs.State.{state_of}
use Rattle.outcomes.specs.laws.SentLaws.{gave_up_sends}
use Rattle.replies.proofs.give_up.Goals as goal

pub returns : goal.returns
returns c =
    let a = c.args in
    record {
      sends = λ d q. gave_up_sends d (state_of d a.m.now) _ q (c.finish.ensures.0 d);
      keeps_length = omega arith;
    }
