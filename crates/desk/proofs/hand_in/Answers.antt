-- `desk::hand_in` meets its contract. Assumes nothing.
use Rattle.desk.specs.Answered.{event_for}
use Rattle.desk.proofs.hand_in.Goals as goal

pub returns-in-Call : goal.returns-in-Call
unfolding event_for
returns-in-Call c = rw c.in-Call.is c.on_call.ensures

pub returns-in-Reply : goal.returns-in-Reply
unfolding event_for
returns-in-Reply c = rw c.in-Reply.is c.on_reply.ensures
