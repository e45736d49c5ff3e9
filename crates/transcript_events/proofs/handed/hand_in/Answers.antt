-- `handed::hand_in` meets its contract. Assumes nothing.
use Rattle.transcript_events.specs.Handed.{EntryPromise}
use Rattle.transcript_events.proofs.handed.hand_in.Goals as goal

pub returns-in-Call : goal.returns-in-Call
unfolding EntryPromise
returns-in-Call c = rw c.in-Call.is c.on_call.ensures

pub returns-in-ReaderCall : goal.returns-in-ReaderCall
unfolding EntryPromise
returns-in-ReaderCall c = rw c.in-ReaderCall.is c.on_call-in-ReaderCall.ensures

pub returns-in-Reply : goal.returns-in-Reply
unfolding EntryPromise
returns-in-Reply c = rw c.in-Reply.is c.on_reply.ensures
