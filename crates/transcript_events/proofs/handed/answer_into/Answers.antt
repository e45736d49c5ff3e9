-- `handed::answer_into` meets its contract. Assumes nothing.
use Rattle.transcript_events.proofs.handed.answer_into.Goals as goal

pub returns : goal.returns
returns c =
    let h = c.hand_in-o in
    record {
      outcome = h.result;
      answer = h.new.answer;
      request = h.new.request;
      promised = h.ensures;
      said = c.set_outcome.ensures;
    }
