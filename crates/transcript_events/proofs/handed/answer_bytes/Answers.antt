-- `handed::answer_bytes` meets its contract. Assumes nothing.
use Rattle.transcript_events.specs.laws.HandedLaws.{lent_answered}
use Rattle.transcript_events.proofs.handed.answer_bytes.Goals as goal

pub returns : goal.returns
returns c = lent_answered _ _ _ _ _ _ _ _ _ _ _ c.min-a.ensures c.min-q.ensures c.answer_into.ensures
