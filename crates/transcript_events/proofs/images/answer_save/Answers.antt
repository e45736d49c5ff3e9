-- `images::answer_save` meets its contract. Assumes nothing.
use Rattle.transcript_events.specs.laws.HandedLaws.{lent_saved}
use Rattle.transcript_events.proofs.images.answer_save.Goals as goal

pub returns : goal.returns
returns c = lent_saved _ _ _ _ _ _ c.number-n.ensures.1 c.save_into.ensures
