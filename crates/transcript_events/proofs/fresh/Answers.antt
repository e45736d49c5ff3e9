-- `transcript_events::fresh` meets its contract. Assumes nothing.
use Rattle.std.proofs.Common.{sym}
use Rattle.transcript_events.specs.laws.HandedLaws.{answer-least, request_least}
use Rattle.transcript_events.proofs.fresh.Goals as goal

pub returns : goal.returns
returns c =
    record { outcome = _; promised = c.on_fresh.ensures; answer = sym answer-least; request = sym request_least }
