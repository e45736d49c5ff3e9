-- `digest::sha256` meets its contract: the whole message is the rest.
-- Assumes nothing.
use mathlib.Core.Path.{◌∙◌}
use Rattle.digest.specs.laws.StreamingLaws.{finished_all}
use Rattle.digest.proofs.sha256.Goals as goal

pub returns : goal.returns
returns c = c.finish.ensures ∙ rw c.initial.ensures (finished_all _)
