-- `text::line::starts` meets its contract.
-- Assumes nothing.
use Rattle.std.proofs.Common.{◌∙◌}
use Rattle.text.specs.laws.PlaceLaws.{begins_starts}
use Rattle.text.proofs.line.starts.Goals as goal

pub returns : goal.returns
returns c = c.starts_with.ensures.value ∙ begins_starts _ _
