-- `digest::output::state_bytes` meets its contract.
-- Assumes nothing.
use mathlib.Core.Path.{◌∙◌}
use Rattle.digest.proofs.Endings.{spread}
use Rattle.digest.proofs.output.state_bytes.Goals as goal

pub returns : goal.returns
returns c =
    (rw c.unwrap.ensures at c.try_into.ensures.1).same ∙ c.as_flattened.ensures.value
    ∙ spread c.args.s c.to_be_bytes.ensures c.to_be_bytes-2.ensures c.to_be_bytes-3.ensures c.to_be_bytes-4.ensures
    c.to_be_bytes-5.ensures c.to_be_bytes-6.ensures c.to_be_bytes-7.ensures c.to_be_bytes-8.ensures
