-- `guard::is_pending` meets its contract. Assumes nothing.
use mathlib.Core.Path.{refl}
use Rattle.guard.specs.laws.NumberLaws.{waits_idle, waits_some}
use Rattle.guard.proofs.is_pending.Goals as goal

pub returns-then-number-ne-IDLE : goal.returns-then-number-ne-IDLE
returns-then-number-ne-IDLE c = waits_some _ c.if-number-ne-IDLE.true

pub returns-else-number-ne-IDLE : goal.returns-else-number-ne-IDLE
returns-else-number-ne-IDLE c = rw c.if-number-ne-IDLE.false (waits_idle 0 refl)
