-- `memory::open_descriptor` meets its contract. Assumes nothing.
use native.Mathlib.Omega.{arith}
use mathlib.Core.Path.{sym, ◌∙◌}
use Rattle.memory.proofs.Fields.{open-descriptor}
use Rattle.memory.proofs.open_descriptor.Goals as goal

pub returns : goal.returns
returns c = c.u32_at.ensures ∙ sym (open-descriptor c.args.m.now c.args.i (omega arith))
