-- `memory::open_handle` meets its contract. Assumes nothing.
use native.Mathlib.Omega.{arith}
use mathlib.Core.Path.{sym, ◌∙◌}
use Rattle.memory.proofs.Fields.{open-handle}
use Rattle.memory.proofs.open_handle.Goals as goal

pub returns : goal.returns
returns c = c.u64_at.ensures ∙ sym (open-handle c.args.m.now c.args.i (omega arith))
