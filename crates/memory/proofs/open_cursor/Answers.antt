-- `memory::open_cursor` meets its contract. Assumes nothing.
use native.Mathlib.Omega.{arith}
use mathlib.Core.Path.{sym, ◌∙◌}
use Rattle.memory.proofs.Fields.{open-cursor}
use Rattle.memory.proofs.open_cursor.Goals as goal

pub returns : goal.returns
returns c = c.u32_at.ensures ∙ sym (open-cursor c.args.m.now c.args.i (omega arith))
