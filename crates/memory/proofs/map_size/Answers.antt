-- `memory::map_size` meets its contract. Assumes nothing.
use native.Mathlib.Omega.{arith}
use mathlib.Core.Path.{sym, ◌∙◌}
use Rattle.memory.proofs.Fields.{map-size}
use Rattle.memory.proofs.map_size.Goals as goal

pub returns : goal.returns
returns c = c.u32_at.ensures ∙ sym (map-size c.args.m.now c.args.i (omega arith))
