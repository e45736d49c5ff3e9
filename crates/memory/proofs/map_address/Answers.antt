-- `memory::map_address` meets its contract. Assumes nothing.
use native.Mathlib.Omega.{arith}
use mathlib.Core.Path.{sym, ◌∙◌}
use Rattle.memory.proofs.Fields.{map-address}
use Rattle.memory.proofs.map_address.Goals as goal

pub returns : goal.returns
returns c = c.u64_at.ensures ∙ sym (map-address c.args.m.now c.args.i (omega arith))
