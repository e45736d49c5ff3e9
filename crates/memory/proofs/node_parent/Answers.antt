-- `memory::node_parent` meets its contract. Assumes nothing.
use native.Mathlib.Omega.{arith}
use mathlib.Core.Path.{sym, ◌∙◌}
use Rattle.memory.proofs.Fields.{node-parent}
use Rattle.memory.proofs.node_parent.Goals as goal

pub returns : goal.returns
returns c = c.u64_at.ensures ∙ sym (node-parent c.args.m.now c.args.i (omega arith))
