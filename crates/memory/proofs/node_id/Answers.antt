-- `memory::node_id` meets its contract. Assumes nothing.
use native.Mathlib.Omega.{arith}
use mathlib.Core.Path.{sym, ◌∙◌}
use Rattle.memory.proofs.Fields.{node-id}
use Rattle.memory.proofs.node_id.Goals as goal

pub returns : goal.returns
returns c = c.u64_at.ensures ∙ sym (node-id c.args.m.now c.args.i (omega arith))
