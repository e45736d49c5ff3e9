-- `memory::node_mode` meets its contract. Assumes nothing.
use native.Mathlib.Omega.{arith}
use mathlib.Core.Path.{sym}
use Rattle.memory.proofs.Fields.{node-mode}
use Rattle.memory.proofs.node_mode.Goals as goal

pub returns : goal.returns
returns c = sym (node-mode c.args.m.now c.args.i (omega arith))
