-- `memory::node_kind` meets its contract. Assumes nothing.
use native.Mathlib.Omega.{arith}
use mathlib.Core.Path.{sym}
use Rattle.memory.proofs.Fields.{node-kind}
use Rattle.memory.proofs.node_kind.Goals as goal

pub returns : goal.returns
returns c = sym (node-kind c.args.m.now c.args.i (omega arith))
