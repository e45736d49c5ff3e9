-- `memory::open_rights` meets its contract. Assumes nothing.
use native.Mathlib.Omega.{arith}
use mathlib.Core.Path.{sym}
use Rattle.memory.proofs.Fields.{open-rights}
use Rattle.memory.proofs.open_rights.Goals as goal

pub returns : goal.returns
returns c = sym (open-rights c.args.m.now c.args.i (omega arith))
