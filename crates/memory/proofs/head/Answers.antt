-- `memory::head` meets its contract. Assumes nothing.
use native.Mathlib.Omega.{arith}
use mathlib.Core.Path.{sym, ◌∙◌}
use Rattle.memory.specs.laws.MemLaws.{head_at}
use Rattle.memory.proofs.head.Goals as goal

pub returns : goal.returns
returns c = c.u64_at.ensures ∙ sym (head_at _ _ (omega arith))
