-- `buffers::same` meets its contract. Assumes nothing.
use mathlib.Core.Path.{sym, ap}
use lib.ListN.{length}
use Rattle.lists.specs.Equal.{equal-no}
use Rattle.buffers.proofs.same.Goals as goal

pub returns-then-a-b : goal.returns-then-a-b
returns-then-a-b c = sym (equal-no _ _ (λ e. c.if-a-b.true (ap length e)))
