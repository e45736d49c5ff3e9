-- `tables::first_page` meets its contract: no node has no pages. Assumes nothing.
use native.Mathlib.Omega.{arith}
use mathlib.Core.Path.{refl}
use Rattle.filesystem.specs.Tables.{page_total}
use Rattle.tables.proofs.first_page.Goals as goal

pub pages_on-requires : goal.pages_on-requires
unfolding page_total
pages_on-requires c = (omega arith, omega arith, refl, omega arith, omega arith)
