-- `page_changes::judge_fetched` meets its contract. Assumes nothing.
use native.Mathlib.Omega.{arith}
use Rattle.guard_state.specs.laws.Ranges.{in_range}
use Rattle.page_changes.proofs.judge_fetched.Goals as goal

pub judge_page-requires : goal.judge_page-requires
judge_page-requires c = ((in_range _ _ c.load-g.ensures).nodes, omega arith)
