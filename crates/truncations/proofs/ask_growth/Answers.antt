-- `truncations::ask_growth` meets its contract. Assumes nothing.
use native.Mathlib.Omega.{arith}
use mathlib.Core.Path.{ap, ◌∙◌}
use Prim.Native.Nat.{ℕ}
use lib.ListN.{length}
use Rattle.rules.specs.Requests.{cut_request}
use Rattle.rules.specs.Skeleton.{at_front}
use Rattle.lists.specs.Pick.{pick}
use Rattle.guard_state.specs.Calls.{for_growth, truncation_on}
use Rattle.outcomes.specs.declared.Outcome.TheVariants.{Ask}
use Rattle.truncations.proofs.ask_growth.Goals as goal

pub wait_truncate-requires : goal.wait_truncate-requires
wait_truncate-requires c =
    (for_growth, c.requires.1, c.requires.0, c.requires.2, omega arith)

pub returns : goal.returns
unfolding truncation_on pick
returns c =
    let a = c.args in
    let e = c.open_descriptor-d.ensures in (
      c.wait_truncate.ensures.m_after,
      omega arith,
      c.write_cut-l.ensures.0 ∙ ap (λ (n : ℕ). at_front (cut_request n a.size) a.request.now) e,
      ap Ask (c.write_cut-l.ensures.1 ∙ ap (λ (n : ℕ). length (cut_request n a.size)) e),
    )
