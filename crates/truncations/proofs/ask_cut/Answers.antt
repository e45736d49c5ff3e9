-- `truncations::ask_cut` meets its contract. Assumes nothing.
use native.Mathlib.Omega.{arith}
use mathlib.Core.Path.{ap}
use Rattle.guard_state.specs.laws.Ranges.{in_range}
use Rattle.outcomes.specs.declared.Outcome.TheVariants.{Ask}
use Rattle.truncations.specs.laws.CutLaws.{cut_sends}
use Rattle.truncations.proofs.ask_cut.Goals as goal

pub open_descriptor-d-requires : goal.open_descriptor-d-requires
open_descriptor-d-requires c = ((in_range _ _ c.load-g.ensures).opened, omega arith)

pub wait_further-requires : goal.wait_further-requires
wait_further-requires c = (
  omega (arith, c.requires.0.0),
  c.requires.0.1,
  omega arith,
  omega arith,
  (in_range _ _ c.load-g.ensures).page,
  omega
      arith,
)

pub overflow_cast-g : goal.overflow_cast-g
overflow_cast-g c = record
    { fits = omega (arith, (in_range _ _ c.load-g.ensures).size) }

pub returns : goal.returns
returns c =
    let a = c.args in (
      λ q h. cut_sends q a.m.now _ c.load-g.ensures _ _ _ _ a.request.now _ h c.open_descriptor-d.ensures
          (c.wait_further.ensures.0 q) c.write_cut-l.ensures.0
          (ap Ask c.write_cut-l.ensures.1) c.requires.2,
      omega arith,
    )
