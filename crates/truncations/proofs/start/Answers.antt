-- `truncations::start` meets its contract. Assumes nothing.
use native.Mathlib.Omega.{arith}
use Rattle.guard_state.specs.laws.Ranges.{in_range}
use Rattle.truncations.specs.laws.CutLaws.{start-cuts, start-fetches}
use Rattle.truncations.proofs.start.Goals as goal

pub returns-then-g-eq0 : goal.returns-then-g-eq0
returns-then-g-eq0 c =
    let a = c.args in (
      λ q h. start-cuts q a.m.now _ c.load-g.ensures _ _ _ _ c.if-g-eq0.true (c.ask_cut.ensures.0 q h),
      omega
          arith,
    )

pub ask_page-requires : goal.ask_page-requires
ask_page-requires c = (
  (omega (arith, c.requires.0.0), c.requires.0.1),
  (omega arith, omega arith),
  omega
      (arith, (in_range _ _ c.load-g.ensures).size),
  omega arith,
  omega (arith, c.requires.2),
)

pub returns : goal.returns
returns c =
    let a = c.args in (
      λ q h. start-fetches q a.m.now _ c.load-g.ensures _ _ _ _ c.if-g-eq0.false (c.ask_page.ensures.0 q h),
      omega
          arith,
    )
