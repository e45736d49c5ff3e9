-- `attributes::begin_stat` meets its contract. Assumes nothing.
use native.Mathlib.Omega.{arith}
use mathlib.Core.Path.{ap, ◌∙◌}
use Rattle.filesystem.specs.Tables.{Tables}
use Rattle.rules.specs.Calls.{stat}
use Rattle.guard_state.specs.declared.Guard.{Guard}
use Rattle.guard_state.specs.Calls.{for_stat}
use Rattle.guard_state.specs.laws.LoadedLaws.{counts_fit, tables-loaded}
use Rattle.path_calls.specs.Judged.{node_for}
use Rattle.path_calls.specs.laws.BegunLaws.{reaches}
use Rattle.attributes.specs.laws.ReachLaws.{stat_walks, stat_itself}
use Rattle.attributes.proofs.begin_stat.Goals as goal

pub judge_reach-judged-requires : goal.judge_reach-judged-requires
judge_reach-judged-requires c =
    let f = counts_fit c.args.m.now _ c.load-g.ensures in
    let e = ap (λ (x : Guard). x.nodes) c.load-g.ensures in
    (omega (arith, e, c.requires.0), f.0, omega arith)

pub begin_on_node-requires : goal.begin_on_node-requires
begin_on_node-requires c =
    let a = c.args in
    let f = counts_fit a.m.now _ c.load-g.ensures in
    let e = ap (λ (x : Guard). x.nodes) c.load-g.ensures in
    let y = c.judge_reach-judged.ensures c.load-g.result.opens in
    let r = reaches a.path.now stat stat_walks a.m.now _ _ (omega (arith, e, c.requires.0)) f.0 _ y in
    (for_stat, r, omega arith, omega arith)

pub returns : goal.returns
returns c =
    let a = c.args in
    let make = stat in (
      λ q d w h.
          c.begin_on_node.ensures.0 q make
          (c.judge_reach-judged.ensures c.load-g.result.opens ∙ ap (λ (t : Tables). node_for t a.path.now make)
          (tables-loaded a.m.now _ c.load-g.ensures q)) stat_itself,
      omega arith,
    )
