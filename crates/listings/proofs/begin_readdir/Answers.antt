-- `listings::begin_readdir` meets its contract. Assumes nothing.
use native.Mathlib.Omega.{arith}
use mathlib.Core.Path.{ap, ◌∙◌}
use Rattle.filesystem.specs.Tables.{Tables}
use Rattle.rules.specs.Calls.{readdir}
use Rattle.guard_state.specs.declared.Guard.{Guard}
use Rattle.guard_state.specs.Calls.{for_readdir}
use Rattle.guard_state.specs.laws.LoadedLaws.{counts_fit, tables-loaded}
use Rattle.path_calls.specs.Judged.{node_for}
use Rattle.path_calls.specs.laws.BegunLaws.{reaches}
use Rattle.listings.specs.laws.ReaddirLaws.{readdir_walks, readdir_itself}
use Rattle.listings.proofs.begin_readdir.Goals as goal

pub judge_readdir-judged-requires : goal.judge_readdir-judged-requires
judge_readdir-judged-requires c =
    let f = counts_fit c.args.m.now _ c.load-g.ensures in
    let e = ap (λ (x : Guard). x.nodes) c.load-g.ensures in
    (omega (arith, e, c.requires.0), f.0, omega arith)

pub begin_on_node-requires : goal.begin_on_node-requires
begin_on_node-requires c =
    let a = c.args in
    let f = counts_fit a.m.now _ c.load-g.ensures in
    let e = ap (λ (x : Guard). x.nodes) c.load-g.ensures in
    let y = c.judge_readdir-judged.ensures c.load-g.result.opens in
    let r = reaches a.path.now readdir readdir_walks a.m.now _ _ (omega (arith, e, c.requires.0)) f.0 _ y in
    (for_readdir, r, omega arith, omega arith)

pub returns : goal.returns
returns c =
    let a = c.args in
    let make = readdir in (
      λ q d w h.
          c.begin_on_node.ensures.0 q make
          (c.judge_readdir-judged.ensures c.load-g.result.opens ∙ ap (λ (t : Tables). node_for t a.path.now make)
          (tables-loaded a.m.now _ c.load-g.ensures q)) readdir_itself,
      omega arith,
    )
