-- `links::all_climb` meets its contract. The invariant: the places before k reach place 0. Assumes nothing.
use Rattle.links.specs.laws.ClimbLaws.{same_alike, alike-after, reached_first, reached_next}
use Rattle.links.proofs.all_climb.Goals as goal

pub loop-k-init : goal.loop-k-init
loop-k-init c =
    let a = c.args in
    (c.requires, same_alike a.to.now a.far.now, reached_first a.to.now a.far.now)

pub loop-k-preserved : goal.loop-k-preserved
loop-k-preserved c =
    let shorten = c.shorten in
    let climb = c.in-Some.ensures in
    let l = c.loop-k in (
      shorten.ensures.0,
      alike-after l.invariant.1 shorten.ensures.1,
      reached_next l.invariant.2 climb.0 (l.invariant.1.1 _ _ climb.1),
    )
