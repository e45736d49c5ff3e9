-- `links::all_climb` meets its contract. The invariant: the places before k reach place 0. Assumes nothing.
use Rattle.links.specs.Climbs.{Linked, Alike, Reached}
use Rattle.links.proofs.all_climb.Given as goal

abbrev pub invariant-loop-k : goal.invariant-loop-k
invariant-loop-k l = Linked l.to l.far l.n × Alike l.initial.to l.initial.far l.to l.far
    × Reached l.initial.to l.initial.far l.k
