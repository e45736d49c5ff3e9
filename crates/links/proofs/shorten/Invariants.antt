-- `links::shorten` meets its contract. The invariant: what is left of the way, over arrays alike. Assumes nothing.
use Prim.Native.Nat.{◌≤◌, ◌<◌}
use Rattle.filesystem.specs.Tables.{PATH_BYTES}
use Rattle.links.specs.Climbs.{Leads, Linked, Alike}
use Rattle.links.proofs.shorten.Given as goal

abbrev pub invariant-loop-a : goal.invariant-loop-a
invariant-loop-a l =
    (l.a < l.n) × (l.left ≤ PATH_BYTES) × Linked l.to l.far l.n × Leads l.to l.far l.a l.left × Alike l.initial.to l.initial.far l.to l.far

abbrev pub decreases-loop-a : goal.decreases-loop-a
decreases-loop-a l = l.left
