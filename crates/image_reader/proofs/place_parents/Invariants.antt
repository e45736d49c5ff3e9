-- `image_reader::place_parents` meets its contract. The invariant: the parents of the records before k are placed.
-- Assumes nothing.
use Rattle.image_records.specs.Laid.{laid}
use Rattle.links.specs.Parents.{Placed}
use Rattle.image_reader.specs.Judged.{node_on}
use Rattle.image_reader.proofs.place_parents.Given as goal

abbrev pub invariant-loop-k : goal.invariant-loop-k
invariant-loop-k l = Placed (node_on (laid l.layout) l.image l.starts) l.to l.far l.n l.k
