-- `image_reader::are_apart` meets its contract. The invariant: the first i records stand apart, and are found.
-- Assumes nothing.
use Rattle.image_records.specs.Laid.{laid}
use Rattle.links.specs.Buckets.{Indexed}
use Rattle.image_reader.specs.Judged.{node_on, id_key, name_key, Apart}
use Rattle.image_reader.proofs.are_apart.Given as goal

abbrev pub invariant-loop-i : goal.invariant-loop-i
invariant-loop-i l =
    Apart l.layout.id_bytes (node_on (laid l.layout) l.image l.starts) l.i
    × Indexed l.ids (id_key l.layout.id_bytes l.image l.starts) l.i
    × Indexed l.names (name_key (laid l.layout) l.image l.starts) l.i
