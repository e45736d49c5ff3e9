-- `image_reader::name_bucket` meets its contract. The invariant says what remains to be done. Assumes nothing.
use mathlib.Core.Path.{◌≡◌}
use Prim.Native.Nat.{◌%◌, ◌<◌}
use lib.ListN.{drop}
use Rattle.links.specs.Buckets.{BUCKETS}
use Rattle.image_reader.specs.Judged.{spread}
use Rattle.image_reader.proofs.name_bucket.Given as goal

abbrev pub invariant-loop-x : goal.invariant-loop-x
invariant-loop-x l =
    (l.b < BUCKETS) × (spread l.b (drop l.x-index l.name) ≡ spread (l.parent % BUCKETS) l.name)
