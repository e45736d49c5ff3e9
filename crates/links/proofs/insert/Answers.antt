-- `links::insert` meets its contract. Assumes nothing.
use mathlib.Core.Path.{refl}
use Rattle.links.specs.Buckets.{inserted}
use Rattle.links.proofs.insert.Goals as goal

pub returns : goal.returns
unfolding inserted
returns c = refl
