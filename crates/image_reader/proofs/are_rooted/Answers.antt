-- `image_reader::are_rooted` meets its contract. Assumes nothing.
use Rattle.image_reader.specs.laws.RootedLaws.{reach_rooted}
use Rattle.image_reader.proofs.are_rooted.Goals as goal

pub returns : goal.returns
returns c =
    reach_rooted c.requires.1 (c.place_parents.ensures.0
    c.if-not-place_parents.false)
    c.all_climb.result c.all_climb.ensures
