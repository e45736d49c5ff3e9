-- `image_writer::image_length` meets its contract. Assumes nothing.
use native.Mathlib.Omega.{arith}
use Rattle.filesystem.specs.Image.{image_length}
use Rattle.image_writer.proofs.image_length.Goals as goal

pub returns : goal.returns
unfolding image_length
returns c = omega (arith, c.records_length.ensures.0, c.first_page-pages.ensures.0)
