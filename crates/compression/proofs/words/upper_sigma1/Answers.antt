-- `compression::words::upper_sigma1` meets its contract: the nested form is the standard's.
-- Assumes nothing.
use Rattle.std.proofs.Common.{arith, ◌∙◌}
use Rattle.compression.proofs.Rotations.{nested}
use Rattle.compression.proofs.words.upper_sigma1.Goals as goal

pub returns : goal.returns
returns c =
    c.rotate_right-3.ensures ∙ rw (c.rotate_right-2.ensures, c.rotate_right.ensures)
    (nested 32 6 5 14 c.args.x (omega arith) (omega arith))
