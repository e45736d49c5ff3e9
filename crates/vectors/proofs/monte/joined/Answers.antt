-- `vectors::monte::joined` meets its contract.
-- Assumes nothing.
use Rattle.std.proofs.Common.{replicate, refl, rules}
use Rattle.vectors.specs.laws.MonteLaws.{filled}
use Rattle.vectors.proofs.monte.joined.Goals as goal

pub returns : goal.returns
returns c =
    let a = c.args in
    rw (c.put-3.ensures, c.put-2.ensures, c.put.ensures)
    (filled (replicate 96 0) a.a a.b a.c refl (search rules) (search rules) (search rules))
