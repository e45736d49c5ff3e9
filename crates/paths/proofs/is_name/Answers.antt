-- `paths::is_name` meets its contract. Assumes nothing.
use native.Mathlib.Omega.{arith}
use Rattle.paths.specs.laws.PathFormLaws.{name-empty, name-first, name-dot, name_second, name_dots}
use Rattle.paths.proofs.is_name.Goals as goal

pub returns-then-n-eq0 : goal.returns-then-n-eq0
returns-then-n-eq0 c = name-empty c.args.part.now c.if-n-eq0.true

pub returns-then-part-ne46 : goal.returns-then-part-ne46
returns-then-part-ne46 c = name-first c.args.part.now (omega arith) c.if-part-ne46.true

pub returns-then-n-eq1 : goal.returns-then-n-eq1
returns-then-n-eq1 c = name-dot c.args.part.now c.if-n-eq1.true c.if-part-ne46.false

pub returns-then-part-ne46-2 : goal.returns-then-part-ne46-2
returns-then-part-ne46-2 c = name_second c.args.part.now (omega arith)
    c.if-part-ne46-2.true

pub returns : goal.returns
returns c = name_dots c.args.part.now (omega arith)
    c.if-part-ne46.false c.if-part-ne46-2.false
