-- `image_reader::name_bucket` meets its contract. The invariant says what remains to be done. Assumes nothing.
use native.Mathlib.Omega.{arith}
use mathlib.Core.Path.{◌∙◌, sym}
use Rattle.image_reader.specs.laws.PlaceLaws.{spread-next, spread_end}
use Rattle.image_reader.proofs.name_bucket.Goals as goal

pub loop-x-preserved : goal.loop-x-preserved
loop-x-preserved c =
    let l = c.loop-x in
    (omega arith, sym (spread-next c.args.name.now l.x-index l.b (omega arith)) ∙ l.invariant.1)

pub returns : goal.returns
returns c =
    let l = c.loop-x in
    (sym (spread_end c.args.name.now l.x-index l.b (omega arith)) ∙ l.invariant.1, omega arith)
