-- `text::hex::fill` meets its contract. The buffer has the first i bytes.
-- Assumes nothing.
use Rattle.std.proofs.Common.{◌≡◌, get_or, refl, sym, ap, ◌∙◌, arith, length-set, take_all}
use Rattle.lists.specs.Parts.{overwrite}
use Rattle.lists.specs.PartLaws.{overwrite_none, overwrite_more}
use Rattle.text.specs.Hex.{bytes_of}
use Rattle.text.specs.laws.HexCases.{length-bytes_of, bytes_of-at}
use Rattle.text.proofs.hex.fill.Goals as goal

pub loop-i-init : goal.loop-i-init
loop-i-init c = (refl, sym (overwrite_none 0 _ 0))

pub loop-i-preserved : goal.loop-i-preserved
loop-i-preserved c =
    let l = c.loop-i in
    let a = c.args in
    let s = bytes_of a.text.now in
    let n = length-bytes_of a.text.now in
    let v : c.pair.result ≡ get_or s l.i 0 = c.pair.ensures ∙ sym (bytes_of-at a.text.now l.i (omega arith)) in (
      simp length-set l.invariant.0,
      rw (l.invariant.1, v) (overwrite_more 0 a.out.now 0 s l.i l.i (omega arith) (omega arith) (omega arith)),
    )

pub returns : goal.returns
returns c =
    let l = c.loop-i in
    let a = c.args in
    l.invariant.1 ∙ ap (overwrite a.out.now 0) (take_all l.i (bytes_of a.text.now)
    (omega (arith, length-bytes_of a.text.now)))
