-- `text::hex::encode` meets its contract. The buffer has the digits of the first i bytes.
-- Assumes nothing.
use Rattle.std.proofs.Common.{◌≡◌, ◌+◌, ◌*◌, get_or, refl, sym, ap, ◌∙◌, arith, length-set, take_all}
use Rattle.lists.specs.Parts.{overwrite}
use Rattle.lists.specs.PartLaws.{overwrite_none, overwrite_more}
use Rattle.text.specs.Hex.{hex_of}
use Rattle.text.specs.laws.HexCases.{length-hex_of, hex_first, hex_second}
use Rattle.text.proofs.hex.encode.Goals as goal

pub loop-i-init : goal.loop-i-init
loop-i-init c = (refl, sym (overwrite_none 0 _ 0))

pub loop-i-preserved : goal.loop-i-preserved
loop-i-preserved c =
    let l = c.loop-i in
    let b = c.args.bytes.now in
    let n = length-hex_of b in
    let two : 2 * (l.i + 1) ≡ 2 * l.i + 1 + 1 = omega arith in
    let high : c.digit.result ≡ get_or (hex_of b) (2 * l.i) 0 = c.digit.ensures ∙ sym (hex_first b l.i (omega arith)) in
    let low : c.digit-in-loop-i.result ≡ get_or (hex_of b) (2 * l.i + 1) 0 = c.digit-in-loop-i.ensures
    ∙ sym (hex_second b l.i (omega arith)) in (
      simp length-set l.invariant.0,
      rw (
        l.invariant.1,
        high,
        low,
        two,
        overwrite_more 0 c.args.out.now 0 (hex_of b) (2 * l.i) (2 * l.i) (omega arith) (omega arith) (omega arith),
      )
          (overwrite_more 0 c.args.out.now 0 (hex_of b) (2 * l.i + 1) (2 * l.i + 1) (omega arith) (omega arith)
          (omega arith)),
    )

pub returns : goal.returns
returns c =
    let l = c.loop-i in
    let b = c.args.bytes.now in
    l.invariant.1 ∙ ap (overwrite c.args.out.now 0) (take_all (2 * l.i) (hex_of b) (omega (arith, length-hex_of b)))
