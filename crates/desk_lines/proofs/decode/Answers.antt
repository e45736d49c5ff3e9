-- `desk_lines::decode` meets its contract. Assumes nothing.
use Rattle.std.proofs.Common.{sym, ap, ◌∙◌, length-take-le}
use Rattle.text.specs.Hex.{decode_of}
use Rattle.desk_lines.specs.Lines.{most_bytes}
use Rattle.desk_lines.specs.laws.LineLaws.{decoded_front}
use Rattle.desk_lines.proofs.decode.Goals as goal

pub returns : goal.returns
returns c =
    let d = c.decode in
    let m = length-take-le most_bytes c.args.out.now c.requires in
    let e = d.ensures.answer ∙ ap (decode_of c.args.digits.now) m in record {
      answer = e;
      left = rw d.ensures.left (decoded_front d.result c.args.digits.now c.args.out.now most_bytes c.requires
          (sym e));
    }
