-- `desk_lines::Writer::put_hex` meets its contract. Assumes nothing.
use Rattle.std.proofs.Common.{refl, arith}
use Rattle.text.specs.Hex.{hex_of}
use Rattle.text.specs.laws.HexCases.{length-hex_of}
use Rattle.desk_lines.specs.laws.Printing.{overwrite_behind}
use Rattle.desk_lines.proofs.Writer.put_hex.Goals as goal

pub returns : goal.returns
returns c =
    let w = c.args.self.now in
    let b = c.args.bytes.now in
    let n = length-hex_of b in
    record {
      same_buffer = refl;
      puts = record {
        buffer = rw c.encode.ensures (overwrite_behind w.out.now (hex_of b) w.end _ refl);
        end = omega arith;
      };
    }
