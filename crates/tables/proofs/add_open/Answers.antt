-- `tables::add_open` meets its contract. Assumes nothing.
use native.Mathlib.Omega.{arith}
use mathlib.Core.Path.{◌≡◌, ap, ◌∙◌}
use Prim.Native.Nat.{◌+◌}
use lib.ListN.{length}
use Rattle.memory.specs.Layout.{mem_of}
use Rattle.memory.specs.Records.{open_of}
use Rattle.memory.specs.laws.MemLaws.{length-opens}
use Rattle.tables.specs.View.{view_of}
use Rattle.tables.specs.laws.ViewLaws.{view_open}
use Rattle.tables.proofs.add_open.Goals as goal

pub returns : goal.returns
returns c =
    let a = c.args in
    let m = mem_of a.m.now in
    let f : length m.opens ≡ 40 = length-opens a.m.now in record {
      by_index = λ n. ap (view_of n (a.o + 1)) c.put_open.ensures.0 ∙ view_open m n a.o (open_of a.row)
          (omega arith);
      keeps_length = omega arith;
    }
