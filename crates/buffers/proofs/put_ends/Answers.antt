-- `buffers::put_ends` meets its contract. Assumes nothing.
use Rattle.std.proofs.Common.{arith, ◌∙◌, ◌-◌, length}
use Rattle.buffers.proofs.Blocks.{both_ends}
use Rattle.buffers.proofs.put_ends.Goals as goal

pub returns : goal.returns
returns g c =
    let a = c.args in
    let n = g.row.N in
    c.put_bytes-2.ensures ∙ rw (c.put_bytes.ensures, c.bytes_at-front.ensures, c.bytes_at-back.ensures)
    (both_ends a.m.now a.x.now a.at (length a.x.now - n) n (omega arith) (omega arith) (omega arith))
