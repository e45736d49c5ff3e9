-- `buffers::bytes_at` meets its contract. Assumes nothing.
use Rattle.std.proofs.Common.{arith, ◌≡◌, ◌+◌, ◌-◌}
use Rattle.lists.specs.Parts.{part}
use Rattle.buffers.proofs.bytes_at.Goals as goal

pub returns : goal.returns
unfolding part
returns g c =
    let e : c.args.at + g.row.N - c.args.at ≡ g.row.N = omega arith in
    rw e at (rw c.unwrap.ensures at c.try_into.ensures.1).same
