-- `buffers::move_down` meets its contract. Assumes nothing.
use Rattle.std.proofs.Common.{arith, refl, sym, ◌∙◌, ◌≡◌, ◌+◌, ◌*◌}
use Rattle.std.proofs.lemmas.Nat.{column_fits}
use native.Mathlib.Nat.{mul-zero}
use Rattle.lists.specs.PartLaws.{move_none}
use Rattle.buffers.proofs.Blocks.{block_down}
use Rattle.buffers.proofs.move_down.Goals as goal

pub loop-i-init : goal.loop-i-init
loop-i-init g c = (refl, rw mul-zero (sym (move_none 0 c.args.m.now c.args.to c.args.from)))

pub loop-i-preserved : goal.loop-i-preserved
loop-i-preserved g c =
    let l = c.loop-i in
    let a = c.args in
    let n = g.row.N in
    let e : n * (l.i + 1) ≡ n * l.i + n = omega arith in
    let f = column_fits n l.i n a.n (omega arith) (omega arith) in (
      omega arith,
      c.put_bytes.ensures ∙ rw (c.bytes_at-block.ensures, e, l.invariant.1)
          (block_down a.m.now a.to a.from (n * l.i) n (omega arith) (omega arith)),
    )
