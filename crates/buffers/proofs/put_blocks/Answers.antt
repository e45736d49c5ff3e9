-- `buffers::put_blocks` meets its contract. Assumes nothing.
use native.Mathlib.Omega.{arith}
use Prim.Native.Nat.{◌+◌, ◌*◌, ◌/◌}
use mathlib.Core.Path.{◌≡◌, refl, sym, ◌∙◌}
use lib.ListN.{length}
use Rattle.lists.specs.PartLaws.{overwrite_none}
use Rattle.buffers.proofs.Blocks.{block-next, rest-next}
use Rattle.buffers.proofs.put_blocks.Goals as goal

pub loop-i-init : goal.loop-i-init
loop-i-init c = (refl, sym (overwrite_none 0 _ _))

pub loop-i-preserved : goal.loop-i-preserved
loop-i-preserved c =
    let l = c.loop-i in
    let a = c.args in
    let f : 128 * (l.i + 1) ≡ 128 * l.i + 128 = omega arith in (
      omega arith,
      c.put_bytes.ensures ∙ rw (c.bytes_at.ensures, f, l.invariant.1) (block-next a.m.now a.x.now a.at (128 * l.i) 128
          (omega arith) (omega arith)),
    )

pub returns : goal.returns
returns c =
    let a = c.args in
    let e : c.loop-i.i ≡ length a.x.now / 128 = omega arith in
    c.put_bytes-2.ensures
    ∙ rw (c.loop-i.invariant.1, e) (rest-next a.m.now a.x.now a.at (128 * (length a.x.now / 128)) (omega arith)
    (omega arith))
