-- `buffers::put_bytes` meets its contract. Assumes nothing.
use native.Mathlib.Omega.{arith}
use Prim.Native.Nat.{◌+◌}
use mathlib.Core.Path.{refl, sym, ap, ◌∙◌}
use lib.ListN.{length-set}
use lib.Seq.{take_all}
use Rattle.lists.specs.Parts.{overwrite}
use Rattle.lists.specs.PartLaws.{overwrite_none, overwrite_more}
use Rattle.buffers.proofs.put_bytes.Goals as goal

pub loop-i-init : goal.loop-i-init
loop-i-init c = (refl, sym (overwrite_none 0 _ _))

pub loop-i-preserved : goal.loop-i-preserved
loop-i-preserved c =
    let l = c.loop-i in
    let a = c.args in (
      simp length-set l.invariant.0,
      rw l.invariant.1
          (overwrite_more 0 a.m.now a.at a.x.now l.i (a.at + l.i) refl (omega arith) (omega arith)),
    )

pub returns : goal.returns
returns c =
    let l = c.loop-i in
    let a = c.args in
    l.invariant.1 ∙ ap (overwrite a.m.now a.at) (take_all l.i a.x.now (omega arith))
