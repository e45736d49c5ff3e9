-- `guard_state::wait_sent` meets its contract. Assumes nothing.
use native.Mathlib.Omega.{arith}
use mathlib.Core.Path.{ap, ◌∙◌}
use Prim.Native.Nat.{◌+◌}
use lib.ListN.{set}
use Rattle.memory.specs.Layout.{Mem, with_head}
use Rattle.guard_state.specs.State.{numbers_of}
use Rattle.guard_state.specs.laws.OnwardLaws.{call-sent, goes_on-sent}
use Rattle.guard_state.proofs.wait_sent.Goals as goal

pub stage_digest-requires : goal.stage_digest-requires
unfolding numbers_of
stage_digest-requires c =
    (omega (arith, c.number-k.ensures, c.requires.5), omega arith)

pub wait_further-requires : goal.wait_further-requires
unfolding numbers_of
wait_further-requires c =
    let a = c.args in
    let k = c.number-k.ensures in
    let e = c.put_head.ensures.0 ∙ ap (λ (t : Mem). with_head (set t.head 15 (c.number-k.result + 1)) t)
    c.stage_digest.ensures.0 in
    let q = call-sent a.m.now _ a.digest _ k (omega (arith, k, c.requires.5)) (omega (arith, c.well_formed)) c.requires.6
    e in
    (omega (arith, q, c.requires.0), omega (arith, q, c.requires.1), c.requires.2, c.requires.3, c.requires.4, omega arith)

pub returns : goal.returns
unfolding numbers_of
returns c =
    let a = c.args in
    let k = c.number-k.ensures in
    let e = c.put_head.ensures.0 ∙ ap (λ (t : Mem). with_head (set t.head 15 (c.number-k.result + 1)) t)
    c.stage_digest.ensures.0 in (
      λ q. c.wait_further.ensures.0 q ∙ goes_on-sent a.m.now _ a.digest _ k (omega (arith, k, c.requires.5))
          (omega (arith, c.well_formed)) c.requires.6 e q a.call a.page c.requires.0 c.requires.1,
      omega arith,
    )
