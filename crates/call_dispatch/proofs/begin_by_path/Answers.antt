-- `call_dispatch::begin_by_path` meets its contract. Assumes nothing.
use native.Mathlib.Omega.{arith}
use mathlib.Core.Path.{◌≡◌, refl}
use Rattle.guard_state.specs.State.{state_of}
use Rattle.guard_state.specs.laws.LoadedLaws.{nodes-count}
use Rattle.call_reader.specs.laws.KindLaws.{last_kind}
use Rattle.call_dispatch.specs.laws.CalledLaws.{some_node, open_made, remove_made, rmdir_made, chmod_made}
use Rattle.call_dispatch.specs.laws.CalledLaws.{readdir_made, stat_made}
use Rattle.call_dispatch.proofs.begin_by_path.Goals as goal

-- no consistent state is without a node
pub returns-then-node_count-eq0 : goal.returns-then-node_count-eq0
returns-then-node_count-eq0 c =
    let a = c.args in (
      λ q sha w h. absurd (omega (
        arith,
        nodes-count q a.m.now,
        c.node_count.ensures,
        some_node q
            (state_of q a.m.now) h,
        c.if-node_count-eq0.true,
      )),
      refl,
    )

pub returns-in-3 : goal.returns-in-3
returns-in-3 c =
    let a = c.args in (
      λ q sha w h. open_made q (state_of q a.m.now) a.path.now _ _ a.request.now _ a.number
          c.in-3.is (c.begin_open.ensures.0 q sha w h),
      omega arith,
    )

pub returns-in-9 : goal.returns-in-9
returns-in-9 c =
    let a = c.args in (
      λ q sha w h. remove_made q (state_of q a.m.now) a.path.now _ _ a.request.now _ a.number
          c.in-9.is (c.begin_remove.ensures.0 q sha w h),
      omega arith,
    )

pub returns-in-10 : goal.returns-in-10
returns-in-10 c =
    let a = c.args in (
      λ q sha w h. rmdir_made q (state_of q a.m.now) a.path.now _ _ a.request.now _ a.number
          c.in-10.is (c.begin_rmdir.ensures.0 q sha w h),
      omega arith,
    )

pub returns-in-11 : goal.returns-in-11
returns-in-11 c =
    let a = c.args in (
      λ q sha w h. chmod_made q (state_of q a.m.now) a.path.now _ _ a.request.now _ a.number
          c.in-11.is (c.begin_chmod.ensures.0 q sha w h),
      omega arith,
    )

pub returns-in-12 : goal.returns-in-12
returns-in-12 c =
    let a = c.args in (
      λ q sha w h. readdir_made q (state_of q a.m.now) a.path.now _ _ a.request.now _ a.number
          c.in-12.is (c.begin_readdir.ensures.0 q sha w h),
      omega arith,
    )

pub returns-in_default : goal.returns-in_default
returns-in_default c =
    let a = c.args in
    let e : a.kind ≡ 13 = last_kind a.kind a.number c.requires.0 (λ h. omega (arith, h)) (λ h. omega (arith, h))
    (λ h. omega (arith, h)) (λ h. omega (arith, h)) (λ h. omega (arith, h)) (λ h. omega (arith, h))
    (λ h. omega (arith, h)) in (
      λ q sha w h. stat_made q (state_of q a.m.now) a.path.now _ _ a.request.now _ a.number e
          (c.begin_stat.ensures.0 q sha w h),
      omega arith,
    )
