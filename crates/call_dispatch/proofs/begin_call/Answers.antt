-- `call_dispatch::begin_call` meets its contract. Assumes nothing.
use native.Mathlib.Omega.{arith}
use mathlib.Core.Path.{refl, ap}
use Rattle.guard_state.specs.State.{state_of}
use Rattle.rules.specs.Rules.{map_checks}
use Rattle.call_reader.specs.declared.ParsedCall.{ParsedCall}
use Rattle.call_reader.specs.Meaning.{meant, meant_of}
use Rattle.call_dispatch.specs.laws.CalledLaws.{call_as, path_as, none_as, write_as, map_as, unmap_as}
use Rattle.call_dispatch.specs.laws.CalledLaws.{rename_as}
use Rattle.call_dispatch.proofs.begin_call.Goals as goal

pub returns-in-ByPath : goal.returns-in-ByPath
unfolding meant_of
returns-in-ByPath c =
    let a = c.args in (
      λ q d w h. path_as q w (state_of q a.m.now) a.call.now c.in-Some.parsed c.in-Some.ensures.0 _
          _ _ c.in-ByPath.is _ _ a.request.now _ (c.begin_by_path.ensures.0 q d w h),
      omega arith,
    )

pub returns-in-Close : goal.returns-in-Close
unfolding meant meant_of map_checks
returns-in-Close c =
    let a = c.args in (
      λ q d w h. call_as q w (state_of q a.m.now) a.call.now c.in-Some.parsed c.in-Some.ensures.0 _
          refl (ap (λ (z : ParsedCall). meant z a.call.now) c.in-Close.is) _ _ a.request.now _
          (c.begin_close.ensures.0 q d w h),
      omega arith,
    )

pub returns-in-Seek : goal.returns-in-Seek
unfolding meant meant_of map_checks
returns-in-Seek c =
    let a = c.args in (
      λ q d w h. call_as q w (state_of q a.m.now) a.call.now c.in-Some.parsed c.in-Some.ensures.0 _
          refl (ap (λ (z : ParsedCall). meant z a.call.now) c.in-Seek.is) _ _ a.request.now _
          (c.finish_seek.ensures.0 q d w h a.request.now),
      omega arith,
    )

pub returns-in-Read : goal.returns-in-Read
unfolding meant meant_of map_checks
returns-in-Read c =
    let a = c.args in (
      λ q d w h. call_as q w (state_of q a.m.now) a.call.now c.in-Some.parsed c.in-Some.ensures.0 _
          refl (ap (λ (z : ParsedCall). meant z a.call.now) c.in-Read.is) _ _ a.request.now _
          (c.begin_read.ensures.0 q d w h),
      omega arith,
    )

pub returns-in-Write : goal.returns-in-Write
unfolding meant meant_of
returns-in-Write c =
    let a = c.args in (
      λ q d w h. write_as q w (state_of q a.m.now) a.call.now c.in-Some.parsed c.in-Some.ensures.0 _
          _ c.in-Write.is _ _ a.request.now _
          (c.begin_write.ensures.0 q d w h),
      omega arith,
    )

pub returns-in-Truncate : goal.returns-in-Truncate
unfolding meant meant_of map_checks
returns-in-Truncate c =
    let a = c.args in (
      λ q d w h. call_as q w (state_of q a.m.now) a.call.now c.in-Some.parsed c.in-Some.ensures.0 _
          refl (ap (λ (z : ParsedCall). meant z a.call.now) c.in-Truncate.is) _ _ a.request.now _
          (c.begin_truncate.ensures.0 q d w h),
      omega arith,
    )

pub returns-in-Map : goal.returns-in-Map
unfolding meant meant_of
returns-in-Map c =
    let a = c.args in (
      λ q d w h. map_as q w (state_of q a.m.now) a.call.now c.in-Some.parsed c.in-Some.ensures.0 _
          (ap (λ (z : ParsedCall). meant z a.call.now) c.in-Map.is) _ _ a.request.now _
          (c.begin_map.ensures.0 q d w h),
      omega arith,
    )

pub returns-in-Unmap : goal.returns-in-Unmap
unfolding meant meant_of
returns-in-Unmap c =
    let a = c.args in (
      λ q d w h. unmap_as q w (state_of q a.m.now) a.call.now c.in-Some.parsed c.in-Some.ensures.0 _
          (ap (λ (z : ParsedCall). meant z a.call.now) c.in-Unmap.is) _ _ a.request.now _
          (c.begin_unmap.ensures.0 q d w h),
      omega arith,
    )

pub returns-in-Rename : goal.returns-in-Rename
unfolding meant meant_of
returns-in-Rename c =
    let a = c.args in (
      λ q d w h. rename_as q w (state_of q a.m.now) a.call.now c.in-Some.parsed c.in-Some.ensures.0
          _ c.in-Rename.is _ _ a.request.now _ (c.begin_rename.ensures.0 q d w h),
      omega arith,
    )

-- no call
pub returns-in_default : goal.returns-in_default
returns-in_default c =
    let a = c.args in (
      λ q d w h. none_as q w (state_of q a.m.now) a.call.now c.in_default.ensures.0 a.m.now a.request.now refl,
      refl,
    )
