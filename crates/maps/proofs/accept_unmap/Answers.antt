-- `maps::accept_unmap` meets its contract. Assumes nothing.
use native.Mathlib.Omega.{arith}
use mathlib.Core.Path.{refl, ap, sym, ◌∙◌}
use mathlib.Core.List.{List}
use Prim.Native.Nat.{ℕ, ◌-◌}
use lib.ListN.{take}
use Rattle.lists.specs.Search.{without}
use Rattle.filesystem.specs.MemoryMaps.{Map}
use Rattle.memory.specs.Layout.{Mem, mem_of}
use Rattle.memory.specs.laws.MemLaws.{length_maps}
use Rattle.rules.specs.MapRules.{find_map}
use Rattle.guard_state.specs.declared.Guard.{Guard}
use Rattle.guard_state.specs.State.{state_of}
use Rattle.guard_state.specs.Waits.{remaps}
use Rattle.guard_state.specs.laws.PendingLaws.{unmap_pending}
use Rattle.tables.specs.laws.ViewLaws.{front_removed}
use Rattle.replies.specs.laws.TakenLaws.{answer-stops}
use Rattle.maps.specs.laws.AnsweredLaws.{maps_count, count_fits, maps_loaded, map-known, unmap_reason, map_leaves}
use Rattle.maps.specs.laws.AnsweredLaws.{over_maps}
use Rattle.tables.specs.laws.FoundLaws.{found_none, found_some}
use Rattle.maps.proofs.accept_unmap.Goals as goal

pub returns-in-Err : goal.returns-in-Err
returns-in-Err c =
    let a = c.args in (
      λ d sha w h q.
          let s = state_of d a.m.now in
          let p = unmap_pending d a.m.now c.requires.0 in
          answer-stops d w s a.reply.now _ p refl _ _ q
          (c.in-Err.ensures ∙ sym (unmap_reason d w s a.reply.now _ p)) refl,
      refl,
    )

pub find-requires : goal.find-requires
find-requires c =
    let a = c.args in
    (omega (arith, c.map_count-n.ensures, count_fits (mem_of a.m.now).head), omega arith)

pub returns-in_default-find : goal.returns-in_default-find
returns-in_default-find c =
    let a = c.args in (
      λ d sha w h q.
          let x = map-known d a.m.now h _ (unmap_pending d a.m.now c.requires.0) in
          let n = c.map_count-n.ensures in
          let b = found_none _ _ (sym c.in_default-find.is ∙ c.find.ensures.place) in
          let e = ap (λ (y : List Map). find_map y c.load-g.result.parent) (maps_loaded d a.m.now _ n)
          ∙ ap (λ (g : Guard). find_map (state_of d a.m.now).skeleton.maps g.parent) c.load-g.ensures in
          absurd (omega (arith, x, n, e, maps_count d a.m.now)),
      refl,
    )

pub move_maps-requires : goal.move_maps-requires
move_maps-requires c =
    let a = c.args in
    let f = count_fits (mem_of a.m.now).head in
    let k = c.in-Some.ensures.within in
    (omega (arith, k, c.map_count-n.ensures, f), omega (arith, k, c.map_count-n.ensures, f), omega arith)

pub rest_maps-requires : goal.rest_maps-requires
rest_maps-requires c =
    let a = c.args in
    let f = count_fits (mem_of a.m.now).head in
    (omega (arith, c.map_count-n.ensures, f), omega arith)

pub returns : goal.returns
returns c =
    let a = c.args in
    let n = c.map_count-n.ensures in (
      λ d sha w h q.
          let s = state_of d a.m.now in
          let z = mem_of a.m.now in
          let p = unmap_pending d a.m.now c.requires.0 in
          let ms = maps_loaded d a.m.now _ n in
          let i = count_fits z.head in
          let e = (found_some _ _ (sym c.in-Some.is ∙ c.find.ensures.place)).0
          ∙ ap (λ (y : List Map). find_map y c.load-g.result.parent) ms
          ∙ ap (λ (g : Guard). find_map s.skeleton.maps g.parent) c.load-g.ensures in
          map_leaves d w s a.reply.now _ p _ q
          (c.in_default.ensures ∙ sym (unmap_reason d w s a.reply.now _ p))
          (c.rest_maps.ensures.0 d
          ∙ over_maps d a.m.now _ _ _ c.move_maps.ensures.0
          ∙ ap (λ (x : Mem). remaps d s (take (c.map_count-n.result - 1) x.maps)) c.move_maps.ensures.0
          ∙ ap (remaps d s) (front_removed z.maps c.map_count-n.result
          (omega (arith, n, i, length_maps a.m.now)) c.in-Some.k c.in-Some.ensures.within
          ∙ ap (without c.in-Some.k) ms ∙ ap (λ (x : ℕ). without x s.skeleton.maps) e)),
      omega arith,
    )
