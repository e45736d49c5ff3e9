-- `maps::begin_map` meets its contract. Assumes nothing.
use native.Mathlib.Omega.{arith}
use mathlib.Core.Path.{refl}
use Rattle.rules.proofs.MapLaws.{size_fits}
use Rattle.guard_state.specs.State.{state_of}
use Rattle.maps.specs.laws.AnsweredLaws.{maps_count, map_refused, map_sends}
use Rattle.maps.proofs.begin_map.Goals as goal

pub returns-then-map_count-ge-MAPS : goal.returns-then-map_count-ge-MAPS
returns-then-map_count-ge-MAPS c =
    let a = c.args in
    let n = c.map_count.ensures in (
      λ q sha w h.
          map_refused q (state_of q a.m.now) a.size a.m.now a.request.now
          (omega (arith, n, maps_count q a.m.now)) refl,
      refl,
    )

pub wait_map-requires : goal.wait_map-requires
wait_map-requires c =
    let p = c.requires in
    ((size_fits _ p.0).1, omega arith)

pub returns : goal.returns
returns c =
    let a = c.args in
    let n = c.map_count.ensures in (
      λ q sha w h.
          map_sends q (state_of q a.m.now) a.size _ _ a.request.now _ c.write_map.ensures.1
          (omega (arith, n, maps_count q a.m.now)) (c.wait_map.ensures.0 q) c.write_map.ensures.0
          (omega arith),
      omega arith,
    )
