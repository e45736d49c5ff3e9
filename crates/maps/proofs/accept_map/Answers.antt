-- `maps::accept_map` meets its contract. Assumes nothing.
use native.Mathlib.Omega.{arith}
use mathlib.Core.Path.{◌≡◌, refl, ap, ◌∙◌}
use mathlib.Core.List.{List, [], ◌∷◌, ◌++◌}
use Prim.Native.Nat.{◌+◌}
use lib.ListN.{take}
use Rattle.lists.specs.Parts.{part}
use Rattle.filesystem.specs.MemoryMaps.{Map}
use Rattle.memory.specs.Layout.{Mem, mem_of}
use Rattle.memory.specs.laws.MemLaws.{length_maps}
use Rattle.rules.specs.MapRules.{map_in}
use Rattle.guard_state.specs.declared.Guard.{Guard}
use Rattle.guard_state.specs.State.{numbers_of, state_of}
use Rattle.guard_state.specs.Waits.{remaps}
use Rattle.guard_state.specs.laws.Ranges.{in_range}
use Rattle.guard_state.specs.laws.PendingLaws.{map_pending}
use Rattle.tables.specs.laws.ViewLaws.{front_added}
use Rattle.maps.specs.Judged.{new_map, map_reason}
use Rattle.maps.specs.laws.AnsweredLaws.{maps_count, count_fits, maps_loaded, map-known, map-stops, map_joins}
use Rattle.maps.specs.laws.AnsweredLaws.{over_maps}
use Rattle.maps.proofs.accept_map.Goals as goal

pub judge_map-requires : goal.judge_map-requires
judge_map-requires c =
    let a = c.args in
    let f = in_range _ _ c.load-g.ensures in
    (omega (arith, c.map_count-n.ensures, count_fits (mem_of a.m.now).head), f.size, omega arith)

pub returns-in-Err : goal.returns-in-Err
returns-in-Err c =
    let a = c.args in (
      λ d sha w h q.
          let s = state_of d a.m.now in
          let e = ap (λ (g : Guard). map_reason s.skeleton.maps g.size a.reply.now) c.load-g.ensures in
          map-stops d w s a.reply.now _ (map_pending d a.m.now c.requires.0) _ a.m.now q
          (c.in-Err.ensures.value
          ∙ ap (λ (ms : List Map). map_reason ms c.load-g.result.size a.reply.now) (maps_loaded d a.m.now _
          c.map_count-n.ensures) ∙ e)
          refl,
      refl,
    )

pub returns-then-n-ge-MAPS : goal.returns-then-n-ge-MAPS
returns-then-n-ge-MAPS c =
    let a = c.args in (
      λ d sha w h q.
          let f = (map-known d a.m.now h _ (map_pending d a.m.now c.requires.0)).0 in
          absurd (omega (arith, f, c.map_count-n.ensures, maps_count d a.m.now)),
      refl,
    )

pub overflow_cast-g : goal.overflow_cast-g
overflow_cast-g c =
    let f = (in_range _ _ c.load-g.ensures).size in
    omega (arith, f)

pub returns : goal.returns
unfolding part
returns c =
    let a = c.args in
    let n = c.map_count-n.ensures in (
      λ d sha w h q.
          let s = state_of d a.m.now in
          let g = c.load-g.ensures in
          let z = mem_of a.m.now in
          let r = a.reply.now in
          let ms = maps_loaded d a.m.now _ n in
          let e = ap (λ (g : Guard). map_reason s.skeleton.maps g.size r) g in
          let row : new_map c.u64_at-number.result c.load-g.result.size ≡ map_in (numbers_of z.head).size r =
          λ i. new_map (c.u64_at-number.ensures i) (g i).size in
          map_joins d w s r _ (map_pending d a.m.now c.requires.0) _ _ q
          (c.in_default.ensures.value
          ∙ ap (λ (x : List Map). map_reason x c.load-g.result.size r) ms ∙ e)
          c.u64_at-number.ensures
          (c.rest_maps.ensures.0 d
          ∙ over_maps d a.m.now _ _ _ c.put_map.ensures.0
          ∙ ap (λ (x : Mem). remaps d s (take (c.map_count-n.result + 1) x.maps)) c.put_map.ensures.0
          ∙ ap (remaps d s) (front_added z.maps c.map_count-n.result (omega (arith, length_maps a.m.now)) _
          (omega (arith, length_maps a.m.now))
          ∙ ap (λ (x : Map). take c.map_count-n.result z.maps ++ (x ∷ [])) row
          ∙ ap (λ (l : List Map). l ++ (map_in (numbers_of z.head).size r ∷ [])) ms)),
      omega arith,
    )
