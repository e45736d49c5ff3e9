-- `maps::begin_unmap` meets its contract. Assumes nothing.
use native.Mathlib.Omega.{arith}
use mathlib.Core.Path.{refl, ap, sym, ◌∙◌}
use mathlib.Core.List.{List}
use Rattle.filesystem.specs.MemoryMaps.{Map}
use Rattle.memory.specs.Layout.{mem_of}
use Rattle.rules.specs.MapRules.{find_map}
use Rattle.guard_state.specs.State.{state_of}
use Rattle.maps.specs.laws.AnsweredLaws.{maps_count, count_fits, maps_loaded, unmap_refused, unmap_sends}
use Rattle.std.specs.Prelude.{not, is_some}
use Rattle.tables.specs.laws.FoundLaws.{found_within, found_nowhere}
use Rattle.maps.proofs.begin_unmap.Goals as goal

pub find-requires : goal.find-requires
find-requires c =
    let a = c.args in
    (omega (arith, c.map_count-n.ensures, count_fits (mem_of a.m.now).head), omega arith)

pub returns-then-is_none : goal.returns-then-is_none
returns-then-is_none c =
    let a = c.args in
    let n = c.map_count-n.ensures in (
      λ q sha w held.
          let h = found_nowhere _ _ (ap is_some (sym c.find.ensures.place) ∙ c.is_none.ensures
          ∙ ap not c.if-is_none.true) in
          let e = ap (λ (l : List Map). find_map l a.address) (maps_loaded q a.m.now _ n) in
          unmap_refused q (state_of q a.m.now) a.address a.m.now a.request.now
          (omega (arith, n, e, maps_count q a.m.now)) refl,
      refl,
    )

pub returns : goal.returns
returns c =
    let a = c.args in
    let n = c.map_count-n.ensures in (
      λ q sha w held.
          let h = found_within _ _ (ap is_some (sym c.find.ensures.place) ∙ c.is_none.ensures
          ∙ ap not c.if-is_none.false) in
          let e = ap (λ (l : List Map). find_map l a.address) (maps_loaded q a.m.now _ n) in
          unmap_sends q (state_of q a.m.now) a.address _ _ a.request.now _ c.write_unmap.ensures.1
          (omega (arith, n, e, maps_count q a.m.now)) (c.wait_unmap.ensures.0 q) c.write_unmap.ensures.0
          (omega arith),
      omega arith,
    )
