-- `maps::find` meets its contract. The invariant: the place is i and the place in what remains. Assumes nothing.
use native.Mathlib.Omega.{arith}
use mathlib.Core.Path.{◌≡◌, sym, ap, ◌∙◌}
use lib.ListN.{length}
use borrow.Author.Tests.{eq-eqb, ne_eqb}
use Rattle.filesystem.specs.MemoryMaps.{no_map, map_at}
use Rattle.memory.specs.Layout.{mem_of}
use Rattle.memory.specs.laws.MemLaws.{length_maps}
use Rattle.rules.specs.MapRules.{starts_at, find_map}
use Rattle.tables.specs.Found.{found}
use Rattle.tables.specs.laws.FoundLaws.{found_at, found_behind}
use Rattle.tables.specs.laws.SearchLaws.{place_hit, place_miss, place_end}
use Rattle.maps.proofs.find.Goals as goal

pub returns-then-map_address-address-clause-place : goal.returns-then-map_address-address-clause-place
unfolding find_map map_at
returns-then-map_address-address-clause-place c =
    let a = c.args in
    let l = c.loop-i in
    let f : length (mem_of a.m.now).maps ≡ _ = length_maps a.m.now in
    sym (ap (found a.n) (place_hit no_map (mem_of a.m.now).maps a.n l.i (omega arith) (starts_at a.address) l.invariant
    (omega arith) (eq-eqb _ _ (sym c.map_address.ensures ∙ c.if-map_address-address.true)))
    ∙ found_at a.n l.i (omega arith))

pub loop-i-preserved : goal.loop-i-preserved
unfolding map_at
loop-i-preserved c =
    let a = c.args in
    let l = c.loop-i in
    let f : length (mem_of a.m.now).maps ≡ _ = length_maps a.m.now in
    place_miss no_map (mem_of a.m.now).maps a.n l.i (omega arith) (starts_at a.address) l.invariant
    (omega arith) (ne_eqb _ _ (λ q. c.if-map_address-address.false (c.map_address.ensures ∙ q)))

pub returns-clause-place : goal.returns-clause-place
unfolding find_map
returns-clause-place c =
    let a = c.args in
    let l = c.loop-i in
    let f : length (mem_of a.m.now).maps ≡ _ = length_maps a.m.now in
    sym (ap (found a.n) (place_end no_map (mem_of a.m.now).maps a.n l.i (omega arith) (starts_at a.address) l.invariant
    (omega arith)) ∙ found_behind a.n l.i (omega arith))
