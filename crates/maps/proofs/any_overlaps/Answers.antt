-- `maps::any_overlaps` meets its contract. The invariant says what remains to be done. Assumes nothing.
use native.Mathlib.Omega.{arith}
use mathlib.Core.Path.{◌≡◌, sym, ◌∙◌}
use lib.ListN.{length}
use Rattle.filesystem.specs.MemoryMaps.{no_map, map_at}
use Rattle.memory.specs.Layout.{mem_of}
use Rattle.memory.specs.laws.MemLaws.{length_maps}
use Rattle.rules.specs.MapRules.{overlaps}
use Rattle.maps.specs.Judged.{new_map}
use Rattle.maps.specs.laws.Table.{any-hit, any_miss, any-end}
use Rattle.maps.proofs.any_overlaps.Goals as goal

pub returns-then-overlaps : goal.returns-then-overlaps
unfolding map_at
returns-then-overlaps c =
    let a = c.args in
    let l = c.loop-i in
    let f : length (mem_of a.m.now).maps ≡ _ = length_maps a.m.now in
    sym (sym l.invariant ∙ any-hit (overlaps (new_map a.address a.size)) no_map (mem_of a.m.now).maps a.n
    l.i (omega arith) (omega arith) (sym c.overlaps.ensures ∙ c.if-overlaps.true))

pub loop-i-preserved : goal.loop-i-preserved
unfolding map_at
loop-i-preserved c =
    let a = c.args in
    let l = c.loop-i in
    let f : length (mem_of a.m.now).maps ≡ _ = length_maps a.m.now in
    any_miss (overlaps (new_map a.address a.size)) no_map (mem_of a.m.now).maps a.n l.i (omega arith)
    (omega arith) (sym c.overlaps.ensures ∙ c.if-overlaps.false) ∙ l.invariant

pub returns : goal.returns
returns c =
    let a = c.args in
    let l = c.loop-i in
    let f : length (mem_of a.m.now).maps ≡ _ = length_maps a.m.now in
    sym (sym l.invariant ∙ any-end (overlaps (new_map a.address a.size)) no_map (mem_of a.m.now).maps a.n
    l.i (omega arith) (omega arith))
