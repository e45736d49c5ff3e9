-- `memory::put_map` meets its contract. Assumes nothing.
use native.Mathlib.Omega.{arith}
use mathlib.Core.Path.{ap, ◌∙◌}
use lib.ListN.{set}
use Rattle.filesystem.specs.MemoryMaps.{Map}
use Rattle.memory.specs.Layout.{mem_of, with_maps}
use Rattle.memory.specs.laws.MemLaws.{mem-map}
use borrow.Author.Rules.{rules}
use Rattle.memory.proofs.put_map.Goals as goal

pub returns : goal.returns
returns c =
    let a = c.args in
    let r = c.map_row-row in
    let m = a.m.now in (
      ap mem_of c.put.ensures ∙ mem-map m r.result (omega arith) a.i (search rules) (omega arith)
          ∙ ap (λ (x : Map). with_maps (set (mem_of m).maps a.i x) (mem_of m)) r.ensures,
      omega arith,
    )
