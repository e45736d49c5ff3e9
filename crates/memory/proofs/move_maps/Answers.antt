-- `memory::move_maps` meets its contract. Assumes nothing.
use native.Mathlib.Omega.{arith}
use mathlib.Core.Path.{ap, ◌∙◌}
use Rattle.memory.specs.Layout.{mem_of}
use Rattle.memory.specs.laws.MemLaws.{mem_maps_move}
use Rattle.memory.proofs.move_maps.Goals as goal

pub returns : goal.returns
returns c =
    let a = c.args in (
      ap mem_of c.move_rows.ensures ∙ mem_maps_move a.m.now (omega arith) a.from a.to a.n
          (omega arith) (omega arith),
      omega arith,
    )
