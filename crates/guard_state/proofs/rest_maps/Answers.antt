-- `guard_state::rest_maps` meets its contract. Assumes nothing.
use native.Mathlib.Omega.{arith}
use mathlib.Core.Path.{◌≡◌, ◌∙◌}
use lib.ListN.{set}
use Rattle.memory.specs.Layout.{mem_of, with_head}
use Rattle.guard_state.specs.laws.WaitLaws.{remaps_as}
use Rattle.guard_state.proofs.rest_maps.Goals as goal

pub returns : goal.returns
returns c =
    let a = c.args in
    let z = mem_of a.m.now in
    let e : mem_of _ ≡ with_head (set (set (set z.head 2 1) 3 0) 16 a.maps) z =
    c.put_head-3.ensures.0 ∙ rw (c.put_head-2.ensures.0, c.put_head.ensures.0) in
    (λ q. remaps_as q a.m.now _ a.maps c.requires.0 e, omega arith)
