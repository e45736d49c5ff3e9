-- `guard_state::wait_further` meets its contract. Assumes nothing.
use native.Mathlib.Omega.{arith}
use mathlib.Core.Path.{◌≡◌, ◌∙◌}
use lib.ListN.{set}
use Rattle.memory.specs.Layout.{mem_of, with_head}
use Rattle.guard_state.specs.laws.OnwardLaws.{goes_on_lem}
use Rattle.guard_state.proofs.wait_further.Goals as goal

pub returns : goal.returns
returns c =
    let a = c.args in
    let z = mem_of a.m.now in
    let e : mem_of _ ≡ with_head (set (set (set z.head 2 1) 3 a.call) 13 a.page) z = c.put_head-3.ensures.0
    ∙ rw (c.put_head-2.ensures.0, c.put_head.ensures.0) in (
      λ q. goes_on_lem q a.m.now _ a.call a.page c.requires.0 c.requires.1 c.requires.2 c.requires.3 c.requires.4 e,
      omega arith,
    )
