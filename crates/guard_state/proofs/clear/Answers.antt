-- `guard_state::clear` meets its contract. Assumes nothing.
use native.Mathlib.Omega.{arith}
use mathlib.Core.Path.{ap, ◌∙◌}
use mathlib.Core.List.{List}
use Prim.Native.Nat.{ℕ}
use Rattle.memory.specs.Layout.{mem_of, with_head}
use Rattle.memory.specs.laws.MemLaws.{length_head}
use Rattle.guard_state.specs.laws.WaitLaws.{head_cleared}
use Rattle.guard_state.proofs.clear.Goals as goal

pub returns : goal.returns
returns c =
    let a = c.args in
    let z = mem_of a.m.now in (
      c.clear_span.ensures.0
          ∙ rw c.clear_call.ensures.0 (ap (λ (h : List ℕ). with_head h z)
          (head_cleared z.head (length_head a.m.now))),
      omega arith,
    )
