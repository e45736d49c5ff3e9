-- `guard_state::wait_truncate` meets its contract. Assumes nothing.
use native.Mathlib.Omega.{arith}
use mathlib.Core.Path.{◌≡◌, refl, ap, ◌∙◌}
use lib.ListN.{set}
use Rattle.memory.specs.Layout.{Mem, mem_of, with_head}
use Rattle.guard_state.specs.declared.Guard.{Guard}
use Rattle.guard_state.specs.State.{numbers_of, cleared_head, pending_in, gathered_in}
use Rattle.guard_state.specs.laws.OnwardLaws.{truncate_numbers_lem, truncate_pending, truncate_gathered}
use Rattle.guard_state.specs.laws.WaitLaws.{waits_as}
use Rattle.guard_state.proofs.wait_truncate.Goals as goal

pub returns : goal.returns
unfolding cleared_head
returns c =
    let a = c.args in
    let z = mem_of a.m.now in
    let y = set (set (set (set (cleared_head z.head) 3 a.call) 4 a.node) 5 a.opened) 12 a.size in
    let e : mem_of _ ≡ with_head y z =
    c.put_head-4.ensures.0
    ∙ rw (c.put_head-3.ensures.0, c.put_head-2.ensures.0, c.put_head.ensures.0, c.clear.ensures.0) in
    let n = truncate_numbers_lem z.head a.node a.opened c.requires.1 c.requires.2 a.call a.size c.requires.3 in
    let g = numbers_of z.head in record {
      m_after = λ q. waits_as q a.m.now _ y e refl refl refl _ _ refl
          (ap (λ (h : Guard). pending_in h z.staged) n
          ∙ truncate_pending g z.staged a.node a.opened a.size c.requires.0)
          (ap (λ (h : Guard). gathered_in h z.staged) n
          ∙ truncate_gathered g z.staged a.node a.opened a.size c.requires.0);
      m_value = ap (λ (t : Mem). numbers_of t.head) e ∙ n;
      keeps_length = omega arith;
    }
