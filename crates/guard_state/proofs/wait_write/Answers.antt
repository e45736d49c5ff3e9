-- `guard_state::wait_write` meets its contract. Assumes nothing.
use native.Mathlib.Omega.{arith}
use mathlib.Core.Path.{◌≡◌, refl, ap, ◌∙◌}
use mathlib.Core.List.{List}
use lib.ListN.{length, set, take}
use Prim.Native.Nat.{ℕ}
use Rattle.lists.specs.Parts.{overwrite}
use Rattle.lists.specs.PartLaws.{take_overwrite}
use Rattle.lists.specs.Rows.{rows}
use Rattle.memory.specs.Layout.{Mem, mem_of, with_head, with_staged}
use Rattle.rules.specs.Requests.{fetching}
use Rattle.rules.specs.Pages.{writing}
use Rattle.tables.specs.View.{staged_digests}
use Rattle.guard_state.specs.declared.Guard.{Guard}
use Rattle.guard_state.specs.State.{numbers_of, cleared_head, pendings, pending_in, gathered_in, gathered_none}
use Rattle.guard_state.specs.State.{staged_bytes}
use Rattle.guard_state.specs.Onward.{write_numbers}
use Rattle.guard_state.specs.laws.OnwardLaws.{write_numbers_lem}
use Rattle.guard_state.specs.laws.WaitLaws.{staged_waits}
use Rattle.guard_state.proofs.wait_write.Goals as goal

pub returns : goal.returns
unfolding cleared_head write_numbers pendings pending_in gathered_in staged_bytes staged_digests rows
returns c =
    let a = c.args in
    let z = mem_of a.m.now in
    let l = overwrite z.staged 0 a.bytes.now in
    let y = set (set (set (set (set (cleared_head z.head) 3 9) 4 a.node) 5 a.opened) 10 a.position) 14
    (length a.bytes.now) in
    let e : mem_of _ ≡ with_head y (with_staged l z) =
    c.put_head-5.ensures.0 ∙ rw (
      c.put_head-4.ensures.0,
      c.put_head-3.ensures.0,
      c.put_head-2.ensures.0,
      c.put_head.ensures.0,
      c.clear.ensures.0,
      c.stage.ensures.0,
    ) in
    let t : take (length a.bytes.now) l ≡ a.bytes.now = take_overwrite z.staged 0 a.bytes.now
    (length a.bytes.now) (omega arith) (omega arith) in
    let n = write_numbers_lem z.head a.node a.opened c.requires.0 c.requires.1 a.position (length a.bytes.now)
    c.requires.2 c.requires.3 in record {
      m_after = λ q. staged_waits q a.m.now _ y l e refl refl refl
          (fetching a.node a.opened (writing a.position a.bytes.now) 0) gathered_none refl
          (ap (λ (g : Guard). pending_in g l) n
          ∙ ap (λ (x : List ℕ). fetching a.node a.opened (writing a.position x) 0) t)
          (ap (λ (g : Guard). gathered_in g l) n);
      m_value = ap (λ (x : Mem). numbers_of x.head) e ∙ n;
      keeps_length = omega arith;
    }
