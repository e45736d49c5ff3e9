-- `writes::on_page` meets its contract. Assumes nothing.
use native.Mathlib.Omega.{arith}
use mathlib.Core.Path.{ap, sym, ◌∙◌}
use Prim.Native.Nat.{◌+◌}
use lib.ListN.{take}
use Rattle.memory.specs.Layout.{mem_of}
use Rattle.guard_state.specs.declared.Guard.{Guard}
use Rattle.guard_state.specs.State.{numbers_of}
use Rattle.guard_state.specs.laws.Ranges.{in_range, bytes-length}
use Rattle.page_changes.specs.laws.SendingLaws.{open_within}
use Rattle.writes.specs.Writing.{write_in}
use Rattle.writes.specs.laws.PageLaws.{page_fetched, page_stored}
use Rattle.writes.proofs.on_page.Goals as goal

pub overflow_add-end : goal.overflow_add-end
overflow_add-end c = let r = in_range _ _ c.load-g.ensures in omega (arith, r.position, r.bytes)

pub node_size-size-requires : goal.node_size-size-requires
node_size-size-requires c = ((in_range _ _ c.load-g.ensures).node, omega arith)

pub returns-then-is_fetched : goal.returns-then-is_fetched
returns-then-is_fetched c =
    let a = c.args in
    let e = c.load-g.ensures in (
      λ d u h.
          page_fetched d a.m.now (omega arith) a.page h _ e _ _ c.node_size-size.ensures
          (c.is_fetched.ensures (take (numbers_of (mem_of a.m.now).head).bytes (mem_of a.m.now).staged)
          (ap (λ j. c.load-g.result.position + j) (ap (λ (x : Guard). x.bytes) e
          ∙ sym (bytes-length a.m.now (omega arith))))) _ _ _ _
          c.if-is_fetched.true (c.ask_page.ensures.0 d (open_within d a.m.now (write_in a.m.now) a.page h)),
      omega arith,
    )

pub returns : goal.returns
returns c =
    let a = c.args in
    let e = c.load-g.ensures in (
      λ d u h.
          page_stored d a.m.now (omega arith) a.page h _ e _ _ c.node_size-size.ensures
          (c.is_fetched.ensures (take (numbers_of (mem_of a.m.now).head).bytes (mem_of a.m.now).staged)
          (ap (λ j. c.load-g.result.position + j) (ap (λ (x : Guard). x.bytes) e
          ∙ sym (bytes-length a.m.now (omega arith))))) _ _ _ _
          c.if-is_fetched.false (c.store_page.ensures.0 d u h),
      omega arith,
    )
