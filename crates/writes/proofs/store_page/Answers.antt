-- `writes::store_page` meets its contract. Assumes nothing.
use native.Mathlib.Omega.{arith}
use mathlib.Core.Path.{ap, ap₂, ◌∙◌}
use Prim.Native.Nat.{ℕ, ◌+◌, ◌*◌, min, max}
use lib.ListN.{take}
use Rattle.lists.specs.Parts.{part}
use Rattle.filesystem.specs.Tables.{PAGE_BYTES, node_at, open_at}
use Rattle.memory.specs.Layout.{mem_of}
use Rattle.guard_state.specs.declared.Guard.{Guard}
use Rattle.guard_state.specs.laws.Ranges.{in_range}
use Rattle.writes.specs.laws.StoreLaws.{page_goes_out}
use Rattle.writes.proofs.store_page.Goals as goal

pub overflow_add-end : goal.overflow_add-end
overflow_add-end c = let r = in_range _ _ c.load-g.ensures in omega (arith, r.position, r.bytes)

pub node_size-requires : goal.node_size-requires
node_size-requires c = ((in_range _ _ c.load-g.ensures).node, omega arith)

pub open_descriptor-d-requires : goal.open_descriptor-d-requires
open_descriptor-d-requires c =
    ((in_range _ _ c.load-g.ensures).opened, omega arith)

pub staged-bytes-requires : goal.staged-bytes-requires
staged-bytes-requires c = let r = in_range _ _
    c.load-g.ensures in
    (omega (arith, r.bytes), omega arith)

pub write_store-l-requires : goal.write_store-l-requires
write_store-l-requires c =
    let r = in_range _ _ c.load-g.ensures in
    (omega arith, omega arith, r.position, omega arith)

pub returns : goal.returns
unfolding part
returns c =
    let a = c.args in
    let e = c.load-g.ensures in
    let at = ap (λ (g : Guard). g.position) e in
    let size = ap (λ (g : Guard). g.bytes) e in (
      λ q u h.
          page_goes_out q a.m.now (omega arith) a.page h a.fetched.now _ a.request.now _ _ _ _ _ _
          c.requires.0 at
          (c.staged-bytes.ensures.0 ∙ ap (λ (i : ℕ). take i (mem_of a.m.now).staged) size)
          (c.open_descriptor-d.ensures ∙ ap (λ (g : Guard). (open_at (mem_of a.m.now).opens g.opened).descriptor)
          e)
          (c.max-size.ensures
          ∙ ap₂ max (c.node_size.ensures ∙ ap (λ (g : Guard). (node_at (mem_of a.m.now).nodes g.node).size) e)
          (c.min-reached.ensures ∙ ap₂ (λ (i j : ℕ). min (i + j) (a.page * PAGE_BYTES + PAGE_BYTES)) at size))
          c.write_store-l.ensures.0 (omega (arith, c.requires.5)) c.send_store.ensures.value
          (c.send_store.ensures.m_after q u),
      omega arith,
    )
