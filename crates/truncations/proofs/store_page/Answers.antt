-- `truncations::store_page` meets its contract. Assumes nothing.
use native.Mathlib.Omega.{arith}
use Rattle.guard_state.specs.laws.Ranges.{in_range}
use Rattle.truncations.specs.laws.CutLaws.{page_sends}
use Rattle.truncations.proofs.store_page.Goals as goal

pub node_size-size-requires : goal.node_size-size-requires
node_size-size-requires c = ((in_range _ _ c.load-g.ensures).node, omega arith)

pub open_descriptor-d-requires : goal.open_descriptor-d-requires
open_descriptor-d-requires c = (
  (in_range _ _ c.load-g.ensures).opened,
  omega
      arith,
)

pub write_store_cut-l-requires : goal.write_store_cut-l-requires
write_store_cut-l-requires c =
    let r = in_range _ _ c.load-g.ensures in
    (c.requires.4, c.requires.2, r.size, r.page)

pub send_store-requires : goal.send_store-requires
send_store-requires c = (
  (omega (arith, c.requires.0.0), c.requires.0.1),
  (omega arith, omega arith),
  c.requires.1,
  (in_range _ _
      c.load-g.ensures).page,
  omega arith,
  omega (arith, c.requires.4),
)

pub returns : goal.returns
returns c =
    let a = c.args in (
      λ q e h. page_sends q a.m.now _ c.load-g.ensures _ _ a.fetched.now _ _ a.request.now _ c.requires.0 h
          c.open_descriptor-d.ensures c.node_size-size.ensures
          c.write_store_cut-l.ensures.0 c.requires.4 c.send_store.ensures.value (c.send_store.ensures.m_after q e),
      omega arith,
    )
