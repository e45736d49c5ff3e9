-- `truncations::truncate_at` meets its contract. Assumes nothing.
use native.Mathlib.Omega.{arith}
use mathlib.Core.Path.{refl}
use Rattle.guard_state.specs.Calls.{for_shrink}
use Rattle.truncations.specs.laws.TruncateLaws.{node-low, truncate_done, growth_begins, begun_within}
use Rattle.truncations.specs.laws.TruncateLaws.{shrink_begins, shrink_call}
use Rattle.truncations.proofs.truncate_at.Goals as goal

pub returns-then-node-ge-NODES : goal.returns-then-node-ge-NODES
returns-then-node-ge-NODES c =
    let a = c.args in (
      λ d sha h k p. absurd (omega (arith, node-low d a.m.now h k a.size a.opened a.node p, c.if-node-ge-NODES.true)),
      refl,
    )

pub returns-then-size-old : goal.returns-then-size-old
returns-then-size-old c =
    let a = c.args in (
      λ d sha h k p. truncate_done d a.m.now h k a.size a.opened a.node p _ c.node_size-old.ensures
          c.if-size-old.true _ a.request.now (c.finish.ensures.0 d),
      omega arith,
    )

pub returns-then-old-size : goal.returns-then-old-size
returns-then-old-size c =
    let a = c.args in
    let (w, l, u, r) = c.ask_growth.ensures in (
      λ d sha h k p. growth_begins d a.m.now h k a.size a.opened a.node p _ c.node_size-old.ensures
          c.if-size-old.false (omega arith) _ _ a.request.now _ (w d) u r c.requires.3,
      omega arith,
    )

pub wait_truncate-requires : goal.wait_truncate-requires
wait_truncate-requires c =
    (for_shrink, omega arith, c.requires.0, c.requires.1, omega arith)

pub start-requires : goal.start-requires
start-requires c =
    (shrink_call c.args.m.now _ _ _ _ c.wait_truncate.ensures.m_value, omega arith, omega (arith, c.requires.3))

pub returns : goal.returns
returns c =
    let a = c.args in
    let n = c.wait_truncate.ensures.m_value in (
      λ d sha h k p.
          shrink_begins d a.m.now h k a.size a.opened a.node p _ c.node_size-old.ensures c.if-size-old.false _
          n (omega arith) _ (c.wait_truncate.ensures.m_after d) _ _ a.request.now _
          (c.start.ensures.0 d (begun_within d a.m.now h k a.size a.opened a.node p _
          c.node_size-old.ensures c.if-size-old.false _ n)),
      omega arith,
    )
