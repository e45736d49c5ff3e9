-- `writes::write_at` meets its contract. Assumes nothing.
use native.Mathlib.Omega.{arith}
use mathlib.Core.Path.{refl}
use Rattle.writes.specs.laws.WriteLaws.{node-low, write_done, cursor_most, begun-sending, write-begins}
use Rattle.writes.specs.laws.WriteLaws.{write-call}
use Rattle.writes.proofs.write_at.Goals as goal

pub returns-then-bytes-eq0 : goal.returns-then-bytes-eq0
returns-then-bytes-eq0 c =
    let a = c.args in (
      λ d u h k p. write_done d a.m.now h k a.bytes.now a.opened a.node p c.if-bytes-eq0.true _
          a.request.now (c.finish.ensures.0 d),
      omega arith,
    )

pub returns-then-node-ge-NODES : goal.returns-then-node-ge-NODES
returns-then-node-ge-NODES c =
    let a = c.args in (
      λ d u h k p. absurd (omega (
        arith,
        node-low d a.m.now h k a.bytes.now a.opened a.node p,
        c.if-node-ge-NODES.true,
      )),
      refl,
    )

pub returns-then-cursor-gt-FILE_BYTES : goal.returns-then-cursor-gt-FILE_BYTES
returns-then-cursor-gt-FILE_BYTES c =
    let a = c.args in (
      λ d u h k p. absurd (omega (
        arith,
        cursor_most d a.m.now h k a.bytes.now a.opened a.node p
            c.if-bytes-eq0.false _ c.open_cursor-cursor.ensures,
        c.if-cursor-gt-FILE_BYTES.true,
      )),
      refl,
    )

pub carry_on-requires : goal.carry_on-requires
carry_on-requires c = (
  write-call c.args.m.now _ _ _ _ _ c.wait_write.ensures.m_value,
  omega (arith, c.if-cursor-gt-FILE_BYTES.false),
  omega arith,
  omega (arith, c.requires.3),
)

pub returns : goal.returns
returns c =
    let a = c.args in
    let n = c.wait_write.ensures.m_value in (
      λ d u h k p.
          write-begins d a.m.now h k a.bytes.now a.opened a.node p c.if-bytes-eq0.false _
          c.open_cursor-cursor.ensures _ n (c.wait_write.ensures.m_after d) _ _ a.request.now _
          (c.carry_on.ensures.0 d u
          (begun-sending d a.m.now h k a.bytes.now a.opened a.node p c.if-bytes-eq0.false _
          c.open_cursor-cursor.ensures _ n (c.wait_write.ensures.m_after d))),
      omega arith,
    )
