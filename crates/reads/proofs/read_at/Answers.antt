-- `reads::read_at` meets its contract. Assumes nothing.
use native.Mathlib.Omega.{arith}
use mathlib.Core.Path.{refl, ap}
use Prim.Native.Nat.{◌<◌}
use lib.ListN.{take}
use Rattle.filesystem.specs.Tables.{Node, node_at, open_at}
use Rattle.memory.specs.Layout.{mem_of}
use Rattle.guard_state.specs.State.{state_of}
use Rattle.guard_state.specs.laws.LoadedLaws.{node-loaded, open_loaded}
use Rattle.reads.specs.laws.ReadLaws.{left-loaded, sized_within, none_sends, page_sends}
use Rattle.reads.proofs.read_at.Goals as goal

pub returns-then-left-eq0 : goal.returns-then-left-eq0
returns-then-left-eq0 c =
    let a = c.args in record {
      sends = λ q h.
          none_sends q (state_of q a.m.now) a.opened a.node a.count _ _ a.request.now
          (left-loaded a.m.now q a.n a.opened a.node a.count _ _ _ _ c.requires.0 c.requires.1
          c.min-left.ensures c.saturating_sub.ensures c.size_at-size.ensures c.open_cursor-cursor.ensures)
          c.if-left-eq0.true (c.finish.ensures.0 q);
      keeps_length = omega arith;
    }

pub returns-then-size-gt-FILE_BYTES : goal.returns-then-size-gt-FILE_BYTES
returns-then-size-gt-FILE_BYTES c =
    let a = c.args in record {
      sends = λ q h. absurd (omega (
        arith,
        c.size_at-size.ensures,
        ap (λ (x : Node). x.size)
            (node-loaded a.m.now q a.n a.node c.requires.0),
        h,
        c.if-size-gt-FILE_BYTES.true,
      ));
      keeps_length = refl;
    }

pub fetch-requires : goal.fetch-requires
fetch-requires c =
    let a = c.args in
    let l : 0 < (node_at (take a.n (mem_of a.m.now).nodes) a.node).size = omega
    (arith, c.if-left-eq0.false, c.min-left.ensures, c.saturating_sub.ensures, c.size_at-size.ensures) in (
      omega (arith, sized_within a.m.now a.n a.node c.requires.2 l),
      omega arith,
      omega (arith, c.if-left-eq0.false, c.min-left.ensures, c.saturating_sub.ensures, c.if-size-gt-FILE_BYTES.false),
      omega (arith, c.min-left.ensures),
      omega arith,
      omega arith,
    )

pub returns : goal.returns
returns c =
    let a = c.args in record {
      sends = λ q h.
          page_sends q (state_of q a.m.now) a.opened a.node a.count _ _ (open_at (mem_of a.m.now).opens
          a.opened) _ a.request.now _ _
          (left-loaded a.m.now q a.n a.opened a.node a.count _ _ _ _ c.requires.0 c.requires.1
          c.min-left.ensures c.saturating_sub.ensures c.size_at-size.ensures c.open_cursor-cursor.ensures)
          c.if-left-eq0.false (open_loaded a.m.now q a.opened c.requires.1) c.open_cursor-cursor.ensures
          (c.fetch.ensures.0 q) c.fetch.ensures.2 c.fetch.ensures.3 (omega arith);
      keeps_length = omega arith;
    }
