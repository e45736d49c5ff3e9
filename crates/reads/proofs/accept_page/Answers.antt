-- `reads::accept_page` meets its contract. Assumes nothing.
use native.Mathlib.Omega.{arith}
use mathlib.Core.Path.{◌≡◌, refl, ap, sym, ◌∙◌}
use mathlib.Core.Bool.{false≢true}
use Prim.Native.Nat.{◌≤◌}
use lib.ListN.{length}
use Rattle.memory.specs.Layout.{mem_of, memory_size}
use Rattle.guard_state.specs.declared.Guard.{Guard}
use Rattle.guard_state.specs.State.{numbers_of}
use Rattle.guard_state.specs.laws.LoadedLaws.{counts_fit}
use Rattle.reads.specs.laws.TakenLaws.{loaded_within, loaded-reads, loaded_gathered, loaded_fits}
use Rattle.reads.specs.laws.TakenLaws.{loaded-stops, loaded-goes_on}
use Rattle.reads.proofs.accept_page.Goals as goal

pub judge_page-requires : goal.judge_page-requires
judge_page-requires c =
    let a = c.args in
    ((counts_fit a.m.now _ c.load-g.ensures).0, omega arith)

pub returns-in-Err : goal.returns-in-Err
returns-in-Err c =
    let a = c.args in (
      λ d h wide ok long.
          loaded-stops d a.m.now a.reply.now _ c.load-g.ensures c.requires.0 (omega arith) ok _
          c.in-Err.ensures.value h _ refl a.answer.now a.request.now,
      refl,
    )

pub returns-then-g : goal.returns-then-g
returns-then-g c =
    let a = c.args in (
      λ d h wide ok long. absurd (omega (
        arith,
        c.if-g.true,
        (loaded-reads d a.m.now a.reply.now _
            c.load-g.ensures c.requires.0 (omega arith) ok).open_known,
      )),
      refl,
    )

pub in_read-requires : goal.in_read-requires
in_read-requires c =
    let a = c.args in
    let w = loaded_within (mem_of a.m.now).head _ c.load-g.ensures in
    (w.position_most, w.count_most, w.page_most)

pub returns-then-not-in_read : goal.returns-then-not-in_read
returns-then-not-in_read c =
    let a = c.args in (
      λ d h wide ok long.
          let l = loaded-reads d a.m.now a.reply.now _ c.load-g.ensures c.requires.0 (omega arith) ok in
          absurd (false≢true (sym c.if-not-in_read.true ∙ c.in_read.ensures.1 l.inside)),
      refl,
    )

pub take_page-requires : goal.take_page-requires
take_page-requires c =
    let a = c.args in
    let w = loaded_within (mem_of a.m.now).head _ c.load-g.ensures in
    let e : c.load-g.result.opens ≡ (numbers_of (mem_of a.m.now).head).opens = ap (λ (x : Guard). x.opens)
    c.load-g.ensures in (
      omega (arith, e, c.if-g.false),
      c.in_read.ensures.0 c.if-not-in_read.false,
      c.in_default.ensures.reply_len,
      w.bytes_most,
      w.node_most,
      w.open_most,
      w.count_most,
      c.requires.1,
      c.requires.2,
      c.requires.3,
    )

pub returns : goal.returns
returns c =
    let a = c.args in (
      λ d h wide ok long.
          let z : memory_size ≤ length a.m.now = omega arith in
          loaded-goes_on d a.m.now a.reply.now _ c.load-g.ensures c.requires.0 z ok _
          c.in_default.ensures.value h refl
          _ a.answer.now _ a.request.now _ _
          (c.take_page.ensures.leaves d (loaded_fits d a.m.now a.reply.now _ c.load-g.ensures c.requires.0 z ok)
          (loaded_gathered d a.m.now a.reply.now _ c.load-g.ensures c.requires.0 z ok)),
      omega arith,
    )
