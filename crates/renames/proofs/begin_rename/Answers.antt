-- `renames::begin_rename` meets its contract. Assumes nothing.
use native.Mathlib.Omega.{arith}
use mathlib.Core.Path.{refl, ap, ◌∙◌}
use Prim.Native.Nat.{ℕ}
use lib.ListN.{drop}
use Rattle.std.specs.Prelude.{Ok}
use Rattle.refusals.specs.Numbers.{numbered}
use Rattle.memory.specs.Layout.{mem_of}
use Rattle.rules.specs.Requests.{asked, renaming, store_length}
use Rattle.guard_state.specs.State.{numbers_of, state_of, gathered_none}
use Rattle.guard_state.specs.Waits.{waits}
use Rattle.guard_state.specs.laws.LoadedLaws.{counts_fit}
use Rattle.renames.specs.laws.BegunLaws.{rename_refused, rename_same, rename_sends, request_length_lem, no-guard}
use Rattle.renames.specs.laws.BegunLaws.{judged-here, id_here}
use Rattle.renames.proofs.begin_rename.Goals as goal

pub returns-then-n-eq0 : goal.returns-then-n-eq0
returns-then-n-eq0 c =
    let a = c.args in
    (λ q sha w h. absurd (no-guard q a.m.now _ c.node_count-n.ensures h c.if-n-eq0.true), refl)

pub judge_rename-requires : goal.judge_rename-requires
judge_rename-requires c =
    let a = c.args in
    let k = c.node_count-n.ensures in (
      omega (arith, c.if-n-eq0.false),
      omega (
        arith,
        k,
        (counts_fit a.m.now
            (numbers_of (mem_of a.m.now).head) refl).0,
      ),
      omega arith,
    )

pub send_rename-requires : goal.send_rename-requires
send_rename-requires c =
    let a = c.args in
    let k = c.node_count-n.ensures in
    let n = (counts_fit a.m.now (numbers_of (mem_of a.m.now).head) refl).0 in
    let f = c.judge_rename.ensures.fits_both.0 _ _ _ (ap numbered c.in-Ok-Some.is ∙ ap Ok c.in-Ok-Some.field-0-is) in
    let l = c.judge_rename.ensures.fits_both.1 _ _ _ (ap numbered c.in-Ok-Some.is ∙ ap Ok c.in-Ok-Some.field-0-is) in (
      omega (arith, f.0, k, n),
      omega (arith, f.1, k, n),
      f.2,
      f.3,
      l.0,
      l.1,
      omega arith,
      omega (arith, c.requires.1),
    )

pub returns-in-Ok-Some : goal.returns-in-Ok-Some
unfolding store_length
returns-in-Ok-Some c =
    let k = c.node_count-n.ensures in
    let a = c.args in
    let f = c.judge_rename.ensures.fits_both.0 _ _ _ (ap numbered c.in-Ok-Some.is ∙ ap Ok c.in-Ok-Some.field-0-is) in
    let l = c.judge_rename.ensures.fits_both.1 _ _ _ (ap numbered c.in-Ok-Some.is ∙ ap Ok c.in-Ok-Some.field-0-is) in (
      λ q sha w h.
          rename_sends a.first.now a.second.now q (state_of q a.m.now) _
          (judged-here q a.m.now _ k h _ a.first.now a.second.now c.judge_rename.ensures.by_index) _ _ _ _
          a.request.now _ _ (ap numbered c.in-Ok-Some.is ∙ ap Ok c.in-Ok-Some.field-0-is)
          (c.send_rename.ensures.0 q
          ∙ ap (λ (i : ℕ). waits q (state_of q a.m.now)
          (asked (renaming c.in-Ok-Some.it.node i (drop c.in-Ok-Some.it.start a.second.now))) gathered_none)
          (id_here q a.m.now _ k h c.in-Ok-Some.it.parent f.1))
          c.send_rename.ensures.2 c.send_rename.ensures.3
          (omega (arith, request_length_lem a.first.now a.second.now, l.0, l.1, c.requires.1)),
      omega arith,
    )

pub returns-in-Ok-None : goal.returns-in-Ok-None
returns-in-Ok-None c =
    let a = c.args in (
      λ q sha w h. rename_same a.first.now a.second.now q (state_of q a.m.now) _
          (judged-here q a.m.now _ c.node_count-n.ensures h _ a.first.now a.second.now
          c.judge_rename.ensures.by_index) _ a.request.now _ (ap numbered c.in-Ok-None.is
          ∙ ap Ok c.in-Ok-None.field-0-is)
          (c.finish_same.ensures.0.0 q) c.finish_same.ensures.1,
      omega arith,
    )

pub returns-in-Err : goal.returns-in-Err
returns-in-Err c =
    let a = c.args in (
      λ q sha w h. rename_refused a.first.now a.second.now q (state_of q a.m.now) _
          (judged-here q a.m.now _ c.node_count-n.ensures h _ a.first.now a.second.now
          c.judge_rename.ensures.by_index) _ a.m.now a.request.now (ap numbered c.in-Err.is) refl,
      refl,
    )
