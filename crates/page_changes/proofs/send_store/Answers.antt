-- `page_changes::send_store` meets its contract. Assumes nothing.
use native.Mathlib.Omega.{arith}
use mathlib.Core.Path.{refl, ap, sym, ◌∙◌}
use mathlib.Core.List.{List, [], ◌∷◌, ◌++◌}
use Prim.Native.Nat.{ℕ}
use Rattle.lists.specs.Parts.{part}
use Rattle.filesystem.specs.Tables.{PAGE_BYTES}
use Rattle.rules.specs.Requests.{store_length}
use Rattle.memory.specs.Layout.{mem_of}
use Rattle.guard_state.specs.State.{numbers_of, pending_in, state_of}
use Rattle.guard_state.specs.Onward.{goes_on}
use Rattle.guard_state.specs.Waits.{waits}
use Rattle.page_changes.specs.Asked.{store_front}
use Rattle.page_changes.proofs.send_store.Goals as goal

pub slice_bounds-sha256-end : goal.slice_bounds-sha256-end
unfolding store_length
slice_bounds-sha256-end c = omega (arith, c.requires.5)

pub returns : goal.returns
unfolding store_length part
returns c =
    let a = c.args in
    let p = pending_in (goes_on a.call a.page (numbers_of (mem_of a.m.now).head)) (mem_of a.m.now).staged in record {
      m_after = λ q e.
          c.wait_sent.ensures.0 q
          ∙ ap (λ (d : List ℕ). waits q (state_of q a.m.now) p
          (record { bytes = []; digests = (state_of q a.m.now).progress.digests ++ (d ∷ []) }))
          (c.sha256-d.ensures ∙ ap (λ (f : List ℕ → List ℕ). f (part store_front PAGE_BYTES a.request.now)) (sym e));
      value = refl;
      keeps_length = omega arith;
    }
