-- A pending growth, and what its tables hold when it is done: the new size, the old digests and then the zero page's.
-- Assumes nothing.
use Rattle.std.specs.Prelude.{◌≡◌, refl, set, take, replicate}
use Rattle.std.proofs.Math.Path.{ap, subst}
use Rattle.std.proofs.Common.{sym, ◌∙◌, arith}
use mathlib.Core.List.{List, [], ◌∷◌}
use Prim.Native.Nat.{ℕ, zero, suc}
use Rattle.std.proofs.Math.ListN.{get_or}
use Rattle.lists.specs.Cells.{tab}
use Rattle.digest.specs.Sha256.{sha256}
use Rattle.filesystem.specs.Tables.{ID_BYTES, PAGE_BYTES, Tables, pages_for, set_size}
use Rattle.filesystem.specs.Digests.{replaced}
use Rattle.filesystem.specs.Sound.{to_sound}
use Rattle.memory.specs.Layout.{mem_of}
use Rattle.tables.specs.View.{view_of, with_change, Growable}
use Rattle.zero_page.specs.ZeroPage.{zero_page}
use Rattle.rules.specs.Pages.{page_of, growing, first, size_after}
use Rattle.rules.specs.Skeleton.{Config, done as is_done}
use Rattle.rules.specs.Rules.{cut_done}
use Rattle.rules.specs.Valid.{PendingFits, ChangeFits}
use Rattle.machine.specs.Machine.{Result, Gathered, ending, apply, zero_digest, guard as digest_store}
use Rattle.machine.specs.Consistent.{Consistent}
use Rattle.machine.proofs.GrowthLaws.{growth_leaves}
use Rattle.guard_state.specs.Calls.{GROWING}
use Rattle.guard_state.specs.declared.Guard.{Guard}
use Rattle.guard_state.specs.State.{numbers_of, state_in, state_of, gathered_none}
use Rattle.guard_state.specs.laws.OnwardLaws.{gathered_growth}
use Rattle.guard_state.specs.laws.PendingLaws.{grow_pending}
use Rattle.guard_state.specs.Waits.{ends, resting_state}
use Rattle.outcomes.specs.declared.Outcome.TheVariants.{Done}
use Rattle.outcomes.specs.Sent.{Sends}
use Rattle.outcomes.specs.Answered.{answered}
use Rattle.outcomes.specs.laws.SentLaws.{done_sends}
use Rattle.replies.specs.Judged.{status_reason}
use Rattle.page_changes.specs.laws.FetchedLaws.{cut_goes}

-- a page of no bytes is the page of zeros
zeros : (n : ℕ) → tab {A = ℕ} n (λ _. 0) ≡ replicate n 0
unfolding tab
zeros zero = refl
zeros (suc n) = ap (λ (l : List ℕ). 0 ∷ l) (zeros n)

module _ (c : Config) (m : List ℕ) where
  abbrev g : Guard
  g = numbers_of (mem_of m).head

  abbrev t : Tables
  t = (state_of c m).skeleton.tables

  zero_digest_lem : c.digest ≡ sha256 → sha256 zero_page ≡ zero_digest c
  unfolding zero_digest page_of zero_page
  zero_digest_lem same = ap (λ (f : List ℕ → List ℕ). f zero_page) (sym same) ∙ ap c.digest (sym (zeros PAGE_BYTES))

  -- the memory m₁ has the change that the numbers l tell
  abbrev Grown : Guard → List ℕ → Type 0
  Grown l m₁ = view_of l.nodes l.opens (mem_of m₁)
      ≡ with_change (sha256 zero_page) l.node l.size 0 [] (view_of l.nodes l.opens (mem_of m))

  module _ (h : Consistent c (state_of c m)) (e : g.call ≡ GROWING) where
    fits : ChangeFits t.nodes t.opens g.node g.opened (growing g.size)
    fits = subst (PendingFits t.nodes t.opens) (grow_pending c m e) h.holds.valid.pending

    nothing_gathered : (state_of c m).progress ≡ gathered_none
    unfolding state_of state_in view_of
    nothing_gathered = gathered_growth g (mem_of m).staged e

    growable : Growable t.nodes g.node g.size
    unfolding size_after
    growable = record {
      known = fits.opened.known;
      room_before = (to_sound c.width t.nodes h.holds.valid.tables.nodes_valid.sound).pages;
      room_after = fits.room;
      grows = let z = fits.fits in (unfold pages_for in omega arith);
    }

    done : c.digest ≡ sha256 → c.width ≡ ID_BYTES → (r : List ℕ) → 0 ≡ status_reason r 0
        → (m₁ m₂ b : List ℕ) → Grown g m₁ → state_of c m₂ ≡ resting_state c (view_of g.nodes g.opens (mem_of m₁))
        → Sends c (answered c (state_of c m) r) (Done 0 0) m₂ b b
    unfolding apply resting_state with_change view_of state_of state_in ends first
    done same wide r status m₁ m₂ b view rests =
        let s = state_of c m in
        let k = g.node in
        let n = g.size in
        let x = get_or s.contents k [] in
        let T : Tables = record { nodes = set_size t.nodes k n; opens = t.opens } in
        subst (λ (y : Result (digest_store c)). Sends c y (Done 0 0) m₂ b b)
        (sym (cut_goes c wide s r k g.opened (growing n) (grow_pending c m e) status))
        (done_sends c s (cut_done k g.opened (growing n)) T (set s.contents k (replaced (zero_digest c) x n 0 [])) 0
        m₂ b
        (growth_leaves c (digest_store c) s k g.opened n
        ∙ ap (λ (a : Gathered). ending c (digest_store c) s (is_done 0 []) T
        (set s.contents k (replaced (zero_digest c) x n 0 a.digests))) nothing_gathered)
        (rests ∙ ap (resting_state c) view
        ∙ ap (λ (d : List ℕ). resting_state c (with_change d k n 0 [] (view_of g.nodes g.opens (mem_of m))))
        (zero_digest_lem same)))

    -- by the numbers that were loaded
    module _ (l : Guard) (loaded : l ≡ numbers_of (mem_of m).head) where
      pub can_grow : Growable (take l.nodes (mem_of m).nodes) l.node l.size
      unfolding state_of state_in view_of
      can_grow = subst (λ (j : Guard). Growable (take j.nodes (mem_of m).nodes) j.node j.size) (sym loaded)
          growable

      pub growth_done : c.digest ≡ sha256 → c.width ≡ ID_BYTES → (r : List ℕ) → 0 ≡ status_reason r 0
          → (m₁ m₂ b : List ℕ) → Grown l m₁ → state_of c m₂ ≡ resting_state c (view_of l.nodes l.opens (mem_of m₁))
          → Sends c (answered c (state_of c m) r) (Done 0 0) m₂ b b
      growth_done same wide r status m₁ m₂ b =
          subst (λ (j : Guard). Grown j m₁ → state_of c m₂ ≡ resting_state c (view_of j.nodes j.opens (mem_of m₁))
          → Sends c (answered c (state_of c m) r) (Done 0 0) m₂ b b) (sym loaded) (done same wide r status m₁ m₂ b)
