-- The replies that a pending truncation waits for, by the numbers that were loaded: its page goes out, then the file is
-- cut, then it ends.
-- Assumes nothing.
use Rattle.std.specs.Prelude.{◌≡◌, List}
use Rattle.std.proofs.Math.Path.{refl, ap, subst}
use Rattle.std.proofs.Common.{sym, ◌∙◌}
use Prim.Native.Nat.{ℕ, suc, ◌-◌, ◌/◌, min, ◌<◌, ◌≤◌}
use native.Mathlib.Omega.{arith}
use Rattle.filesystem.specs.Tables.{PAGE_BYTES, ID_BYTES, OpenFile, pages_for, open_at}
use Rattle.memory.specs.Layout.{mem_of, new_digests}
use Rattle.rules.specs.Pages.{page_at, shrinking, first, last, size_after, cursor_after, number_of}
use Rattle.rules.specs.Requests.{fetching, storing, cutting}
use Rattle.rules.specs.Skeleton.{Config}
use Rattle.rules.specs.Valid.{PendingFits, PageFits}
use Rattle.machine.specs.Machine.{Result, pages_stored, trimmed, finish_change, guard as digest_store}
use Rattle.machine.specs.Consistent.{Consistent}
use Rattle.guard_state.specs.Calls.{SHRINK_FETCHING, SHRINK_STORING, CUTTING}
use Rattle.guard_state.specs.declared.Guard.{Guard}
use Rattle.guard_state.specs.State.{numbers_of, state_of}
use Rattle.guard_state.specs.laws.LoadedLaws.{open_loaded}
use Rattle.guard_state.specs.laws.PendingLaws.{shrink_fetch_pending, shrink_store_pending, cut_pending}
use Rattle.outcomes.specs.declared.Outcome.{Outcome}
use Rattle.outcomes.specs.Sent.{Sends}
use Rattle.outcomes.specs.Answered.{answered}
use Rattle.replies.specs.Judged.{status_reason}
use Rattle.page_changes.specs.Ended.{Ended}
use Rattle.page_changes.specs.Sending.{Sending}
use Rattle.page_changes.specs.laws.SendingLaws.{open_within, sending-ended, whole-ends, fetching_sending}
use Rattle.page_changes.specs.laws.SendingLaws.{storing_sending}
use Rattle.page_changes.specs.laws.SendingLaws.{cutting_sending}
use Rattle.page_changes.specs.laws.FetchedLaws.{pages_stored_lem, stored_goes, cut_goes}
use Rattle.truncations.specs.Shrinking.{shrink_in}

-- it stores a page at most
few_pages : (n : ℕ) → last (shrinking n) - first (shrinking n) ≤ 1
unfolding last first pages_for page_at
few_pages n = omega arith

module _ (c : Config) (m : List ℕ) where
  abbrev g : Guard
  g = numbers_of (mem_of m).head

  -- by the call's number
  pub fetch_waits : g.call ≡ SHRINK_FETCHING → (state_of c m).skeleton.pending ≡ fetching g.node g.opened
      (shrink_in m) g.page
  unfolding shrink_in
  fetch_waits e = shrink_fetch_pending c m e

  pub store_waits : g.call ≡ SHRINK_STORING → (state_of c m).skeleton.pending ≡ storing g.node g.opened
      (shrink_in m) g.page
  unfolding shrink_in
  store_waits e = shrink_store_pending c m e

  pub cut_waits : g.call ≡ CUTTING → (state_of c m).skeleton.pending ≡ cutting g.node g.opened (shrink_in m)
  unfolding shrink_in
  cut_waits e = cut_pending c m e

  module _ (h : Consistent c (state_of c m)) where
    -- its page came
    module _ (e : g.call ≡ SHRINK_FETCHING) where
      pub page_sending : Sending c m (shrink_in m) g.page
      page_sending = fetching_sending c m (shrink_in m) h (omega arith, omega arith) (fetch_waits e)

      pub page_room : g.digests < new_digests
      unfolding shrink_in
      page_room = let s = page_sending in omega (arith, s.sent, s.to, few_pages g.size)

    -- its page is stored
    module _ (e : g.call ≡ SHRINK_STORING) where
      pub stored_within : g.opened < g.opens
      stored_within = open_within c m (shrink_in m) (suc g.page) (storing_sending c m (shrink_in m) h
          (omega arith, omega arith) (store_waits e))

      pub stored_cuts : c.width ≡ ID_BYTES → (r : List ℕ) (x : Outcome) (m' b b' : List ℕ)
          → 0 ≡ status_reason r PAGE_BYTES
          → Sends c (pages_stored c (digest_store c) (state_of c m) g.node g.opened (shrink_in m)) x m' b b'
          → Sends c (answered c (state_of c m) r) x m' b b'
      unfolding shrink_in
      stored_cuts w r x m' b b' z y =
          let t = (state_of c m).skeleton.tables in
          let f : PageFits t.nodes t.opens g.node g.opened (shrink_in m) g.page = subst
          (PendingFits t.nodes t.opens) (store_waits e) h.holds.valid.pending in
          subst (λ (v : Result (digest_store c)). Sends c v x m' b b')
          (sym
          (stored_goes c w (state_of c m) r g.node g.opened (shrink_in m) g.page (store_waits e) z
          ∙ pages_stored_lem c (state_of c m) g.node g.opened (shrink_in m) (suc g.page)
          (omega (arith, f.from, few_pages g.size))))
          y

    -- the file is cut
    module _ (e : g.call ≡ CUTTING) (l : Guard) (loaded : l ≡ numbers_of (mem_of m).head) where
      pub cut_ended : (x y : ℕ) → x ≡ (open_at (mem_of m).opens l.opened).cursor → y ≡ min x l.size
          → Ended c m (shrink_in m) l.node l.opened l.size y (l.size / PAGE_BYTES) l.digests 0
      unfolding shrink_in size_after cursor_after first last page_at number_of
      cut_ended x y a b =
          let s = cutting_sending c m (shrink_in m) h (omega arith, omega arith) (cut_waits e) in
          let o = open_within c m (shrink_in m) (last (shrink_in m)) s in
          let n : l.size ≡ g.size = ap (λ (j : Guard). j.size) loaded in
          let u : x ≡ (open_at (state_of c m).skeleton.tables.opens g.opened).cursor =
          a ∙ ap (λ (j : Guard). (open_at (mem_of m).opens j.opened).cursor) loaded
          ∙ ap (λ (j : OpenFile). j.cursor) (open_loaded m c g.opened o) in
          subst (λ (j : Guard). Ended c m (shrink_in m) j.node j.opened j.size y (j.size / PAGE_BYTES)
          j.digests 0) (sym loaded)
          (sending-ended c m (shrink_in m) (last (shrink_in m)) s g.size y (g.size / PAGE_BYTES) 0
          (omega arith, omega arith) (omega arith) (omega (arith, few_pages g.size)) (omega arith) refl
          (b ∙ (λ t. min (u t) (n t))) refl refl)

      pub cut_done_lem : c.width ≡ ID_BYTES → (r : List ℕ) (x : Outcome) (m' b b' : List ℕ) → 0 ≡ status_reason r 0
          → Sends c (finish_change c (digest_store c) (trimmed c (digest_store c) (state_of c m) l.digests) l.node
          l.opened (shrink_in m)) x m' b b'
          → Sends c (answered c (state_of c m) r) x m' b b'
      cut_done_lem w r x m' b b' z y =
          subst (λ (v : Result (digest_store c)). Sends c v x m' b b')
          (ap (λ (j : Guard). finish_change c (digest_store c) (trimmed c (digest_store c) (state_of c m) l.digests)
          j.node j.opened (shrink_in m)) loaded
          ∙ whole-ends c m (omega arith, omega arith) g.node g.opened (shrink_in m) l.digests
          (ap (λ (j : Guard). j.digests) loaded)
          ∙ sym (cut_goes c w (state_of c m) r g.node g.opened (shrink_in m) (cut_waits e) z))
          y
