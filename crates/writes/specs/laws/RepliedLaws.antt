-- The replies that a pending write waits for, by the numbers that were loaded: its page goes out, then the next one.
-- Assumes nothing.
use Rattle.std.specs.Prelude.{◌≡◌, true, List, ℕ, suc, ◌+◌, ◌<◌, ◌≤◌, length}
use Rattle.std.proofs.Common.{ap, sym, ◌∙◌, arith}
use Rattle.std.proofs.Math.Path.{subst}
use Rattle.digest.specs.Sha256.{sha256}
use Rattle.filesystem.specs.Tables.{PAGE_BYTES, ID_BYTES, pages_for}
use Rattle.memory.specs.Layout.{mem_of, memory_size, new_digests}
use Rattle.rules.specs.Pages.{last, size_after}
use Rattle.rules.specs.Requests.{fetching, storing}
use Rattle.rules.specs.Skeleton.{Config}
use Rattle.rules.specs.Rules.{says_full, full_action}
use Rattle.machine.specs.Machine.{Result, ask_store, pages_from, apply, guard as digest_store}
use Rattle.machine.specs.Consistent.{Consistent}
use Rattle.guard_state.specs.Calls.{FETCHING, STORING}
use Rattle.guard_state.specs.declared.Guard.{Guard}
use Rattle.guard_state.specs.State.{numbers_of, state_of, file_pages}
use Rattle.guard_state.specs.laws.PendingLaws.{fetch_pending, store_pending}
use Rattle.outcomes.specs.declared.Outcome.{Outcome}
use Rattle.outcomes.specs.Sent.{Sends}
use Rattle.outcomes.specs.Answered.{answered}
use Rattle.replies.specs.Judged.{status_reason}
use Rattle.replies.specs.laws.TakenLaws.{taken-full}
use Rattle.page_changes.specs.Sending.{Sending}
use Rattle.page_changes.specs.laws.SendingLaws.{fetching_fits, fetching_sending, storing_sending}
use Rattle.page_changes.specs.Fetched.{JudgedPage}
use Rattle.page_changes.specs.laws.FetchedLaws.{judged-stores, stored_goes}
use Rattle.writes.specs.Writing.{write_in}
use Rattle.writes.specs.laws.PageLaws.{page_ahead, few_sent}

module _ (c : Config) (m : List ℕ) where
  abbrev g : Guard
  g = numbers_of (mem_of m).head

  -- by the call's number
  pub fetch_waits : g.call ≡ FETCHING → (state_of c m).skeleton.pending ≡ fetching g.node g.opened (write_in m)
      g.page
  unfolding write_in
  fetch_waits e = fetch_pending c m e

  pub store_waits : g.call ≡ STORING → (state_of c m).skeleton.pending ≡ storing g.node g.opened (write_in m)
      g.page
  unfolding write_in
  store_waits e = store_pending c m e

  -- the disk is full
  pub store_full : g.call ≡ STORING → c.width ≡ ID_BYTES → (r : List ℕ) → says_full 4 r ≡ true
      → (x : Outcome) (m' b : List ℕ)
      → Sends c (apply c (digest_store c) (state_of c m) (full_action
      (storing g.node g.opened (write_in m) g.page)))
      x m' b b
      → Sends c (answered c (state_of c m) r) x m' b b
  unfolding answered write_in
  store_full e w r f x m' b = subst (λ (v : Result (digest_store c)). Sends c v x m' b b)
      (sym (ap (apply c (digest_store c) (state_of c m)) (taken-full c w (state_of c m) r _ (store_waits e) f)))

  module _ (h : Consistent c (state_of c m)) (l : Guard) (loaded : l ≡ numbers_of (mem_of m).head) where
    -- its page came
    module _ (e : g.call ≡ FETCHING) where
      held_page : Sending c m (write_in m) g.page
      held_page = fetching_sending c m (write_in m) h (omega arith, omega arith) (fetch_waits e)

      pub page_sending : Sending c m (write_in m) l.page
      page_sending = subst (λ (x : Guard). Sending c m (write_in m) x.page) (sym loaded) held_page

      pub page_room : memory_size ≤ length m → l.digests < new_digests
      page_room long =
          let f = fetching_fits c m (write_in m) h (omega arith, omega arith) (fetch_waits e) in
          subst (λ (x : Guard). x.digests < new_digests) (sym loaded)
          (few_sent c m long g.page held_page (page_ahead c m long g.page held_page f.page.to))

      pub page_goes : c.digest ≡ sha256 → (b : ℕ) (r : List ℕ) → JudgedPage m l b r → b ≡ 0
          → (x : Outcome) (m' z z' : List ℕ)
          → Sends c (ask_store c (digest_store c) (state_of c m) g.node g.opened (write_in m) l.page r) x m' z z'
          → Sends c (answered c (state_of c m) r) x m' z z'
      page_goes same b r judged p x m' z z' s =
          judged-stores c m (write_in m) h (omega arith, omega arith) (fetch_waits e) l loaded b r judged same p x m' z
          z'
          (subst (λ (y : Guard). Sends c (ask_store c (digest_store c) (state_of c m) g.node g.opened (write_in m)
          y.page r) x m' z z') loaded s)

    -- its page is stored, and i is the next one
    module _ (e : g.call ≡ STORING) (i : ℕ) (next : i ≡ l.page + 1) where
      as_next : suc g.page ≡ i
      as_next = let p : l.page ≡ g.page = ap (λ (x : Guard). x.page) loaded in omega arith

      pub next-sending : Sending c m (write_in m) i
      next-sending = subst (Sending c m (write_in m)) as_next (storing_sending c m (write_in m) h
          (omega arith, omega arith) (store_waits e))

      -- the largest file has the page before it
      pub next_most : i ≤ file_pages
      unfolding write_in last size_after pages_for
      next_most = let s = next-sending in omega (arith, s.to, s.fits.most)

      pub stored_next : c.width ≡ ID_BYTES → (r : List ℕ) (x : Outcome) (m' b b' : List ℕ)
          → 0 ≡ status_reason r PAGE_BYTES
          → Sends c (pages_from c (digest_store c) (state_of c m) g.node g.opened (write_in m) i) x m' b b'
          → Sends c (answered c (state_of c m) r) x m' b b'
      stored_next w r x m' b b' z =
          subst (λ (v : Result (digest_store c)). Sends c v x m' b b')
          (sym
          (stored_goes c w (state_of c m) r g.node g.opened (write_in m) g.page (store_waits e) z
          ∙ ap (pages_from c (digest_store c) (state_of c m) g.node g.opened (write_in m)) as_next))
