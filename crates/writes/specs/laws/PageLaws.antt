-- The pending write from page to page, as the machine has it: a page is fetched or goes out, and behind the last one
-- the write is done.
-- Assumes nothing.
use Rattle.std.specs.Prelude.{◌≡◌, refl, Bool, true, false, List, [], ℕ, ◌+◌, ◌*◌, ◌<◌, ◌≤◌, length, take}
use Rattle.std.proofs.Math.Path.{ap, ap₂, sym, subst}
use Rattle.std.proofs.Common.{◌∙◌, arith, lt-ltb, le-ltb}
use Rattle.lists.specs.Pick.{pick_true, pick-false}
use Rattle.filesystem.specs.Tables.{PAGE_BYTES, Node, node_at, pages_for}
use Rattle.memory.specs.Layout.{mem_of, memory_size, new_digests}
use Rattle.rules.specs.Pages.{page_at, writing, first, last, fetches, cuts}
use Rattle.rules.specs.Requests.{fetch_request}
use Rattle.rules.specs.Skeleton.{Config}
use Rattle.machine.specs.Machine.{State, Result, descriptor_at, asking, ask_store, on_page, pages_from, pages_stored}
use Rattle.machine.specs.Machine.{trimmed, finish_change, guard as digest_store}
use Rattle.guard_state.specs.declared.Guard.{Guard}
use Rattle.guard_state.specs.State.{numbers_of, pending_in, pendings, staged_bytes, state_of}
use Rattle.guard_state.specs.Onward.{goes_on}
use Rattle.guard_state.specs.laws.LoadedLaws.{node-there}
use Rattle.guard_state.specs.laws.Ranges.{in_range, bytes-length}
use Rattle.outcomes.specs.declared.Outcome.{Outcome}
use Rattle.outcomes.specs.Sent.{Sends}
use Rattle.page_changes.specs.Sending.{Sending}
use Rattle.page_changes.specs.laws.SendingLaws.{node_within, all_staged, whole-ends}
use Rattle.writes.specs.Writing.{Writing, write_in, EndsAt}

module _ (c : Config) (m : List ℕ) (long : memory_size ≤ length m) (i : ℕ) (h : Sending c m (write_in m) i) where
  abbrev g : Guard
  g = numbers_of (mem_of m).head

  abbrev s : State (digest_store c)
  s = state_of c m

  size-there : (node_at (mem_of m).nodes g.node).size ≡ (node_at s.skeleton.tables.nodes g.node).size
  size-there = ap (λ (x : Node). x.size) (node-there m c g.node (node_within c m (write_in m) i h))

  last_page : last (write_in m) ≡ pages_for (g.position + g.bytes)
  unfolding write_in last
  last_page = ap (λ (n : ℕ). pages_for (g.position + n)) (bytes-length m long)

  -- Behind the last page.
  module _ (behind : g.position + g.bytes ≤ i * PAGE_BYTES) where
    no_page : last (write_in m) ≤ i
    unfolding pages_for
    no_page = omega (arith, last_page, behind)

    -- it ends with all its bytes and digests
    ends : Writing g.call → EndsAt c m (take g.bytes (mem_of m).staged) (g.position + g.bytes) g.digests
    unfolding write_in first page_at pages_for
    ends (k₁, k₂) =
        let b = (in_range g (mem_of m).head refl).bytes in
        record {
          fits = h.fits;
          room = h.room;
          at = ap (λ (n : ℕ). g.position + n) (sym (bytes-length m long));
          pages = omega (arith, h.sent, h.to, no_page);
          few = omega (arith, h.sent, h.to, last_page, b);
          staged = all_staged c m (k₁, omega (arith, k₂));
        }

    pub behind-ends : Writing g.call → (x : Guard) → x ≡ g
        → EndsAt c m (take g.bytes (mem_of m).staged) (x.position + x.bytes) x.digests
    behind-ends w x e = subst (λ (y : Guard). EndsAt c m (take g.bytes (mem_of m).staged) (y.position + y.bytes)
        y.digests) (sym e) (ends w)

    pub from-behind : Writing g.call → (x : Guard) → x ≡ g → (r : Outcome) (m' q q' : List ℕ)
        → Sends c (finish_change c (digest_store c) (trimmed c (digest_store c) s x.digests) g.node g.opened
        (writing g.position (take g.bytes (mem_of m).staged))) r m' q q'
        → Sends c (pages_from c (digest_store c) s g.node g.opened (write_in m) i) r m' q q'
    unfolding pages_from pages_stored cuts write_in
    from-behind (k₁, k₂) x e r m' q q' = subst (λ (y : Result (digest_store c)). Sends c y r m' q q')
        (whole-ends c m (k₁, omega (arith, k₂)) g.node g.opened (write_in m) x.digests
        (ap (λ (y : Guard). y.digests) e)
        ∙ sym (pick-false _ _ _ (le-ltb i (last (write_in m)) no_page) ∙ pick-false _ _ _ refl))

  -- A page that is written.
  pub page_ahead : i < last (write_in m) → i * PAGE_BYTES < g.position + g.bytes
  unfolding pages_for
  page_ahead l = omega (arith, last_page, l)

  module _ (ahead : i * PAGE_BYTES < g.position + g.bytes) where
    pub few_sent : g.digests < new_digests
    unfolding write_in first page_at
    few_sent = let b = (in_range g (mem_of m).head refl).bytes in omega (arith, h.sent, h.from, b, ahead)

    a_page : i < last (write_in m)
    unfolding pages_for
    a_page = omega (arith, last_page, ahead)

    pub from_page : (r : Outcome) (m' q q' : List ℕ)
        → Sends c (on_page c (digest_store c) s g.node g.opened (write_in m) i) r m' q q'
        → Sends c (pages_from c (digest_store c) s g.node g.opened (write_in m) i) r m' q q'
    unfolding pages_from
    from_page r m' q q' = subst (λ (x : Result (digest_store c)). Sends c x r m' q q')
        (sym (pick_true _ _ _ (lt-ltb i (last (write_in m)) a_page)))

  -- whether it is fetched
  fetch_known : (x : Guard) → x ≡ g → (b : Bool) (size : ℕ) → size ≡ (node_at (mem_of m).nodes x.node).size
      → b ≡ fetches (writing x.position (take g.bytes (mem_of m).staged)) size i
      → b ≡ fetches (write_in m) (node_at s.skeleton.tables.nodes g.node).size i
  unfolding write_in
  fetch_known x e b size u v =
      v ∙ ap₂ (λ (p z : ℕ). fetches (writing p (take g.bytes (mem_of m).staged)) z i)
      (ap (λ (y : Guard). y.position) e)
      (u ∙ ap (λ (y : Guard). (node_at (mem_of m).nodes y.node).size) e ∙ size-there)

  module _ (x : Guard) (e : x ≡ g) (b : Bool) (size : ℕ) (u : size ≡ (node_at (mem_of m).nodes x.node).size)
      (v : b ≡ fetches (writing x.position (take g.bytes (mem_of m).staged)) size i) (r : Outcome)
      (m' q q' : List ℕ) where
    pub page_fetched : b ≡ true
        → Sends c (asking c (digest_store c) s (fetch_request (descriptor_at c (digest_store c) s g.opened) i)
        (pending_in (goes_on 9 i g) (mem_of m).staged) s.progress) r m' q q'
        → Sends c (on_page c (digest_store c) s g.node g.opened (write_in m) i) r m' q q'
    unfolding on_page pending_in pendings staged_bytes goes_on write_in
    page_fetched t = subst (λ (y : Result (digest_store c)). Sends c y r m' q q')
        (sym (pick_true _ _ _ (sym (fetch_known x e b size u v) ∙ t)))

    pub page_stored : b ≡ false → Sends c (ask_store c (digest_store c) s g.node g.opened (write_in m) i []) r m' q
        q'
        → Sends c (on_page c (digest_store c) s g.node g.opened (write_in m) i) r m' q q'
    unfolding on_page
    page_stored t = subst (λ (y : Result (digest_store c)). Sends c y r m' q q')
        (sym (pick-false _ _ _ (sym (fetch_known x e b size u v) ∙ t)))
