-- The end of a write: of all its pages, or of those that are stored where the disk is full.
-- Assumes nothing.
use Rattle.std.specs.Prelude.{◌≡◌, List, length}
use Rattle.std.proofs.Math.Path.{refl, ap, ap₂, subst}
use Rattle.std.proofs.Common.{sym, ◌∙◌, lt-ltb, le-ltb}
use Prim.Native.Nat.{ℕ, ◌-◌, ◌*◌, ◌/◌, ◌<◌, ◌≤◌, max}
use native.Mathlib.Omega.{arith}
use Rattle.std.proofs.Math.ListN.{take}
use Rattle.std.proofs.Math.Seq.{length-take-le}
use Rattle.lists.specs.Pick.{pick_true, pick-false}
use Rattle.filesystem.specs.Tables.{PAGE_BYTES, Node, node_at, pages_for}
use Rattle.memory.specs.Layout.{mem_of, memory_size, new_digests}
use Rattle.memory.specs.laws.MemLaws.{length-staged}
use Rattle.rules.specs.Pages.{page_at, writing, first, last, size_after, cursor_after, number_of, before}
use Rattle.rules.proofs.FullLaws.{before_change}
use Rattle.rules.specs.Requests.{storing}
use Rattle.rules.specs.Rules.{full_action}
use Rattle.rules.specs.Skeleton.{Config}
use Rattle.rules.specs.Valid.{PendingFits, PageFits}
use Rattle.machine.specs.Machine.{State, Result, Gathered, gave_up, trimmed, finish_change, apply, guard as digest_store}
use Rattle.machine.specs.Consistent.{Consistent}
use Rattle.guard_state.specs.Calls.{STORING}
use Rattle.guard_state.specs.declared.Guard.{Guard}
use Rattle.guard_state.specs.State.{numbers_of, state_of}
use Rattle.guard_state.specs.laws.LoadedLaws.{node-there, nodes-count}
use Rattle.guard_state.specs.laws.Ranges.{in_range}
use Rattle.guard_state.specs.laws.StageLaws.{digests_fewer}
use Rattle.outcomes.specs.declared.Outcome.{Outcome}
use Rattle.outcomes.specs.Sent.{Sends}
use Rattle.page_changes.specs.Ended.{Ended}
use Rattle.page_changes.specs.laws.SendingLaws.{change_progress, change_ended, consistent_room, storing_sending}
use Rattle.writes.specs.Writing.{write_in, EndsAt}
use Rattle.writes.specs.laws.RepliedLaws.{store_waits}

module _ (c : Config) (m : List ℕ) where
  abbrev g : Guard
  g = numbers_of (mem_of m).head

  abbrev s : State (digest_store c)
  s = state_of c m

  -- the numbers that it ends with
  module _ (d : List ℕ) (end count : ℕ) (h : EndsAt c m d end count) where
    ended : (size : ℕ) → size ≡ max (node_at (mem_of m).nodes g.node).size end
        → Ended c m (writing g.position d) g.node g.opened size end (g.position / PAGE_BYTES) count
        (end - g.position)
    unfolding first last page_at size_after cursor_after number_of pages_for
    ended size e =
        let n : g.node < g.nodes = omega (arith, h.fits.opened.known, nodes-count c m) in
        change_ended c m (writing g.position d) h.fits h.room size end (g.position / PAGE_BYTES) count
        (end - g.position) h.pages h.few h.staged (omega arith)
        (e ∙ ap₂ max (ap (λ (x : Node). x.size) (node-there m c g.node n)) h.at) h.at refl
        (omega (arith, h.at))

    pub write-ended : (x : Guard) → x ≡ g → (size : ℕ) → size ≡ max (node_at (mem_of m).nodes x.node).size end
        → Ended c m (writing g.position d) x.node x.opened size end (x.position / PAGE_BYTES) count
        (end - x.position)
    write-ended x e size =
        subst (λ (y : Guard). size ≡ max (node_at (mem_of m).nodes y.node).size end
        → Ended c m (writing g.position d) y.node y.opened size end (y.position / PAGE_BYTES) count
        (end - y.position)) (sym e) (ended size)

    -- the places that were loaded are the pending write's
    pub finish_loaded : (x : Guard) → x ≡ g → (r : Outcome) (m' q : List ℕ)
        → Sends c (finish_change c (digest_store c) (trimmed c (digest_store c) s count) x.node x.opened
        (writing g.position d)) r m' q q
        → Sends c (finish_change c (digest_store c) (trimmed c (digest_store c) s count) g.node g.opened
        (writing g.position d)) r m' q q
    finish_loaded x e r m' q = subst (λ (y : Guard). Sends c (finish_change c (digest_store c)
        (trimmed c (digest_store c) s count) y.node y.opened (writing g.position d)) r m' q q) e

  -- The disk is full where the page of the pending write was to be stored.
  module _ (long : memory_size ≤ length m) (h : Consistent c s) (stores : g.call ≡ STORING) where
    page_fits : PageFits s.skeleton.tables.nodes s.skeleton.tables.opens g.node g.opened (write_in m)
        g.page
    page_fits = subst (PendingFits s.skeleton.tables.nodes s.skeleton.tables.opens) (store_waits c m stores)
        h.holds.valid.pending

    abbrev kept : List ℕ
    kept = take (g.page * PAGE_BYTES - g.position) (take g.bytes (mem_of m).staged)

    -- the pages before it are stored: the write of their bytes ends
    module _ (some : g.position / PAGE_BYTES < g.page) where
      bytes-kept : length kept ≡ g.page * PAGE_BYTES - g.position
      unfolding write_in last pages_for
      bytes-kept = length-take-le (g.page * PAGE_BYTES - g.position) (take g.bytes (mem_of m).staged)
          (omega (arith, page_fits.to, some))

      digests_fit : g.digests ≤ new_digests
      digests_fit = (in_range g (mem_of m).head refl).digests

      kept-ends : EndsAt c m kept (g.page * PAGE_BYTES) (g.page - g.position / PAGE_BYTES)
      unfolding write_in first last page_at pages_for before
      kept-ends =
          let sent = storing_sending c m (write_in m) h (omega arith, omega arith) (store_waits c m stores) in
          record {
            fits = before_change _ _ g.node g.opened (write_in m) g.page page_fits refl some;
            room = consistent_room c m (write_in m) h (omega arith, omega arith);
            at = omega (arith, bytes-kept, some);
            pages = omega (arith, bytes-kept, some);
            few = omega (arith, sent.sent, digests_fit);
            staged =
                ap (λ (a : Gathered). take (g.page - g.position / PAGE_BYTES) a.digests)
                (change_progress c m (omega arith, omega arith))
                ∙ digests_fewer (mem_of m).staged (length-staged m long) (g.page - g.position / PAGE_BYTES)
                g.digests
                (omega (arith, sent.sent)) digests_fit;
          }

      pub keeps_pages : (x : Guard) → x ≡ g → (r : Outcome) (m' q : List ℕ)
          → (EndsAt c m kept (x.page * PAGE_BYTES) (x.page - x.position / PAGE_BYTES)
          → Sends c (finish_change c (digest_store c) (trimmed c (digest_store c) s (x.page - x.position / PAGE_BYTES))
          g.node g.opened (writing g.position kept)) r m' q q)
          → Sends c (apply c (digest_store c) s (full_action (storing g.node g.opened (write_in m)
          g.page))) r m' q
          q
      unfolding write_in first page_at full_action apply before
      keeps_pages x e r m' q f =
          subst (λ (y : Result (digest_store c)). Sends c y r m' q q)
          (sym (ap (apply c (digest_store c) s) (pick_true _ _ _ (lt-ltb (g.position / PAGE_BYTES) g.page some))))
          (subst (λ (y : Guard). EndsAt c m kept (y.page * PAGE_BYTES) (y.page - y.position / PAGE_BYTES)
          → Sends c (finish_change c (digest_store c) (trimmed c (digest_store c) s (y.page - y.position / PAGE_BYTES))
          g.node g.opened (writing g.position kept)) r m' q q) e f kept-ends)

    -- none is: the write is refused
    pub keeps_none : g.page ≤ g.position / PAGE_BYTES → (r : Outcome) (m' q : List ℕ)
        → Sends c (gave_up c (digest_store c) s) r m' q q
        → Sends c (apply c (digest_store c) s (full_action (storing g.node g.opened (write_in m)
        g.page))) r m' q q
    unfolding write_in first page_at full_action apply
    keeps_none l r m' q = subst (λ (y : Result (digest_store c)). Sends c y r m' q q)
        (sym (ap (apply c (digest_store c) s) (pick-false _ _ _ (le-ltb (g.position / PAGE_BYTES) g.page l))))
