-- Laws of specs/Sending.antt.
-- Assumes nothing.
use Rattle.std.specs.Prelude.{◌≡◌, ℕ, suc, ◌-◌, ◌<◌, ◌≤◌}
use Rattle.std.proofs.Math.Path.{ap}
use Rattle.std.proofs.Common.{◌∙◌, subst, arith, take_all}
use mathlib.Core.List.{List}
use Rattle.std.proofs.Math.ListN.{length, take}
use Rattle.filesystem.specs.Tables.{PAGES, Tables, node_at, open_at, page_total}
use Rattle.filesystem.specs.Sound.{to_sound}
use Rattle.lists.specs.RowLaws.{length-rows}
use Rattle.memory.specs.Layout.{mem_of, digest_width, new_digests}
use Rattle.tables.specs.View.{view_of, staged_digests}
use Rattle.rules.specs.Pages.{Change, first, last, size_after, cursor_after, number_of}
use Rattle.rules.proofs.PageLaws.{first-last}
use Rattle.rules.specs.Requests.{Pending, fetching, storing, cutting}
use Rattle.rules.specs.Skeleton.{Config}
use Rattle.rules.specs.Valid.{PendingFits, ChangeFits, PageFits, FetchFits}
use Rattle.machine.specs.Machine.{State, Gathered, trimmed, finish_change, guard as digest_store}
use Rattle.machine.specs.Consistent.{Consistent, Counts}
use Rattle.guard_state.specs.declared.Guard.{Guard}
use Rattle.guard_state.specs.State.{numbers_of, state_in, state_of, gathered_digests}
use Rattle.guard_state.specs.laws.Changes.{Covered, change_changeable}
use Rattle.guard_state.specs.laws.LoadedLaws.{nodes-count, opens-count}
use Rattle.guard_state.specs.laws.OnwardLaws.{gathered_change}
use Rattle.page_changes.specs.Asked.{Changing}
use Rattle.page_changes.specs.Ended.{Ended}
use Rattle.page_changes.specs.Sending.{Sending}

module _ (c : Config) (m : List ℕ) where
  abbrev g : Guard
  g = numbers_of (mem_of m).head

  abbrev t : Tables
  t = (state_of c m).skeleton.tables

  -- what a change has gathered
  pub change_progress : Changing g.call → (state_of c m).progress ≡ gathered_digests g (mem_of m).staged
  unfolding state_of state_in view_of
  change_progress (a, b) = gathered_change g (mem_of m).staged a b

  digests_count : Changing g.call → length (state_of c m).progress.digests ≡ g.digests
  unfolding staged_digests
  digests_count k = ap (λ (a : Gathered). length a.digests) (change_progress k)
      ∙ length-rows digest_width g.digests _

  -- all of them
  all_kept_lem : Changing g.call → take g.digests (state_of c m).progress.digests ≡ (state_of c m).progress.digests
  all_kept_lem k = take_all g.digests _ (omega (arith, digests_count k))

  pub all_staged : Changing g.call → take g.digests (state_of c m).progress.digests
      ≡ staged_digests g.digests (mem_of m).staged
  all_staged k = all_kept_lem k ∙ ap (λ (a : Gathered). a.digests) (change_progress k)

  -- a change that has all its digests ends as the machine's
  pub whole-ends : Changing g.call → (k o : ℕ) (q : Change) (n : ℕ) → n ≡ g.digests
      → finish_change c (digest_store c) (trimmed c (digest_store c) (state_of c m) n) k o q
      ≡ finish_change c (digest_store c) (state_of c m) k o q
  unfolding finish_change
  whole-ends h k o q n e = λ i. finish_change c (digest_store c)
      (holds ((ap (λ (j : ℕ). take j (state_of c m).progress.digests) e ∙ all_kept_lem h) i)) k o q
    where
      holds : List (List ℕ) → State (digest_store c)
      holds ds = record {
        skeleton = (state_of c m).skeleton;
        contents = (state_of c m).contents;
        progress = record { bytes = (state_of c m).progress.bytes; digests = ds };
        saves = (state_of c m).saves;
      }

  -- a change that the tables can take, with a digest for each of its pages
  pub change_ended : (q : Change) → ChangeFits t.nodes t.opens g.node g.opened q
      → page_total t.nodes ≤ PAGES
      → (size cursor from count number : ℕ) → count ≡ last q - first q → count ≤ new_digests
      → take count (state_of c m).progress.digests ≡ staged_digests count (mem_of m).staged
      → Covered q (node_at t.nodes g.node).size
      → size ≡ size_after q (node_at t.nodes g.node).size
      → cursor ≡ cursor_after q (open_at t.opens g.opened).cursor → from ≡ first q → number ≡ number_of q
      → Ended c m q g.node g.opened size cursor from count number
  change_ended q f room size cursor from count number n few d all u v w x = record {
    can = rw (u, w, n) (change_changeable t.nodes g.node q f.opened.known f.fits room f.room
        (omega (arith, n, few)) all);
    opened = omega (arith, f.opened.open_known, opens-count c m);
    sized = u;
    moved = v;
    begins = w;
    staged = d;
    says = x;
  }

  -- its last page is sent
  module _ (q : Change) (i : ℕ) (h : Sending c m q i) where
    pub node_within : g.node < g.nodes
    node_within = omega (arith, h.fits.opened.known, nodes-count c m)

    pub open_within : g.opened < g.opens
    open_within = omega (arith, h.fits.opened.open_known, opens-count c m)

    pub sending-ended : (size cursor from number : ℕ) → Changing g.call → last q ≤ i → last q - first q ≤ new_digests
        → Covered q (node_at t.nodes g.node).size
        → size ≡ size_after q (node_at t.nodes g.node).size
        → cursor ≡ cursor_after q (open_at t.opens g.opened).cursor → from ≡ first q → number ≡ number_of q
        → Ended c m q g.node g.opened size cursor from g.digests number
    sending-ended size cursor from number k l few all u v w x =
        change_ended q h.fits h.room size cursor from g.digests number (omega (arith, h.sent, h.to, l))
        (omega (arith, h.sent, h.to, l)) (all_staged k) all u v w x

  -- from a consistent state, by what the change waits for
  module _ (q : Change) (h : Consistent c (state_of c m)) (k : Changing g.call) where
    pub consistent_room : page_total t.nodes ≤ PAGES
    consistent_room = (to_sound c.width t.nodes h.holds.valid.tables.nodes_valid.sound).pages

    pub fetching_fits : (state_of c m).skeleton.pending ≡ fetching g.node g.opened q g.page
        → FetchFits t.nodes t.opens g.node g.opened q g.page
    fetching_fits e = subst (PendingFits t.nodes t.opens) e h.holds.valid.pending

    pub fetching_sending : (state_of c m).skeleton.pending ≡ fetching g.node g.opened q g.page
        → Sending c m q g.page
    fetching_sending e =
        let f = (fetching_fits e).page in
        let n : length (state_of c m).progress.digests ≡ g.page - first q = subst
        (λ (x : Pending). Counts x (state_of c m).progress.digests) e h.counts in
        record {
          fits = f.change;
          room = consistent_room;
          from = f.from;
          to = omega (arith, f.to);
          sent = omega
              (arith, n, digests_count k);
        }

    pub storing_sending : (state_of c m).skeleton.pending ≡ storing g.node g.opened q g.page
        → Sending c m q (suc g.page)
    storing_sending e =
        let f : PageFits t.nodes t.opens g.node g.opened q g.page = subst
        (PendingFits t.nodes t.opens) e h.holds.valid.pending in
        let n : length (state_of c m).progress.digests ≡ suc g.page - first q = subst
        (λ (x : Pending). Counts x (state_of c m).progress.digests) e h.counts in
        record {
          fits = f.change;
          room = consistent_room;
          from = omega (arith, f.from);
          to = omega (arith, f.to);
          sent = omega (arith, n, digests_count k);
        }

    pub cutting_sending : (state_of c m).skeleton.pending ≡ cutting g.node g.opened q → Sending c m q (last q)
    cutting_sending e =
        let f : ChangeFits t.nodes t.opens g.node g.opened q = subst (PendingFits t.nodes t.opens) e
        h.holds.valid.pending in
        let n : length (state_of c m).progress.digests ≡ last q - first q = subst
        (λ (x : Pending). Counts x (state_of c m).progress.digests) e h.counts in
        record {
          fits = f;
          room = consistent_room;
          from = first-last q _ f.fits;
          to = omega arith;
          sent = omega
              (arith, n, digests_count k);
        }
