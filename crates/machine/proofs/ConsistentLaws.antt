-- What the guard's state has along every run, in one word: it holds (`Holds`), what a pending call has gathered is as much as its pages ask, and the table
-- of maps is valid. The code's contracts take it as their premise; a fresh guard has it, and every event keeps it.
-- Assumes nothing.
use Rattle.std.specs.Prelude.{◌≡◌, ℕ, suc, ◌+◌, ◌-◌, ◌*◌, ◌≤◌, ltb, leb, length, get_or}
use Rattle.std.proofs.Common.{subst, arith}
use mathlib.Core.List.{List, []}
use Rattle.std.proofs.Math.ListN.{length-append}
use borrow.Author.Tests.{ltb-false}
use Rattle.lists.specs.Pick.{pick_ind}
use Rattle.lists.specs.Equal.{equal}
use Rattle.filesystem.specs.ImageLaws.{Digest}
use Rattle.rules.specs.Pages.{Change, first, last, fetches, cuts}
use Rattle.rules.proofs.PageLaws.{first-last}
use Rattle.rules.specs.Requests.{asked, Pending, idle, reading, fetching, storing, cutting}
use Rattle.rules.specs.Skeleton.{Config, Event, EventBytes}
use Rattle.rules.specs.Rules.{Move, judge}
use Rattle.rules.specs.Valid.{Starts, Fits, f_refuse, f_halt, f_send, f_finish, f_add, f_delete, f_remap, f_read_page, f_begin, f_fill_page, f_stored, f_cut_done, f_keep_pages, f_give_up, f_saving, f_loading}
use Rattle.rules.proofs.FitLaws.{judge_fits}
use Rattle.rules.proofs.MapLaws.{none_valid}
use Rattle.machine.specs.Machine.{State, Result, size_at, read_on, finish_change, pages_stored, ask_store, on_page, pages_from, cleared, apply, step, fresh, guard}
use Rattle.machine.proofs.StateProperties.{fresh_holds, step_holds}
use Rattle.machine.proofs.StepLengths.{step_gathers}
use Rattle.machine.proofs.MapRuns.{step_maps}
use Rattle.machine.specs.Consistent.{Counts, Consistent}

-- a call that starts has sent no page
starts_count : (p : Pending) → Starts p → Counts p []
starts_count idle s = tt
starts_count (asked x) s = tt
starts_count (reading k o p n i) s = tt
starts_count (fetching k o q i) s = absurd s
starts_count (storing k o q i) s = absurd s
starts_count (cutting k o q) s = absurd s

module _ (c : Config) where
  abbrev Counted : Result (guard c) → Type 0
  Counted r = Counts r.state.skeleton.pending r.state.progress.digests

  -- one page more
  store_counted : (g : State (guard c)) (k o : ℕ) (q : Change) (i : ℕ) (r : List ℕ) → first q ≤ i → length g.progress.digests ≡ i - first q
      → Counted (ask_store c (guard c) g k o q i r)
  unfolding ask_store
  store_counted g k o q i r from h = rw length-append (omega arith)

  -- the pages before i are sent
  pages-counted : (g : State (guard c)) (k o : ℕ) (q : Change) (i : ℕ) → first q ≤ i → i ≤ last q → length g.progress.digests ≡ i - first q
      → Counted (pages_from c (guard c) g k o q i)
  unfolding pages_from on_page pages_stored finish_change
  pages-counted g k o q i from to h =
      pick_ind Counted (ltb i (last q))
      (λ _. pick_ind Counted (fetches q (size_at c (guard c) g k) i) (λ _. h) (λ _. store_counted g k o q i [] from h))
      (λ e. let z : last q ≤ i = ltb-false _ _ e in pick_ind Counted (cuts q) (λ _. omega arith) (λ _. tt))

  keeps_counted : (g : State (guard c)) → Counts g.skeleton.pending g.progress.digests → (m : Move) (e : Event) → Fits c g.skeleton e m
      → Counted (apply c (guard c) g m)
  unfolding apply finish_change
  keeps_counted g h m e (f_refuse f) = h
  keeps_counted g h m e (f_halt x n f) = tt
  keeps_counted g h m e (f_send {p = p} x s k) = starts_count p s
  keeps_counted g h m e (f_finish pl v z) = tt
  keeps_counted g h m e (f_add pl z v) = tt
  keeps_counted g h m e (f_delete pl v) = tt
  keeps_counted g h m e (f_remap pl) = tt
  keeps_counted g h m e (f_read_page {k = k} {p = p} {n = n} {i = i} {r = r} he w l x) =
      pick_ind Counted (equal (c.digest r) (get_or (get_or g.contents k []) i []))
      (λ _. unfold read_on in pick_ind Counted (leb (p + n) (i * 1024 + 1024)) (λ _. tt) (λ _. tt))
      (λ _. tt)
  keeps_counted g h m e (f_begin {k = k} {o = o} {q = q} pl x) =
      pages-counted (cleared c (guard c) g) k o q (first q) (omega arith) (first-last q _ x.fits) (omega arith)
  keeps_counted g h m e (f_fill_page {k = k} {o = o} {q = q} {i = i} {r = r} he w l x) =
      pick_ind Counted (equal (c.digest r) (get_or (get_or g.contents k []) i []))
      (λ _. store_counted g k o q i r x.page.from (subst (λ p. Counts p g.progress.digests) w h))
      (λ _. tt)
  keeps_counted g h m e (f_stored {k = k} {o = o} {q = q} {i = i} pl w x) =
      pages-counted g k o q (suc i) (omega arith) x.to (subst (λ p. Counts p g.progress.digests) w h)
  keeps_counted g h m e (f_cut_done pl w x) = tt
  keeps_counted g h m e (f_keep_pages pl w x t l) = tt
  keeps_counted g h m e (f_give_up he f) = tt
  keeps_counted g h m e (f_saving he w z) = tt
  keeps_counted g h m e (f_loading he z hd hp) = tt

module _ (c : Config) (digest_fits : (s : List ℕ) → Digest (c.digest s)) where
  pub step_consistent : (g : State (guard c)) (e : Event) → EventBytes e → Consistent c g → Consistent c (step c (guard c) g e).state
  unfolding step
  step_consistent g e b h = record {
    holds = step_holds c digest_fits g e b h.holds;
    gathers = step_gathers c g h.holds.valid h.gathers e b;
    counts = keeps_counted c g h.counts (judge c g.skeleton e) e (judge_fits c g.skeleton h.holds.valid e b);
    maps = step_maps c (guard c) g h.maps e b;
  }

pub fresh_consistent : (c : Config) → 1 ≤ c.width → Consistent c (fresh c (guard c))
fresh_consistent c wide = record { holds = fresh_holds c wide; gathers = tt; counts = tt; maps = record { valid = none_valid; pending = tt } }
