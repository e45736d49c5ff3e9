-- A full disk under a write (SPECIFICATION 5.5, 6.1), as one law over whole runs: a write whose store of page i is answered -28, with a page stored
-- before, comes to what the write of the bytes before page i comes to, from the same state with the same replies. For the guard and for the tree.
-- Letters: s the state before the call, h the handle, d the bytes, a and b the lengths of the call's buffers, x and y those of the last reply's, i
-- the page, ws, w and fs the replies before, r the last, k a node's place, o an open file's place.
-- Assumes nothing.
use Rattle.std.specs.Prelude.{◌≡◌, List, [], ◌∷◌, ◌++◌, ℕ, ◌-◌, ◌+◌, ◌*◌, ◌≤◌, ◌<◌, max, take}
use Rattle.std.proofs.Math.Path.{refl, ap, sym}
use Rattle.std.proofs.Common.{◌∙◌, subst, length-append}
use Rattle.std.proofs.Math.Bool.{true, false}
use Rattle.std.proofs.Math.Option.{Option, some}
use native.Mathlib.Omega.{arith}
use Rattle.std.proofs.Math.ListN.{length}
use Rattle.std.proofs.Math.Seq.{length-take-le, take-append_seam}
use borrow.Author.Tests.{ltb-false, le-ltb, ne_eqb}
use Rattle.lists.specs.Pick.{pick-false}
use Rattle.lists.specs.All.{both, none, all_take, all_head, all_tail}
use Rattle.lists.specs.Checks.{Passed, decide_passed}
use Rattle.filesystem.specs.Tables.{PAGE_BYTES, FILE_BYTES, PAGES, Tables, pages_for, page_total, set_size}
use Rattle.rules.specs.Calls.{Call, write, call_bytes}
use Rattle.rules.proofs.CallLaws.{CallFits, call_read_back}
use Rattle.rules.specs.Pages.{page_at, writing, first}
use Rattle.rules.proofs.PageLaws.{before_page, before-fill}
use Rattle.rules.proofs.FullLaws.{fewer_pages}
use Rattle.rules.specs.Requests.{storing}
use Rattle.rules.specs.Skeleton.{Config, Event, call, reply, Answer, done, ask, refused, stopped, plain, answer_length, request_length}
use Rattle.rules.specs.Rules.{refuse, open_place, file_place, opened, file, no_room, call_checks, call_action, map_checks, says_full, is_none, call_or, stopped_check, busy_check, short_check, event_checks, event_action, judge}
use Rattle.machine.specs.Machine.{Store, State, Result, Gathered, guard, cleared, pages_from, apply, step, outcomes, final}
use Rattle.machine.specs.Tree.{tree}
use Rattle.machine.proofs.EventLaws.{is_refusal, not_refused}
use Rattle.machine.proofs.GivenUpRuns.{is_ask, AllAsk, no, final-append}
use Rattle.machine.proofs.PartialWrites.{Sent, unsent, more, KeepsPages, ComesOn, begun_comes}

-- What the guard and the tree keep of pages is such.
guard-sent : (c : Config) {a : Gathered} {n : ℕ} → Sent (guard c) a n → length a.digests ≡ n
guard-sent c unsent = refl
guard-sent c (more {a = a} s p) = length-append a.digests (c.digest p ∷ []) ∙ (let e = guard-sent c s in omega arith)

pub guard_keeps : (c : Config) → KeepsPages (guard c)
guard_keeps c = record {
  same_page = λ x q i j r s l m h. before-fill q i r j s l m h;
  first-sent = λ {a} s p. λ x. record {
    bytes = a.bytes;
    digests = (ap (λ n. take n (a.digests ++ (c.digest p ∷ []))) (sym (guard-sent c s)) ∙ take-append_seam a.digests (c.digest p ∷ [])) x;
  };
}

pub tree_keeps : (c : Config) → KeepsPages (tree c)
tree_keeps c = record { same_page = λ b q i j r s l m h. before_page q i b j s l m h; first-sent = λ s p. refl }

module _ (c : Config) (S : Store) (s : State S) (h : ℕ) (d : List ℕ) (a b : ℕ) where
  abbrev tables : Tables
  tables = s.skeleton.tables

  -- the places of the file and of the open file that the handle h names, and the cursor
  abbrev k : ℕ
  k = file_place tables h

  abbrev o : ℕ
  o = open_place tables h

  abbrev position : ℕ
  position = (opened tables h).cursor

  -- a write's call, with buffers of these lengths
  abbrev writes : List ℕ → Event
  writes x = call (call_bytes c.width (write h x)) a b

  asks_passed : (e : Event) → is_ask (step c S s e).outcome.answer ≡ true → Passed (event_checks c s.skeleton e)
  unfolding is_ask is_refusal
  asks_passed e q = not_refused c S s e (go (step c S s e).outcome.answer q)
    where
      go : (x : Answer) → is_ask x ≡ true → is_refusal c S x ≡ false
      go (done n y) q = refl
      go (ask y) q = refl
      go (refused n) q = no q
      go (stopped n) q = refl

  -- a write of a byte at least that passes begins
  begins : (x : List ℕ) → CallFits c.width (write h x) → 0 < length x → Passed (event_checks c s.skeleton (writes x))
      → step c S s (writes x) ≡ pages_from c S (cleared c S s) k o (writing position x) (page_at position)
  unfolding step judge event_action call_action call_or apply first
  begins x f l p =
      ap (apply c S s)
      (decide_passed refuse _ _ p
      ∙ (ap (λ z. call_action tables c.width (call_or z)) (call_read_back c.width (write h x) f)
      ∙ pick-false _ _ _ (ne_eqb (length x) 0 (λ e. omega arith))))

  -- a write of fewer bytes passes too
  abbrev Passes : Option Call → Type 0
  Passes z =
      Passed (stopped_check c s.skeleton ∷ busy_check c s.skeleton ∷ short_check c s.skeleton a b ∷ (22, is_none z)
      ∷ (call_checks tables (call_or z) ++ map_checks s.skeleton.maps (call_or z)))

  abbrev pages_with : ℕ → ℕ
  pages_with n = page_total (set_size tables.nodes k (max (file tables h).size (position + n)))

  fewer_passes : (x : List ℕ) → length x ≤ length d → Passes (some (write h d)) → Passes (some (write h x))
  unfolding call_or call_checks map_checks is_none no_room
  fewer_passes x l (both e₁ (both e₂ (both e₃ (both e₄ (both right (both small (both room none))))))) =
      let z : position + length d ≤ FILE_BYTES = ltb-false _ _ small in
      let y : pages_with (length d) ≤ PAGES = ltb-false _ _ room in
      let size = (file tables h).size in
      let f = fewer_pages tables.nodes k (max size (position + length x)) (max size (position + length d)) (omega arith) in
      both e₁ (both e₂ (both e₃ (both refl (both right
      (both (le-ltb FILE_BYTES (position + length x) (omega arith)) (both (le-ltb PAGES (pages_with (length x)) (omega arith)) none))))))

  -- The store of page i is answered -28.
  module _ (i : ℕ) (ws : List Event) (w : Event) (fs : List Event) (r : List ℕ) (x y : ℕ) where
    -- the bytes before page i
    abbrev part : List ℕ
    part = take (i * PAGE_BYTES - position) d

    -- the events of the write of all bytes before that reply
    abbrev events : List Event
    events = writes d ∷ (ws ++ (w ∷ fs))

    pub record MeetsFull : Type 0 where
      -- the call is in range; page i is one that it stores, and not the first
      pub fits : CallFits c.width (write h d)
      pub from : page_at position < i
      pub to : i < pages_for (position + length d)
      -- each event sends a request; w replies to the store of page i - 1, fs to page i's fetch, if there is one
      pub asks : AllAsk (outcomes c S s events)
      pub stores : (final c S s (writes d ∷ ws)).skeleton.pending ≡ storing k o (writing position d) (i - 1)
      pub meets : (final c S s events).skeleton.pending ≡ storing k o (writing position d) i
      -- the reply says -28, with buffers that are long enough
      pub full : says_full 4 r ≡ true
      pub answer : answer_length c ≤ x
      pub request : request_length c ≤ y

    -- What the reply comes to is what the write of the bytes before page i comes to.
    pub record ComesToPart : Type 0 where
      -- that write sends the same requests up to the store of page i - 1
      pub same_asks : outcomes c S s (writes part ∷ ws) ≡ outcomes c S s (writes d ∷ ws)
      -- and is done with the reply to that store: the same outcome, the same state
      pub same_step : step c S (final c S s (writes part ∷ ws)) w ≡ step c S (final c S s events) (reply r x y)
      pub same_final : final c S s (writes part ∷ (ws ++ (w ∷ []))) ≡ final c S s (events ++ (reply r x y ∷ []))
      -- it is done with the number of those bytes
      pub number : (step c S (final c S s events) (reply r x y)).outcome ≡ plain (done (i * PAGE_BYTES - position) [])

    module _ (kept : KeepsPages S) (m : MeetsFull) where
      part_length : length part ≡ i * PAGE_BYTES - position
      unfolding pages_for
      part_length = let l = m.to in length-take-le (i * PAGE_BYTES - position) d (omega arith)

      part_shorter : length part ≤ length d
      unfolding pages_for
      part_shorter = let l = m.to in let e = part_length in omega arith

      part_some : 0 < length part
      unfolding page_at
      part_some = let l = m.from in let e = part_length in omega arith

      part_fits : CallFits c.width (write h part)
      part_fits =
          let e = part_shorter in
          let l = m.fits.1.0 in
          (m.fits.0, (omega arith, all_take (i * PAGE_BYTES - position) m.fits.1.1))

      passed : Passed (event_checks c s.skeleton (writes d))
      unfolding outcomes
      passed = asks_passed (writes d) (all_head m.asks)

      whole-begins : step c S s (writes d) ≡ pages_from c S (cleared c S s) k o (writing position d) (page_at position)
      whole-begins = let l = part_shorter in let z = part_some in begins d m.fits (omega arith) passed

      part-begins : step c S s (writes part) ≡ pages_from c S (cleared c S s) k o (writing position part) (page_at position)
      unfolding event_checks
      part-begins =
          begins part part_fits part_some
          (subst Passes (sym (call_read_back c.width (write h part) part_fits))
          (fewer_passes part part_shorter (subst Passes (call_read_back c.width (write h d) m.fits) passed)))

      abbrev Comes : Result S → Result S → Type 0
      Comes u v = ComesOn c S s k o kept position d i m.from m.to r x y m.full m.answer m.request w fs u v ws

      comes : Comes (step c S s (writes d)) (step c S s (writes part))
      comes =
          subst (λ z. Comes z (step c S s (writes part))) (sym whole-begins)
          (subst (Comes _) (sym part-begins)
          (begun_comes c S s k o kept position d i m.from m.to r x y m.full m.answer m.request w fs ws))

      pub partial_write : ComesToPart
      unfolding outcomes final
      partial_write =
          let e = comes (all_tail m.asks) m.stores m.meets in
          record {
            same_asks = e.0;
            same_step = sym e.1.0;
            same_final =
                final-append c S (step c S s (writes part)).state ws (w ∷ [])
                ∙ (ap (λ (z : Result S). z.state) (sym e.1.0)
                ∙ sym (final-append c S (step c S s (writes d)).state (ws ++ (w ∷ fs)) (reply r x y ∷ [])));
            number = e.1.1;
          }

-- The guard and the tree, whatever the digest and the width of ids.
module _ (c : Config) (h : ℕ) (d : List ℕ) (a b i : ℕ) (ws : List Event) (w : Event) (fs : List Event) (r : List ℕ) (x y : ℕ) where
  pub guard_partial_write : (g : State (guard c)) → MeetsFull c (guard c) g h d a b i ws w fs r x y
      → ComesToPart c (guard c) g h d a b i ws w fs r x y
  guard_partial_write g m = partial_write c (guard c) g h d a b i ws w fs r x y (guard_keeps c) m

  pub tree_partial_write : (t : State (tree c)) → MeetsFull c (tree c) t h d a b i ws w fs r x y
      → ComesToPart c (tree c) t h d a b i ws w fs r x y
  tree_partial_write t m = partial_write c (tree c) t h d a b i ws w fs r x y (tree_keeps c) m
