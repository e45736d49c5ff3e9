-- The guard is a function of the tree: one move of each comes to the same, where the tests on pages and loaded images agree.
-- Assumes nothing.
use Rattle.std.specs.Prelude.{◌≡◌, true, ltb, leb, take}
use Rattle.std.proofs.Math.Path.{refl, ap, sym}
use Rattle.std.proofs.Common.{◌∙◌}
use mathlib.Core.List.{List, [], ◌∷◌, map, map-append, map-id}
use Prim.Native.Nat.{ℕ, suc, ◌+◌, ◌-◌, ◌*◌, ◌/◌, ◌≤◌, ◌<◌, min, max}
use native.Mathlib.Omega.{arith}
use Rattle.std.proofs.Math.ListN.{length, get_or, get_or-map}
use borrow.Author.Tests.{ltb-false, leb-true, leb-false}
use Rattle.lists.specs.Pick.{pick-map}
use Rattle.lists.specs.Equal.{equal, equal_true}
use Rattle.lists.specs.Cells.{tab, tab-more, tab_none, tab-take, tab_cong}
use Rattle.lists.specs.Maps.{map-set, map-without}
use Rattle.filesystem.specs.Tables.{Node, no_node, node_at, pages_for}
use Rattle.filesystem.specs.Image.{divide}
use Rattle.rules.specs.Pages.{page_at, page_of, bytes_at, Change, first, last, fetches, fill, cuts, bytes_after, FitsSize, stores_more, before}
use Rattle.rules.proofs.PageLaws.{first-last, fill_page_lem, fill_blank, bytes_at-more, before-first, before_last, before_page}
use Rattle.rules.proofs.FullLaws.{before_change}
use Rattle.rules.specs.Requests.{asked, Pending, idle, reading, fetching, storing, cutting}
use Rattle.rules.specs.Skeleton.{Config, Event}
use Rattle.rules.specs.Rules.{Move, refuse, halt, send, finish, add, delete, remap, read_page, begin, fill_page, stored, cut_done, keep_pages, give_up, saving, loading}
use Rattle.machine.specs.Machine.{Files, State, Result, files, read_on, finish_change, pages_stored, ask_store, on_page, pages_from, loaded, apply, guard}
use Rattle.rules.specs.Valid.{ReadingFits, FetchFits, Starts, sizes, Fits, f_refuse, f_halt, f_send, f_finish, f_add, f_delete, f_remap, f_read_page, f_begin, f_fill_page, f_stored, f_cut_done, f_keep_pages, f_give_up, f_saving, f_loading}
use Rattle.machine.specs.Tree.{guard_with, lookup, go_back, digests_of, tree, sent_digests, progress_of, guard_of}
use Rattle.machine.proofs.DigestLaws.{digests_blank, digest-at, digests_at_lem, replaced_digests}

module _ (c : Config) where
  unfoldable pub result_of : Result (tree c) → Result (guard c)
  result_of r = record { outcome = r.outcome; state = guard_of c r.state }

  unfoldable pub files_of : Files (List ℕ) → Files (List (List ℕ))
  files_of f = record { nodes = f.nodes; contents = map (digests_of c) f.contents }

  -- a page that came passes the guard's test where it passes the tree's
  abbrev pub SamePage : List ℕ → List ℕ → Type 0
  SamePage r p = equal (c.digest r) (c.digest p) ≡ equal r p

  -- the only two places where guard and tree could part: a page that came, an image that is loaded
  abbrev pub Agree : State (tree c) → Move → Type 0
  Agree t (refuse n) = Unit {0}
  Agree t (halt n) = Unit {0}
  Agree t (send p q) = Unit {0}
  Agree t (finish u n b) = Unit {0}
  Agree t (add n) = Unit {0}
  Agree t (delete k) = Unit {0}
  Agree t (remap x) = Unit {0}
  Agree t (read_page k o p n i r) = SamePage r (page_of (get_or t.contents k []) i)
  Agree t (begin k o q) = Unit {0}
  Agree t (fill_page k o q i r) = SamePage r (page_of (get_or t.contents k []) i)
  Agree t (stored k o q i) = Unit {0}
  Agree t (cut_done k o q) = Unit {0}
  Agree t (keep_pages k o q i) = Unit {0}
  Agree t give_up = Unit {0}
  Agree t saving = Unit {0}
  Agree t (loading i d) =
      ◌≡◌ {A = Files (List (List ℕ))} (record { nodes = i.0; contents = divide i.0 i.1 }) (files_of (go_back (lookup t.saves d) (files c (tree c) t)))

  -- a file's size is the length of its bytes
  abbrev pub Aligned : List Node → List (List ℕ) → Type 0
  Aligned ns xs = sizes ns ≡ map length xs

  pub aligned_at : (ns : List Node) (xs : List (List ℕ)) → Aligned ns xs → (k : ℕ) → (node_at ns k).size ≡ length (get_or xs k [])
  unfolding node_at
  aligned_at ns xs h k = sym (get_or-map (λ n. n.size) ns k no_node) ∙ (ap (λ l. get_or l k 0) h ∙ get_or-map length xs k [])

  -- a page that lies in a file
  pub page_in_lem : (ns : List Node) (xs : List (List ℕ)) → Aligned ns xs → (k i : ℕ) → i * 1024 < (node_at ns k).size → i < pages_for (length (get_or xs k []))
  unfolding pages_for
  page_in_lem ns xs h k i l = let e = aligned_at ns xs h k in omega arith

  -- the guard beside a tree, with this gathered
  abbrev beside : State (tree c) → List ℕ → List (List ℕ) → State (guard c)
  beside t b ds = guard_with c t (record { bytes = b; digests = ds })

  abbrev bytes_of : State (tree c) → ℕ → List ℕ
  bytes_of t k = get_or t.contents k []

  starts_bare : (xs : List (List ℕ)) (p : Pending) → Starts p → progress_of c xs p ≡ record { bytes = []; digests = [] }
  unfolding progress_of bytes_at page_at tab
  starts_bare xs idle s = absurd s
  starts_bare xs (asked x) s = refl
  starts_bare xs (reading k o p n i) s = let e : max p (i * 1024) - p ≡ 0 = omega arith in rw e
  starts_bare xs (fetching k o q i) s = absurd s
  starts_bare xs (storing k o q i) s = absurd s
  starts_bare xs (cutting k o q) s = absurd s

  -- the guard of a tree whose call is pending so
  guard_is : (t : State (tree c)) {p : Pending} → t.skeleton.pending ≡ p
      → guard_of c t ≡ guard_with c t (progress_of c t.contents p)
  unfolding guard_of
  guard_is t e = ap (λ p. guard_with c t (progress_of c t.contents p)) e

  -- a change is done
  finish_same : (t : State (tree c)) (k o : ℕ) (q : Change) → Aligned t.skeleton.tables.nodes t.contents
      → FitsSize q (node_at t.skeleton.tables.nodes k).size
      → finish_change c (guard c) (beside t [] (sent_digests c (bytes_of t k) q (last q))) k o q ≡ result_of (finish_change c (tree c) t k o q)
  unfolding finish_change result_of guard_of progress_of
  finish_same t k o q al f =
      let x = bytes_of t k in
      let e : (node_at t.skeleton.tables.nodes k).size ≡ length x = aligned_at t.skeleton.tables.nodes t.contents al k in
      rw (digests_at_lem c t.contents k, e, replaced_digests c q x (rw e at f), map-set (digests_of c) t.contents k (bytes_after q x))

  stored_same : (t : State (tree c)) (k o : ℕ) (q : Change) → Aligned t.skeleton.tables.nodes t.contents
      → FitsSize q (node_at t.skeleton.tables.nodes k).size
      → pages_stored c (guard c) (beside t [] (sent_digests c (bytes_of t k) q (last q))) k o q ≡ result_of (pages_stored c (tree c) t k o q)
  unfolding pages_stored result_of guard_of progress_of
  stored_same t k o q al f = pick-map result_of (cuts q) (λ e. refl) (λ e. finish_same t k o q al f)

  store_same : (t : State (tree c)) (k o : ℕ) (q : Change) (i : ℕ) (r : List ℕ) → first q ≤ i → fill q i r ≡ page_of (bytes_after q (bytes_of t k)) i
      → ask_store c (guard c) (beside t [] (sent_digests c (bytes_of t k) q i)) k o q i r ≡ result_of (ask_store c (tree c) t k o q i r)
  unfolding ask_store result_of guard_of progress_of sent_digests
  store_same t k o q i r l e = rw (e, tab-more (λ j. c.digest (page_of (bytes_after q (bytes_of t k)) j)) (first q) i l)

  pages_same : (t : State (tree c)) (k o : ℕ) (q : Change) (i : ℕ) → Aligned t.skeleton.tables.nodes t.contents
      → FitsSize q (node_at t.skeleton.tables.nodes k).size → first q ≤ i → i ≤ last q
      → pages_from c (guard c) (beside t [] (sent_digests c (bytes_of t k) q i)) k o q i ≡ result_of (pages_from c (tree c) t k o q i)
  unfolding pages_from on_page
  pages_same t k o q i al f l m =
      pick-map result_of (ltb i (last q))
      (λ e. pick-map result_of (fetches q (node_at t.skeleton.tables.nodes k).size i) (λ e₂. unfold result_of guard_of progress_of in refl)
      (λ e₂. store_same t k o q i [] l (fill_blank q (bytes_of t k) i (rw (aligned_at t.skeleton.tables.nodes t.contents al k) at e₂))))
      (λ e. let z : last q ≤ i = ltb-false _ _ e in let z₂ : i ≡ last q = omega arith in rw z₂ (stored_same t k o q al f))

  -- a read goes on
  read_on_same : (t : State (tree c)) (k o p n i : ℕ) (b : List ℕ) → ReadingFits t.skeleton.tables.nodes t.skeleton.tables.opens k o p n i
      → read_on c (guard c) (beside t b []) k o p n i (record { bytes = bytes_at (bytes_of t k) p (min (p + n) (suc i * 1024) - p); digests = [] })
      ≡ result_of (read_on c (tree c) t k o p n i tt)
  unfolding read_on result_of guard_of progress_of page_at
  read_on_same t k o p n i b h =
      pick-map result_of (leb (p + n) (i * 1024 + 1024))
      (λ e. let z : p + n ≤ i * 1024 + 1024 = leb-true _ _ e in let z₂ : min (p + n) (suc i * 1024) - p ≡ n = omega arith in rw z₂)
      (λ e.
      let z : i * 1024 + 1024 < p + n = leb-false _ _ e in
      let l : p / 1024 ≤ i = h.from in
      let z₂ : min (p + n) (suc i * 1024) - p ≡ max p (suc i * 1024) - p = omega arith in
      rw z₂)

  read_same : (t : State (tree c)) → Aligned t.skeleton.tables.nodes t.contents → (k o p n i : ℕ) (r : List ℕ)
      → ReadingFits t.skeleton.tables.nodes t.skeleton.tables.opens k o p n i → Agree t (read_page k o p n i r)
      → apply c (guard c) (beside t (bytes_at (bytes_of t k) p (max p (i * 1024) - p)) []) (read_page k o p n i r) ≡ result_of (apply c (tree c) t (read_page k o p n i r))
  unfolding apply
  read_same t al k o p n i r h g =
      let x = bytes_of t k in
      let l : i * 1024 < (node_at t.skeleton.tables.nodes k).size = (let a = h.within in let b = h.to in omega arith) in
      rw (digests_at_lem c t.contents k, digest-at c x i (page_in_lem t.skeleton.tables.nodes t.contents al k i l), g)
      (pick-map result_of (equal r (page_of x i))
      (λ e. let er : r ≡ page_of x i = equal_true _ _ e in rw (er, bytes_at-more x p n i h.from h.to) (read_on_same t k o p n i _ h))
      (λ e. unfold result_of guard_of progress_of in refl))

  -- a page came for a change
  fill_same : (t : State (tree c)) → Aligned t.skeleton.tables.nodes t.contents → (k o : ℕ) (q : Change) (i : ℕ) (r : List ℕ)
      → FetchFits t.skeleton.tables.nodes t.skeleton.tables.opens k o q i → Agree t (fill_page k o q i r)
      → apply c (guard c) (beside t [] (sent_digests c (bytes_of t k) q i)) (fill_page k o q i r) ≡ result_of (apply c (tree c) t (fill_page k o q i r))
  unfolding apply
  fill_same t al k o q i r h g =
      let x = bytes_of t k in
      rw (digests_at_lem c t.contents k, digest-at c x i (page_in_lem t.skeleton.tables.nodes t.contents al k i h.old), g)
      (pick-map result_of (equal r (page_of x i))
      (λ e. let er : r ≡ page_of x i = equal_true _ _ e in store_same t k o q i r h.page.from (rw er (fill_page_lem q x i)))
      (λ e. unfold result_of guard_of progress_of in refl))

  bare : (b : List ℕ) (q : Change) → sent_digests c b q (first q) ≡ []
  unfolding sent_digests
  bare b q = tab_none (first q) _

  -- of the pages sent, those before i are those of the write of the bytes before it
  kept_digests : (b : List ℕ) (q : Change) (i : ℕ) → stores_more q ≡ true → first q < i → i < last q
      → take (i - first q) (sent_digests c b q (suc i)) ≡ sent_digests c b (before q i) (last (before q i))
  unfolding sent_digests
  kept_digests b q i s l m =
      tab-take (i - first q) (suc i - first q) (λ j. c.digest (page_of (bytes_after q b) (first q + j))) (omega arith)
      ∙ rw (before_last q i s l m, before-first q i)
      (tab_cong (i - first q) _ _ (λ j h. ap c.digest (sym (before_page q i b (first q + j) s l m (omega arith)))))

  -- One move.
  pub commute : (t : State (tree c)) → Aligned t.skeleton.tables.nodes t.contents → {m : Move} {e : Event} → Fits c t.skeleton e m → Agree t m
      → apply c (guard c) (guard_of c t) m ≡ result_of (apply c (tree c) t m)
  unfolding apply guard_of result_of progress_of files_of
  commute t al (f_refuse f) g = refl
  commute t al (f_halt h n f) g = refl
  commute t al (f_send {p = p} h s k) g = rw (starts_bare t.contents p s)
  commute t al (f_finish pl v s) g = refl
  commute t al (f_add pl s v) g = rw (map-append (digests_of c) t.contents ([] ∷ []), digests_blank c)
  commute t al (f_delete {k = k} pl v) g = rw (map-without (digests_of c) k t.contents)
  commute t al (f_remap pl) g = refl
  commute t al (f_read_page {k = k} {o = o} {p = p} {n = n} {i = i} {r = r} he w l h) g =
      ap (λ s. apply c (guard c) s (read_page k o p n i r)) (guard_is t w) ∙ read_same t al k o p n i r h g
  commute t al (f_begin {k = k} {o = o} {q = q} pl h) g =
      ap (λ ds. pages_from c (guard c) (beside t [] ds) k o q (first q)) (sym (bare (bytes_of t k) q))
      ∙ pages_same t k o q (first q) al h.fits (omega arith) (first-last q _ h.fits)
  commute t al (f_fill_page {k = k} {o = o} {q = q} {i = i} {r = r} he w l h) g =
      ap (λ s. apply c (guard c) s (fill_page k o q i r)) (guard_is t w) ∙ fill_same t al k o q i r h g
  commute t al (f_stored {k = k} {o = o} {q = q} {i = i} pl w h) g =
      ap (λ s. apply c (guard c) s (stored k o q i)) (guard_is t w)
      ∙ pages_same t k o q (suc i) al h.change.fits (let z = h.from in omega arith) (let z = h.to in omega arith)
  commute t al (f_cut_done {k = k} {o = o} {q = q} pl w h) g =
      ap (λ s. apply c (guard c) s (cut_done k o q)) (guard_is t w) ∙ finish_same t k o q al h.fits
  commute t al (f_keep_pages {k = k} {o = o} {q = q} {i = i} pl w h s l) g =
      ap (λ s. apply c (guard c) s (keep_pages k o q i)) (guard_is t w)
      ∙ (ap (λ ds. finish_change c (guard c) (beside t [] ds) k o (before q i)) (kept_digests (bytes_of t k) q i s l h.to)
      ∙ finish_same t k o (before q i) al (before_change _ _ k o q i h s l).fits)
  commute t al (f_give_up he f) g = refl
  commute t al (f_saving he w z) g = rw (map-id (map (digests_of c) t.contents))
  commute t al (f_loading he z hd hp) g = ap (λ (f : Files (List (List ℕ))). loaded c (guard c) (guard_of c t) f) g
