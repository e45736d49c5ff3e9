-- What a run of the tree keeps, over the pages M and the images N of the whole history: each file's pages and each save's image are among them.
-- Assumes that the rules come to fitting moves and keep the tables valid.
use Rattle.std.specs.Prelude.{◌≡◌, ◌⊎◌, Bool, eqb, ltb, leb}
use Rattle.std.proofs.Math.Path.{refl, sym, subst}
use Rattle.std.proofs.Common.{ap, ap₂, ◌∙◌, inl, inr, true≢false, arith}
use Rattle.std.proofs.Math.Bool.{true, false}
use mathlib.Core.List.Memᴰ
use mathlib.Core.List.{List, [], ◌∷◌, ◌++◌, map, map-append, Memᴰ}
use Rattle.std.proofs.Math.Option.{Option, some, none}
use Prim.Native.Nat.{ℕ, suc, ◌+◌, ◌-◌, ◌*◌, ◌≤◌, ◌<◌}
use Rattle.std.proofs.Math.ListN.{length, get_or, set}
use borrow.Author.Tests.{eqb-true, eqb-false, ltb-false}
use Rattle.lists.specs.Pick.{pick, pick_ind}
use Rattle.lists.specs.Equal.{Is, is_t, is_f, is, equal, equal_true}
use Rattle.lists.specs.All.{All, both, none as all_none, all_append, all_take, all_drop, all_set, all-at}
use Rattle.lists.specs.Search.{without}
use Rattle.lists.specs.Maps.{map-set, map-without}
use Rattle.lists.specs.LittleEndian.{encode}
use Rattle.lists.specs.FormLaws.{some≢none}
use Rattle.filesystem.specs.Tables.{Node, node_at, pages_for, set_size}
use Rattle.filesystem.specs.Image.{saved, flatten, print}
use Rattle.rules.specs.Pages.{page_of, Change, writing, shrinking, growing, first, last, fetches, size_sent, cuts, bytes_after, size_after, FitsSize, added_by, before}
use Rattle.rules.proofs.PageLaws.{Where, low, mid, high, range, length-after, first-last, after_apart, apart_old, page_past, before-first, before_last, before_page, before_uncut}
use Rattle.rules.proofs.FullLaws.{before_change}
use Rattle.rules.specs.Requests.{asked, store_request, cut_request, Pending, idle, reading, fetching, storing, cutting}
use Rattle.rules.specs.Skeleton.{Config, Event}
use Rattle.rules.specs.Rules.{Move}
use Rattle.machine.specs.Machine.{Files, State, Result, files, size_at, descriptor_at, read_on, finish_change, pages_stored, ask_store, on_page, pages_from, cleared, apply}
use Rattle.rules.specs.Valid.{ValidNodes, Starts, Fits, f_refuse, f_halt, f_send, f_finish, f_add, f_delete, f_read_page, f_begin, f_fill_page, f_stored, f_cut_done, f_keep_pages, f_give_up, f_saving, f_loading, f_remap}
use Rattle.machine.specs.Tree.{Saved, lookup, go_back, digests_of, tree}
use Rattle.machine.specs.History.{stored_page, page_added, page_out, image_given, image_out}
use Rattle.machine.proofs.Simulation.{Aligned, aligned_at}

pub stored_page_lem : (d i size : ℕ) (p : List ℕ) → stored_page (store_request d i size p) ≡ p ∷ []
unfolding stored_page store_request encode pick
stored_page_lem d i size p = refl

module _ (c : Config) (M N : List ℕ → Type 0) where
  -- every page of a file is of the history
  abbrev pub Known : List ℕ → Type 0
  Known b = (i : ℕ) → i < pages_for (length b) → M (page_of b i)

  pub record Good (f : Files (List ℕ)) : Type 0 where
    pub aligned : Aligned c f.nodes f.contents
    pub known : All Known f.contents

  abbrev pub image_of_files : Files (List ℕ) → List ℕ
  image_of_files f = print (saved c.width) (f.nodes, flatten (map (digests_of c) f.contents))

  pub record GoodSave (s : Saved) : Type 0 where
    pub good : Good s.files
    pub valid : ValidNodes c.width s.files.nodes
    pub image : N (image_of_files s.files)
    pub sealed : s.digest ≡ c.digest (image_of_files s.files)

  -- the pages of a change that are stored so far, those below `end`
  abbrev pub StoredTo : List ℕ → Change → ℕ → Type 0
  StoredTo b q end = (j : ℕ) → first q ≤ j → j < end → M (page_of (bytes_after q b) j)

  -- and the page that a growth adds
  abbrev pub Added : Change → ℕ → Type 0
  Added q size = (p : List ℕ) → Memᴰ p (added_by q size) → M p

  abbrev pub SoFar : List (List ℕ) → Pending → Type 0
  SoFar xs idle = Unit {0}
  SoFar xs (asked x) = Unit {0}
  SoFar xs (reading k o p n i) = Unit {0}
  SoFar xs (fetching k o q i) = StoredTo (get_or xs k []) q i
  SoFar xs (storing k o q i) = StoredTo (get_or xs k []) q (suc i)
  SoFar xs (cutting k o q) = StoredTo (get_or xs k []) q (last q) × Added q (length (get_or xs k []))

  pub record Kept (t : State (tree c)) : Type 0 where
    pub good : Good (files c (tree c) t)
    pub sofar : SoFar t.contents t.skeleton.pending
    pub saves : All GoodSave t.saves

  -- the history has the page that an answer sends
  abbrev pub Sent : Result (tree c) → Type 0
  Sent r = (p : List ℕ) → Memᴰ p (page_out r.state.skeleton r.outcome.answer) → M p

  abbrev Keeps : Result (tree c) → Type 0
  Keeps r = Sent r → Kept r.state

  starts_sofar : (xs : List (List ℕ)) (p : Pending) → Starts p → SoFar xs p
  starts_sofar xs idle s = absurd s
  starts_sofar xs (asked x) s = tt
  starts_sofar xs (reading k o p n i) s = tt
  starts_sofar xs (fetching k o q i) s = absurd s
  starts_sofar xs (storing k o q i) s = absurd s
  starts_sofar xs (cutting k o q) s = absurd s

  pub known_blank : Known []
  unfolding pages_for
  known_blank i h = absurd (omega arith)

  pub known_at : (xs : List (List ℕ)) (k : ℕ) → All Known xs → Known (get_or xs k [])
  known_at xs k a = all-at k [] known_blank a

  add_good : (f : Files (List ℕ)) (n : Node) → n.size ≡ 0 → Good f → Good (record { nodes = f.nodes ++ (n ∷ []); contents = f.contents ++ ([] ∷ []) })
  add_good f n z g = record {
    aligned = map-append (λ n. n.size) f.nodes (n ∷ []) ∙ (ap₂ (λ a m. a ++ (m ∷ [])) g.aligned z ∙ sym (map-append length f.contents ([] ∷ [])));
    known = all_append g.known (both known_blank all_none);
  }

  delete_good : (f : Files (List ℕ)) (k : ℕ) → Good f → Good (record { nodes = without k f.nodes; contents = without k f.contents })
  unfolding without
  delete_good f k g = record {
    aligned = map-without (λ n. n.size) k f.nodes ∙ (ap (without k) g.aligned ∙ sym (map-without length k f.contents));
    known = all_append (all_take k g.known) (all_drop (suc k) g.known);
  }

  -- a page of what a change leaves is a stored one, an old one or an added one
  known-after : (q : Change) (b : List ℕ) → FitsSize q (length b) → Known b → StoredTo b q (last q) → Added q (length b) → Known (bytes_after q b)
  known-after q b f old new more j h = go (range (first q) (last q - first q) j)
    where
      h' : j < pages_for (size_after q (length b))
      h' = rw length-after at h

      fl : first q ≤ last q
      fl = first-last q (length b) f

      other : (j < first q) ⊎ (last q ≤ j) → M (page_of (bytes_after q b) j)
      other o = rw (after_apart q b j f o h') (was (apart_old q (length b) j f o h'))
        where
          was : (j < pages_for (length b)) ⊎ ((pages_for (length b) ≤ j) × (added_by q (length b) ≡ page_of [] 0 ∷ [])) → M (page_of b j)
          was (inl l) = old j l
          was (inr (l, e)) = rw (page_past b j l) (more (page_of [] 0) (rw e (Memᴰ.head refl)))

      go : Where (first q) (last q - first q) j → M (page_of (bytes_after q b) j)
      go (low a e) = other (inl a)
      go (mid a l e) = new j a (omega arith)
      go (high a l e) = other (inr (omega arith))

  finish_kept : (t : State (tree c)) → Kept t → (k o : ℕ) (q : Change) → FitsSize q (node_at t.skeleton.tables.nodes k).size
      → StoredTo (get_or t.contents k []) q (last q) → Added q (length (get_or t.contents k [])) → Kept (finish_change c (tree c) t k o q).state
  unfolding finish_change set_size
  finish_kept t v k o q f new more =
      let ns = t.skeleton.tables.nodes in
      let x = get_or t.contents k [] in
      let e : (node_at ns k).size ≡ length x = aligned_at c ns t.contents v.good.aligned k in
      record {
        good = record {
          aligned = map-set (λ n. n.size) ns k _ ∙ (ap₂ (λ a n. set a k n) v.good.aligned (rw e (sym (length-after q x))) ∙ sym (map-set length t.contents k _));
          known = all_set k _ (known-after q x (rw e at f) (known_at t.contents k v.good.known) new more) v.good.known;
        };
        sofar = tt;
        saves = v.saves;
      }

  -- what is not cut adds none
  uncut_adds : (q : Change) (size : ℕ) → cuts q ≡ false → added_by q size ≡ []
  unfolding cuts added_by
  uncut_adds (writing p d) size e = refl
  uncut_adds (shrinking n) size e = refl
  uncut_adds (growing n) size e = absurd (true≢false e)

  pages_stored-kept : (t : State (tree c)) → Kept t → (k o : ℕ) (q : Change) → FitsSize q (node_at t.skeleton.tables.nodes k).size
      → StoredTo (get_or t.contents k []) q (last q) → Keeps (pages_stored c (tree c) t k o q)
  unfolding pages_stored page_out stored_page page_added cut_request pick
  pages_stored-kept t v k o q f new =
      let ns = t.skeleton.tables.nodes in
      let e₂ : (node_at ns k).size ≡ length (get_or t.contents k []) = aligned_at c ns t.contents v.good.aligned k in
      pick_ind Keeps (cuts q)
      (λ e s. record { good = v.good; sofar = (new, λ p m. s p (subst (λ n. Memᴰ p (added_by q n)) (sym e₂) m)); saves = v.saves })
      (λ e s. finish_kept t v k o q f new (λ p m. absurd (Memᴰ.not-nil (rw (uncut_adds q _ e) at m))))

  store_kept : (t : State (tree c)) → Kept t → (k o : ℕ) (q : Change) (i : ℕ) (r : List ℕ) → StoredTo (get_or t.contents k []) q i
      → Keeps (ask_store c (tree c) t k o q i r)
  unfolding ask_store page_out page_added
  store_kept t v k o q i r old s = record { good = v.good; sofar = λ j a b. go j a b (is (eqb j i)); saves = v.saves }
    where
      page : List ℕ
      page = page_of (bytes_after q (get_or t.contents k [])) i

      go : (j : ℕ) → first q ≤ j → j < suc i → Is (eqb j i) → M (page_of (bytes_after q (get_or t.contents k [])) j)
      go j a b (is_t e) =
          rw (eqb-true j i e)
          (s page (rw (stored_page_lem (descriptor_at c (tree c) t o) i (size_sent q (size_at c (tree c) t k) i) page) (Memᴰ.head refl)))
      go j a b (is_f e) = let z : j ≡ i → ⊥ = eqb-false j i e in old j a (omega arith)

  pages-kept : (t : State (tree c)) → Kept t → (k o : ℕ) (q : Change) (i : ℕ) → FitsSize q (node_at t.skeleton.tables.nodes k).size → i ≤ last q
      → StoredTo (get_or t.contents k []) q i → Keeps (pages_from c (tree c) t k o q i)
  unfolding pages_from on_page
  pages-kept t v k o q i f l old =
      pick_ind Keeps (ltb i (last q))
      (λ e. pick_ind Keeps (fetches q _ i) (λ e₂ s. record { good = v.good; sofar = old; saves = v.saves }) (λ e₂. store_kept t v k o q i [] old))
      (λ e. let z : last q ≤ i = ltb-false _ _ e in pages_stored-kept t v k o q f (λ j a b. old j a (omega arith)))

  -- the saves that a digest finds are good
  pub lookup_good : (ss : List Saved) (d : List ℕ) → All GoodSave ss → (s : Saved) → lookup ss d ≡ some s → GoodSave s × (s.digest ≡ d)
  unfolding lookup pick
  lookup_good [] d a s e = absurd (some≢none s (sym e))
  lookup_good (x ∷ ss) d (both g a) s e = go (equal x.digest d) refl (lookup_good ss d a s) e
    where
      go : (b : Bool) → equal x.digest d ≡ b → (lookup ss d ≡ some s → GoodSave s × (s.digest ≡ d)) → pick b (some x) (lookup ss d) ≡ some s
          → GoodSave s × (s.digest ≡ d)
      go true q ih f = let z : x ≡ s = cc in (subst GoodSave z g, sym (ap (λ y. y.digest) z) ∙ equal_true _ _ q)
      go false q ih f = ih f

  pub back_good : (o : Option Saved) (f : Files (List ℕ)) → ((s : Saved) → o ≡ some s → GoodSave s) → Good f → Good (go_back o f)
  unfolding go_back
  back_good none f h g = g
  back_good (some s) f h g = (h s refl).good

  -- a move keeps it, where the nodes are valid and the image that it gives is of the history
  pub keeps : (t : State (tree c)) → Kept t → ValidNodes c.width t.skeleton.tables.nodes → {m : Move} {e : Event} → Fits c t.skeleton e m
      → ((p : List ℕ) → Memᴰ p (image_out e (apply c (tree c) t m).outcome) → N p) → Keeps (apply c (tree c) t m)
  unfolding apply image_out image_given
  keeps t v h (f_refuse f) n s = v
  keeps t v h (f_halt x y f) n s = record { good = v.good; sofar = tt; saves = v.saves }
  keeps t v h (f_send {p = p} x st kd) n s = record { good = v.good; sofar = starts_sofar t.contents p st; saves = v.saves }
  keeps t v h (f_finish pl x z) n s = record { good = record { aligned = z ∙ v.good.aligned; known = v.good.known }; sofar = tt; saves = v.saves }
  keeps t v h (f_add {n = m} pl z x) n s = record { good = add_good (files c (tree c) t) m z v.good; sofar = tt; saves = v.saves }
  keeps t v h (f_delete {k = k} pl x) n s = record { good = delete_good (files c (tree c) t) k v.good; sofar = tt; saves = v.saves }
  keeps t v h (f_remap pl) n s = record { good = v.good; sofar = tt; saves = v.saves }
  keeps t v h (f_read_page {k = k} {o = o} {p = p} {n = m} {i = i} {r = r} he w l x) n s =
      pick_ind Keeps (equal r (page_of (get_or t.contents k []) i))
      (λ e. unfold read_on in pick_ind Keeps (leb (p + m) (i * 1024 + 1024))
      (λ e₂ s. record { good = v.good; sofar = tt; saves = v.saves })
      (λ e₂ s. record { good = v.good; sofar = tt; saves = v.saves }))
      (λ e s. record { good = v.good; sofar = tt; saves = v.saves }) s
  keeps t v h (f_begin {k = k} {o = o} {q = q} pl x) n s =
      pages-kept (cleared c (tree c) t) (record { good = v.good; sofar = v.sofar; saves = v.saves })
      k o q (first q) x.fits (first-last q _ x.fits) (λ j a b. absurd (omega arith)) s
  keeps t v h (f_fill_page {k = k} {o = o} {q = q} {i = i} {r = r} he w l x) n s =
      pick_ind Keeps (equal r (page_of (get_or t.contents k []) i))
      (λ e. store_kept t v k o q i r (subst (SoFar t.contents) w v.sofar))
      (λ e s. record { good = v.good; sofar = tt; saves = v.saves }) s
  keeps t v h (f_stored {k = k} {o = o} {q = q} {i = i} pl w x) n s =
      pages-kept t v k o q (suc i) x.change.fits (let z = x.to in omega arith) (subst (SoFar t.contents) w v.sofar) s
  keeps t v h (f_cut_done {k = k} {o = o} {q = q} pl w x) n s =
      let (new, more) = subst (SoFar t.contents) w v.sofar in
      finish_kept t v k o q x.fits new more
  keeps t v h (f_keep_pages {k = k} {o = o} {q = q} {i = i} pl w x z l) n s =
      finish_kept t v k o (before q i) (before_change _ _ k o q i x z l).fits
      (λ j a b.
      let m : j < i = (let e = before_last q i z l x.to in omega arith) in
      rw (before_page q i (get_or t.contents k []) j z l x.to m)
      (subst (SoFar t.contents) w v.sofar j (let e = before-first q i in omega arith) (omega arith)))
      (λ p m. absurd (Memᴰ.not-nil (rw (uncut_adds (before q i) (length (get_or t.contents k [])) (before_uncut q i z)) at m)))
  keeps t v h (f_give_up he f) n s = record { good = v.good; sofar = tt; saves = v.saves }
  keeps t v h (f_saving he w z) n s = record { good = v.good; sofar = tt; saves = both (record { good = v.good; valid = h; image = n _ (rw he (Memᴰ.head refl)); sealed = refl }) v.saves }
  keeps t v h (f_loading {d = d} he z hd hp) n s =
      record { good = back_good (lookup t.saves d) (files c (tree c) t) (λ x e. (lookup_good t.saves d v.saves x e).0) v.good; sofar = tt; saves = v.saves }
