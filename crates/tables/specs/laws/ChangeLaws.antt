-- A file's digests with new ones among them: rows moved and overwritten at its first page are the definition's.
-- Assumes nothing.
use Rattle.std.specs.Prelude.{◌≡◌, false, ℕ, zero, suc, ◌+◌, ◌-◌, ◌*◌, ◌≤◌, ◌<◌, max, eqb, leb, ltb, take, drop, set}
use Rattle.std.proofs.Math.Path.{refl, ap, ap₂, sym}
use Rattle.std.proofs.Common.{◌∙◌, true≢false, add-zero, take-take, get_or-take, eqb-true, eq-eqb, leb-true, leb-false, ltb-true, ltb-false, le-leb, lt-ltb}
use mathlib.Core.List.{List, [], ◌∷◌}
use native.Mathlib.Omega.{arith}
use Rattle.std.proofs.Math.ListN.{length, get_or, replicate, length-replicate, get_or-replicate, get_or-eq_default}
use Rattle.std.proofs.Math.Seq.{ext_get_or, take-set-lt}
use Rattle.std.proofs.lemmas.List.{set_split}
use Rattle.lists.specs.Pick.{pick, pick_ind, pick_true, pick-false}
use Rattle.lists.specs.Equal.{Is, is_t, is_f, is, and_both}
use Rattle.lists.specs.Cells.{Where, low, mid, high, range, inside, length-tab, get_or-tab, tab_cong}
use Rattle.lists.specs.Parts.{part, overwrite}
use Rattle.lists.specs.PartLaws.{length_part, length_overwrite, get_d_part, part-before, part-after, part_within}
use Rattle.lists.specs.PartLaws.{overwrite_all, overwrite_none, move_none, move_same}
use Rattle.lists.specs.RowLaws.{length-rows}
use Rattle.filesystem.specs.Tables.{Node, no_node, node_at, with_size, set_size, pages_for, page_total, NODES, PAGES}
use Rattle.filesystem.specs.SoundLaws.{page_total-append}
use Rattle.filesystem.specs.Image.{divide}
use Rattle.filesystem.specs.Digests.{replaced}
use Rattle.memory.specs.Layout.{mem_of, digest_width, data_size, new_digests, with_nodes, with_digests}
use Rattle.memory.specs.laws.MemLaws.{length-nodes, length_digests}
use Rattle.tables.specs.declared.Span.{Span}
use Rattle.tables.specs.declared.Resize.{Resize}
use Rattle.tables.specs.View.{view_of, with_files, with_change, staged_digests, Changeable, Growable, Spans, Resizes}
use Rattle.tables.specs.View.{Room, changed_rows}
use Rattle.tables.specs.laws.RowsInUse.{count-nodes, node_front_lem}
use Rattle.tables.specs.laws.ContentLaws.{total-split, total-part, divide-at, divide-set, front_kept, moved-there}

-- what stands in a place, whatever would be read past the end
get_d_any : {A : Type 0} (l : List A) (i : ℕ) (a b : A) → i < length l → get_or l i a ≡ get_or l i b
get_d_any [] i a b h = absurd (omega arith)
get_d_any (x ∷ l) zero a b h = refl
get_d_any (x ∷ l) (suc i) a b h = get_d_any l i a b (omega arith)

-- the places of an overwrite
module _ {A : Type 0} (l : List A) (at : ℕ) (x : List A) (d : A) (fits : at + length x ≤ length l) where
  one : (i : ℕ) → part i 1 (overwrite l at x) ≡ part i 1 l → get_or (overwrite l at x) i d ≡ get_or l i d
  one i e =
      let z : i + 0 ≡ i = add-zero i in
      rw z at (sym (get_d_part i 1 0 (overwrite l at x) d (omega arith)) ∙ ap (λ (r : List A). get_or r 0 d) e
      ∙ get_d_part i 1 0 l d (omega arith))

  pub over_before : (i : ℕ) → i < at → get_or (overwrite l at x) i d ≡ get_or l i d
  over_before i h = one i (part-before l at x i 1 (omega arith) fits)

  pub over_behind : (i : ℕ) → at + length x ≤ i → get_or (overwrite l at x) i d ≡ get_or l i d
  over_behind i h = one i (part-after l at x i 1 h fits)

  pub over_all : part at (length x) (overwrite l at x) ≡ x
  over_all =
      part_within l at x at (length x) 0 (sym (add-zero at)) (omega arith) fits
      ∙ overwrite_all (part at (length x) l) x (length_part at (length x) l fits)

  pub over_inside : (i : ℕ) → at ≤ i → i < at + length x → get_or (overwrite l at x) i d ≡ get_or x (i - at) d
  over_inside i h g =
      let e : at + (i - at) ≡ i = omega arith in
      sym (rw e at (get_d_part at (length x) (i - at) (overwrite l at x) d (omega arith)))
      ∙ ap (λ (r : List A). get_or r (i - at) d) over_all

-- rows overwritten are the definition's new list
module _ (blank : List ℕ) (x y : List (List ℕ)) (size from : ℕ) (new : List (List ℕ)) where
  pub replaced_cells : length x ≡ pages_for size → from + length new ≤ length x
      → ((i : ℕ) → i < length x → inside from (length new) i ≡ false → get_or x i [] ≡ get_or y i blank)
      → overwrite x from new ≡ replaced blank y size from new
  unfolding replaced
  replaced_cells e f other = ext_get_or [] _ _ (length_overwrite x from new f ∙ e ∙ sym (length-tab (pages_for size) _))
      (λ i h. cell i (rw (length_overwrite x from new f) at h))
    where
      cell : (i : ℕ) → i < length x
          → get_or (overwrite x from new) i [] ≡ get_or (replaced blank y size from new) i []
      cell i h = go (is (leb from i)) (is (ltb i (from + length new)))
        where
          at_cell : get_or (replaced blank y size from new) i [] ≡ pick (inside from (length new) i)
              (get_or new (i - from) []) (get_or y i blank)
          at_cell = get_or-tab (pages_for size) _ i [] (omega arith)

          out : inside from (length new) i ≡ false → get_or x i [] ≡ get_or (replaced blank y size from new) i []
          out n = other i h n ∙ sym (at_cell ∙ pick-false (inside from (length new) i) _ _ n)

          go : Is (leb from i) → Is (ltb i (from + length new)) → get_or (overwrite x from new) i [] ≡ get_or
              (replaced blank y size from new) i []
          go (is_t a) (is_t b) =
              over_inside x from new [] f i (leb-true _ _ a) (ltb-true _ _ b)
              ∙ sym (at_cell ∙ pick_true (inside from (length new) i) _ _ (and_both _ _ a b))
          go (is_t a) (is_f b) = over_behind x from new [] f i (ltb-false _ _ b) ∙ out (rw (a, b))
          go (is_f a) b = over_before x from new [] f i (leb-false _ _ a) ∙ out (rw a)

-- new rows that are what stands there without them
module _ (blank : List ℕ) (y : List (List ℕ)) where
  same_cell : (from : ℕ) (new : List (List ℕ)) (i : ℕ)
      → (from ≤ i → i < from + length new → get_or new (i - from) [] ≡ get_or y i blank)
      → pick (inside from (length new) i) (get_or new (i - from) []) (get_or y i blank) ≡ get_or y i blank
  same_cell from new i same = go (range from (length new) i)
    where
      go : Where from (length new) i
          → pick (inside from (length new) i) (get_or new (i - from) []) (get_or y i blank) ≡ get_or y i blank
      go (low _ e) = pick-false _ _ _ e
      go (mid h g e) = pick_true _ _ _ e ∙ same h g
      go (high _ _ e) = pick-false _ _ _ e

  replaced_same : (size from : ℕ) (new : List (List ℕ))
      → ((i : ℕ) → from ≤ i → i < from + length new → get_or new (i - from) [] ≡ get_or y i blank)
      → replaced blank y size from new ≡ replaced blank y size 0 []
  unfolding replaced
  replaced_same size from new same = tab_cong (pages_for size) _ _
      (λ i _. same_cell from new i (same i) ∙ sym (same_cell 0 [] i (λ _ h. absurd (omega arith))))

-- the rows behind file k moved to where its pages will end, and the new rows put among its own
module _ (blank : List ℕ) (ns : List Node) (ds : List (List ℕ)) (k size from : ℕ) (new : List (List ℕ)) (f p q r : ℕ)
  where
    record Placed : Type 0 where
      known : k < length ns
      is_first : f ≡ page_total (take k ns)
      is-old : p ≡ pages_for (node_at ns k).size
      is_new : q ≡ pages_for size
      is_rest : r ≡ page_total (drop (suc k) ns)
      fits-before : f + p + r ≤ length ds
      fits_after : f + q + r ≤ length ds
      begins : from ≤ p
      ends : from + length new ≤ q
      covered : q ≤ max p (from + length new)

    moved : List (List ℕ)
    moved = overwrite ds (f + q) (part (f + p) r ds)

    module _ (h : Placed) where
      rest-length : length (part (f + p) r ds) ≡ r
      rest-length = length_part (f + p) r ds h.fits-before

      moved_length : length moved ≡ length ds
      unfolding moved
      moved_length = let n = rest-length in let g = h.fits_after in length_overwrite ds (f + q) (part (f + p) r ds)
          (omega arith)

      new_fits : f + from + length new ≤ length moved
      new_fits = let n = moved_length in let g = h.fits_after in let e = h.ends in omega arith

      rest-fits : f + q + length (part (f + p) r ds) ≤ length ds
      rest-fits = let n = rest-length in let g = h.fits_after in omega arith

      front : take f (overwrite moved (f + from) new) ≡ take f ds
      unfolding moved
      front = front_kept moved (f + from) new f (omega arith) new_fits ∙ front_kept ds (f + q) (part (f + p) r ds) f
          (omega arith) rest-fits

      back : part (f + q) r (overwrite moved (f + from) new) ≡ part (f + p) r ds
      unfolding moved
      back =
          let e = h.ends in
          part-after moved (f + from) new (f + q) r (omega arith) new_fits
          ∙ moved-there ds (f + q) (f + p) r h.fits-before h.fits_after

      own : part f q (overwrite moved (f + from) new) ≡ overwrite (part f q ds) from new
      unfolding moved
      own =
          let n = moved_length in
          let g = h.fits_after in
          part_within moved (f + from) new f q from refl h.ends (omega arith)
          ∙ ap (λ (l : List (List ℕ)). overwrite l from new) (part-before ds (f + q) (part (f + p) r ds) f q
          (omega arith)
          rest-fits)

      -- what is not new was there
      kept : (i : ℕ) → i < length (part f q ds) → inside from (length new) i ≡ false
          → get_or (part f q ds) i [] ≡ get_or (part f p ds) i blank
      kept i l n = go (is (ltb i p))
        where
          size-own : length (part f q ds) ≡ q
          size-own = let g = h.fits_after in length_part f q ds (omega arith)

          go : Is (ltb i p) → get_or (part f q ds) i [] ≡ get_or (part f p ds) i blank
          go (is_t a) =
              let b : i < p = ltb-true _ _ a in
              let e = size-own in
              let g = h.fits-before in
              get_d_part f q i ds [] (omega arith) ∙ get_d_any ds (f + i) [] blank (omega arith)
              ∙ sym (get_d_part f p i ds blank b)
          go (is_f a) =
              let b : p ≤ i = ltb-false _ _ a in
              let e = size-own in
              let g = h.begins in
              let d = h.covered in
              absurd (true≢false (sym (and_both _ _ (le-leb from i (omega arith))
              (lt-ltb i (from + length new) (omega arith))) ∙ n))

      contents_changed : (y : Node) → y.size ≡ size
          → divide (set ns k y) (overwrite moved (f + from) new) ≡ set (divide ns ds) k
          (replaced blank (get_or (divide ns ds) k []) size from new)
      contents_changed y e =
          let g = h.fits_after in
          let l : length (part f q ds) ≡ q = length_part f q ds (omega arith) in
          let z = h.ends in
          divide-set ns k h.known y ds (overwrite moved (f + from) new) f p q h.is_first h.is-old (h.is_new
          ∙ ap pages_for (sym e)) front (ap (λ j. part (f + q) j (overwrite moved (f + from) new)) (sym h.is_rest)
          ∙ back ∙ ap (λ j. part (f + p) j ds) h.is_rest)
          ∙ ap (set (divide ns ds) k)
          (own
          ∙ replaced_cells blank (part f q ds) (part f p ds) size from new (l ∙ h.is_new) (omega arith) kept
          ∙ ap (λ (x : List (List ℕ)). replaced blank x size from new) (ap₂ (λ i j. part i j ds) h.is_first
          h.is-old
          ∙ sym (divide-at ns k h.known ds)))

-- the page total with node k of another size
pub total-set : (ns : List Node) (k size : ℕ) → k < length ns
    → page_total (set_size ns k size) ≡ page_total (take k ns) + (pages_for size + page_total (drop (suc k) ns))
unfolding page_total set_size
total-set ns k size h = ap page_total (set_split ns k _ h) ∙ page_total-append (take k ns) _

-- the first n nodes, node k of another size
front-size : (l : List Node) (n k size : ℕ) → k < n → take n (set_size l k size) ≡ set_size (take n l) k size
unfolding set_size node_at
front-size l n k size h = take-set-lt n l k _ h ∙ ap (λ (y : Node). set (take n l) k (with_size size y))
    (sym (get_or-take n l k no_node h))

-- how many staged digests there are
length-staged : (count : ℕ) (s : List ℕ) → length (staged_digests count s) ≡ count
unfolding staged_digests
length-staged count s = length-rows digest_width count (part data_size (count * digest_width) s)

-- The span of node k, by where its pages begin and how many they are.
spans_at : (m : List ℕ) (n k : ℕ) {f p : ℕ} → k < n → n ≤ NODES → f ≡ page_total (take k (mem_of m).nodes)
    → p ≡ pages_for (node_at (mem_of m).nodes k).size
    → Spans (mem_of m).nodes n k (record { first = f; end = f + p; total = page_total (take n (mem_of m).nodes) })
spans_at m n k h g ef ep =
    let l = length-nodes m in
    record {
      known = h;
      fits = g;
      begins = ef;
      ends = rw ep;
      within = omega (
        arith,
        ef,
        ep,
        total-part (mem_of m).nodes
            n k h (omega arith),
      );
      all = refl;
    }

-- Node k among the first n, by its span.
module _ (m : List ℕ) {n k : ℕ} {s : Span} (h : Spans (mem_of m).nodes n k s) (size : ℕ) where
  abbrev ns : List Node
  ns = take n (mem_of m).nodes

  in_use : k < length ns
  in_use = rw (count-nodes m n h.fits) h.known

  is_first : s.first ≡ page_total (take k ns)
  is_first = h.begins ∙ ap page_total (sym (take-take k n (mem_of m).nodes (omega (arith, h.known))))

  is_end_lem : s.end ≡ s.first + pages_for (node_at ns k).size
  is_end_lem = rw (node_front_lem n (mem_of m).nodes k h.known) h.ends

  is_rest : s.total - s.end ≡ page_total (drop (suc k) ns)
  is_rest = omega (arith, total-split ns k in_use, is_first, is_end_lem, h.all)

  -- the page total with node k of another size
  pub total-with : s.first + pages_for size + (s.total - s.end) ≡ page_total (set_size ns k size)
  total-with = omega (arith, total-set ns k size in_use, is_first, is_rest)

-- A change of the size of node k, by its rows.
module _ (m : List ℕ) {n k size : ℕ} {z : Resize} (h : Resizes (mem_of m).nodes n k size z) where
  abbrev used : List Node
  used = take n (mem_of m).nodes

  abbrev end : ℕ
  end = z.first + z.old

  abbrev rest : ℕ
  rest = page_total used - end

  span : Spans (mem_of m).nodes n k (record { first = z.first; end = end; total = page_total used })
  span = spans_at m n k h.known h.fits h.begins h.is-old

  old_pages : z.old ≡ pages_for (node_at used k).size
  old_pages = rw (node_front_lem n (mem_of m).nodes k h.known) h.is-old

  few_moved : z.behind ≤ rest
  few_moved = rw h.moves (pick_ind (λ (x : ℕ). x ≤ rest) (eqb z.old z.new) (λ _. omega arith)
      (λ _. omega arith))

  -- where the rows have room: what the change asks of them, and what it makes of the view
  module _ (before : page_total used ≤ PAGES) (after : page_total (set_size used k size) ≤ PAGES) where
    room : {from count : ℕ} → from ≤ z.old → from + count ≤ z.new → count ≤ new_digests → Room z from count
    room begins ends few = record {
      before_fits = omega (arith, few_moved, span.within);
      after_fits = omega (arith, few_moved, total-with m span size, h.is_new);
      begins = begins;
      ends = ends;
      few = few;
    }

    -- where none is moved, all behind would stand where they are
    moved-rows : (ds : List (List ℕ)) → length ds ≡ PAGES
        → overwrite ds (z.first + z.new) (part end z.behind ds)
        ≡ overwrite ds (z.first + pages_for size) (part end rest ds)
    moved-rows ds l = go (is (eqb z.old z.new))
      where
        go : Is (eqb z.old z.new)
            → overwrite ds (z.first + z.new) (part end z.behind ds)
            ≡ overwrite ds (z.first + pages_for size) (part end rest ds)
        go (is_f e) = ap₂ (λ (i j : ℕ). overwrite ds (z.first + i) (part end j ds)) h.is_new
            (h.moves ∙ pick-false _ _ _ e)
        go (is_t e) =
            let w : end ≡ z.first + pages_for size = omega (arith, h.is_new, eqb-true z.old z.new e) in
            ap (λ (j : ℕ). overwrite ds (z.first + z.new) (part end j ds)) (h.moves ∙ pick_true _ _ _ e)
            ∙ move_none [] ds (z.first + z.new) end
            ∙ sym (move_same [] ds end rest (omega (arith, l, span.within)))
            ∙ ap (λ (i : ℕ). overwrite ds i (part end rest ds)) w

    view_rows : (blank : List ℕ) (from : ℕ) (x : List (List ℕ)) → from ≤ z.old → from + length x ≤ z.new
        → z.new ≤ max z.old (from + length x) → (o : ℕ)
        → view_of n o (changed_rows k size from x z (mem_of m)) ≡ with_change blank k size from x (view_of n o (mem_of m))
    unfolding view_of with_change changed_rows moved set_size node_at
    view_rows blank from x begins ends covered o =
        let ds = (mem_of m).digests in
        let f = z.first in
        let p = pages_for (node_at used k).size in
        let q = pages_for size in
        let r = page_total (drop (suc k) used) in
        let w : Placed blank used ds k size from x f p q r = record {
          known = in_use m span size;
          is_first = is_first m span size;
          is-old = refl;
          is_new = refl;
          is_rest = refl;
          fits-before = omega (arith, is_end_lem m span size, is_rest m span size, length_digests m, span.within);
          fits_after = omega (arith, is_rest m span size, length_digests m, total-with m span size);
          begins = rw old_pages at begins;
          ends = rw h.is_new at ends;
          covered = rw (old_pages, h.is_new) at covered;
        } in
        let e = front-size (mem_of m).nodes n k size h.known in
        ap₂ (λ a b. with_files a b (view_of n o (mem_of m))) e
        (ap₂ (λ a y. divide a (overwrite y (f + from) x)) e (moved-rows ds (length_digests m)
        ∙ (λ i. overwrite ds (f + q) (part (is_end_lem m span size i) (is_rest m span size i) ds)))
        ∙ contents_changed blank used ds k size from x f p q r w (with_size size (node_at used k)) refl)

  -- A change that can be done, with staged digests.
  module _ {from count : ℕ} (g : Changeable used k size from count) where
    pub change_room : Room z from count
    change_room = room g.room_before g.room_after (rw old_pages g.begins) (rw h.is_new g.ends) g.few

    pub view_change : (blank : List ℕ) (o : ℕ)
        → view_of n o (changed_rows k size from (staged_digests count (mem_of m).staged) z (mem_of m))
        ≡ with_change blank k size from (staged_digests count (mem_of m).staged) (view_of n o (mem_of m))
    view_change blank o =
        let x = staged_digests count (mem_of m).staged in
        let l : length x ≡ count = length-staged count (mem_of m).staged in
        view_rows g.room_before g.room_after blank from x (rw old_pages g.begins)
        (rw (l, h.is_new) g.ends) (rw (l, old_pages, h.is_new) g.covered) o

  -- A growth that can be done: each added page has the digest `blank`.
  module _ (g : Growable used k size) where
    grows : z.old ≤ z.new
    grows = rw (old_pages, h.is_new) g.grows

    pub grow_room : Room z z.old 0
    grow_room = room g.room_before g.room_after (omega arith) (omega (arith, grows)) (omega arith)

    own-length : length (get_or (divide used (mem_of m).digests) k []) ≡ z.old
    own-length =
        let ds = (mem_of m).digests in
        let p = pages_for (node_at used k).size in
        let r = grow_room.before_fits in
        ap length (divide-at used k (in_use m span size) ds)
        ∙ length_part (page_total (take k used)) p ds
        (omega (arith, old_pages, is_first m span size, length_digests m))
        ∙ sym old_pages

    pub view_grow : (blank : List ℕ) (o : ℕ)
        → view_of n o (changed_rows k size z.old (replicate (z.new - z.old) blank) z (mem_of m))
        ≡ with_change blank k size 0 [] (view_of n o (mem_of m))
    unfolding view_of with_change
    view_grow blank o =
        let all = divide used (mem_of m).digests in
        let y = get_or all k [] in
        let x = replicate (z.new - z.old) blank in
        let l : length x ≡ z.new - z.old = length-replicate (z.new - z.old) blank in
        let e = own-length in
        let v = grows in
        view_rows g.room_before g.room_after blank z.old x (omega arith) (omega arith) (omega arith) o
        ∙ ap (λ (r : List (List ℕ)). with_files (set_size used k size) (set all k r) (view_of n o (mem_of m)))
        (replaced_same blank y size z.old x (λ i a b. get_or-replicate (z.new - z.old) (i - z.old) blank []
        (omega arith) ∙ sym (get_or-eq_default y blank (omega arith))))

-- A growth inside the last page: the rows are as they were.
module _ (m : List ℕ) (n k size : ℕ) (known : k < n) (fits : n ≤ NODES)
    (same : pages_for size ≡ pages_for (node_at (mem_of m).nodes k).size) where
  unmoved : Resize
  unmoved = record {
    first = page_total (take k (mem_of m).nodes);
    old = pages_for (node_at (mem_of m).nodes k).size;
    new = pages_for size;
    behind = 0;
  }

  unmoved_rows : Resizes (mem_of m).nodes n k size unmoved
  unfolding unmoved
  unmoved_rows = record {
    known = known;
    fits = fits;
    begins = refl;
    is-old = refl;
    is_new = refl;
    moves = sym (pick_true _ _ _ (eq-eqb _ _ (sym same)));
  }

  pub view_within : Growable (take n (mem_of m).nodes) k size → (blank : List ℕ) (o : ℕ)
      → view_of n o (with_nodes (set_size (mem_of m).nodes k size) (mem_of m))
      ≡ with_change blank k size 0 [] (view_of n o (mem_of m))
  unfolding unmoved changed_rows
  view_within g blank o =
      let ds = (mem_of m).digests in
      let p = pages_for (node_at (mem_of m).nodes k).size in
      let f = page_total (take k (mem_of m).nodes) in
      let less : pages_for size - p ≡ 0 = omega arith in
      let none : replicate (pages_for size - p) blank ≡ [] = ap (λ (i : ℕ). replicate i blank) less in
      ap (λ (x : List (List ℕ)). view_of n o (with_nodes (set_size (mem_of m).nodes k size) (with_digests x (mem_of m))))
      (sym (ap (λ (x : List (List ℕ)). overwrite (overwrite ds (f + pages_for size) (part (f + p) 0 ds)) (f + p) x) none
      ∙ overwrite_none [] _ (f + p) ∙ move_none [] ds (f + pages_for size) (f + p)))
      ∙ view_grow m unmoved_rows g blank o
