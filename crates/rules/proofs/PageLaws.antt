-- Laws of pages and of the calls that change them: what a change stores is what it leaves.
-- Assumes nothing.
use Rattle.std.specs.Prelude.{◌≡◌, refl, ◌⊎◌, true, false, ◌&&◌, ◌||◌, List, [], ◌∷◌, ◌++◌, ℕ, suc, ◌+◌, ◌-◌, ◌*◌, ◌/◌, ◌≤◌, ◌<◌, min, max, ltb, get_or, take}
use Rattle.std.proofs.Common.{ap, sym, ◌∙◌, inl, inr, true≢false, arith, get_or-take, ltb-true, ltb-false, lt-ltb, le-ltb}
use Rattle.std.proofs.lemmas.Bool.{false≢true}
use Rattle.std.proofs.Math.ListN.{length, get_or-eq_default}
use Rattle.std.proofs.Math.Seq.{length-take-le}
use Rattle.lists.specs.Pick.{pick, pick_true, pick-false}
use Rattle.lists.specs.Equal.{Is, is_t, is_f, is, and_fst}
pub use Rattle.lists.specs.Cells.{Where, low, mid, high, range}
use Rattle.lists.specs.Cells.{inside, tab, length-tab, get_or-tab, tab_cong, tab-append}
use Rattle.filesystem.specs.Tables.{pages_for}
use Rattle.rules.specs.Pages.{page_at, page_of, bytes_at, resized, splice, overlay, page_part, Change, writing, shrinking, growing, first, last, fetches, fill, size_sent, cuts, bytes_after, size_after, FitsSize, added_by, stores_more, before}

-- a cell of a list of cells, zero past its end
pub get_or_cells : (n : ℕ) (f : ℕ → ℕ) (j : ℕ) → get_or (tab n f) j 0 ≡ pick (ltb j n) (f j) 0
get_or_cells n f j = go (is (ltb j n))
  where
    go : Is (ltb j n) → get_or (tab n f) j 0 ≡ pick (ltb j n) (f j) 0
    go (is_t e) = get_or-tab n f j 0 (ltb-true j n e) ∙ sym (pick_true _ _ _ e)
    go (is_f e) = get_or-eq_default (tab n f) 0 {n = j} (rw length-tab (ltb-false j n e)) ∙ sym (pick-false _ _ _ e)

pub length-splice : (b : List ℕ) (p : ℕ) (d : List ℕ) → length (splice b p d) ≡ max (length b) (p + length d)
unfolding splice
length-splice b p d = length-tab _ _

pub get_or-splice : (b : List ℕ) (p : ℕ) (d : List ℕ) (j : ℕ) → get_or (splice b p d) j 0 ≡ pick (inside p (length d) j) (get_or d (j - p) 0) (get_or b j 0)
unfolding splice
get_or-splice b p d j = go (is (ltb j (max (length b) (p + length d)))) (range p (length d) j)
  where
    cell : ℕ
    cell = pick (inside p (length d) j) (get_or d (j - p) 0) (get_or b j 0)

    go : Is (ltb j (max (length b) (p + length d))) → Where p (length d) j → get_or (splice b p d) j 0 ≡ cell
    go (is_t a) w = get_or-tab _ _ j 0 (ltb-true _ _ a)
    go (is_f a) (mid l m e) = let h : max (length b) (p + length d) ≤ j = ltb-false _ _ a in absurd (omega arith)
    go (is_f a) (low l e) = let h : max (length b) (p + length d) ≤ j = ltb-false _ _ a in absurd (omega arith)
    go (is_f a) (high l m e) =
        let h : max (length b) (p + length d) ≤ j = ltb-false _ _ a in
        get_or-eq_default (splice b p d) 0 {n = j} (rw length-splice h)
        ∙ sym (pick-false _ _ _ e ∙ get_or-eq_default b 0 {n = j} (omega arith))

pub get_or_page : (b : List ℕ) (i j : ℕ) → j < 1024 → get_or (page_of b i) j 0 ≡ get_or b (i * 1024 + j) 0
unfolding page_of
get_or_page b i j h = get_or-tab 1024 _ j 0 h

-- where nothing is fetched, a byte that a write leaves alone lies past the end
unfetched : (size p : ℕ) (d : List ℕ) (i j : ℕ) → fetches (writing p d) size i ≡ false → j < 1024 → inside p (length d) (i * 1024 + j) ≡ false
    → size ≤ i * 1024 + j
unfolding fetches
unfetched size p d i j e h f =
    go (is (ltb (i * 1024) size)) (is (ltb (i * 1024) p)) (is (ltb (p + length d) (min size (i * 1024 + 1024)))) (range p (length d) (i * 1024 + j))
  where
    go : Is (ltb (i * 1024) size) → Is (ltb (i * 1024) p) → Is (ltb (p + length d) (min size (i * 1024 + 1024))) → Where p (length d) (i * 1024 + j)
        → size ≤ i * 1024 + j
    go (is_f a) b c w = let l = ltb-false (i * 1024) size a in omega arith
    go (is_t a) (is_t b) c w = absurd (true≢false (rw (a, b) at e))
    go (is_t a) (is_f b) (is_t c) w = absurd (true≢false (rw (a, b, c) at e))
    go (is_t a) (is_f b) (is_f c) (low l m) = let z : p ≤ i * 1024 = ltb-false _ _ b in absurd (omega arith)
    go (is_t a) (is_f b) (is_f c) (mid l m q) = absurd (true≢false (sym q ∙ f))
    go (is_t a) (is_f b) (is_f c) (high l m q) = let z : min size (i * 1024 + 1024) ≤ p + length d = ltb-false _ _ c in omega arith

-- The laws that the simulation asks of a change.

pub length-after : (q : Change) (b : List ℕ) → length (bytes_after q b) ≡ size_after q (length b)
unfolding bytes_after size_after resized
length-after (writing p d) b = length-splice b p d
length-after (shrinking n) b = length-tab n _
length-after (growing n) b = length-tab n _

pub first-last : (q : Change) (size : ℕ) → FitsSize q size → first q ≤ last q
unfolding first last pages_for page_at
first-last (writing p d) size h = omega arith
first-last (shrinking n) size h = omega arith
first-last (growing n) size h = omega arith

-- the page that it leaves, from the page that was
pub fill_page_lem : (q : Change) (b : List ℕ) (i : ℕ) → fill q i (page_of b i) ≡ page_of (bytes_after q b) i
unfolding fill bytes_after page_of overlay resized
fill_page_lem (writing p d) b i = tab_cong 1024 _ _ (λ j h. sym (get_or-splice b p d (i * 1024 + j) ∙ rw (get_or-tab 1024 (λ k. get_or b (i * 1024 + k) 0) j 0 h)))
fill_page_lem (shrinking n) b i =
    tab_cong 1024 _ _ (λ j h. sym (get_or_cells n (λ k. get_or b k 0) (i * 1024 + j) ∙ rw (get_or-tab 1024 (λ k. get_or b (i * 1024 + k) 0) j 0 h)))
fill_page_lem (growing n) b i =
    tab_cong 1024 _ _ (λ j h. sym (get_or_cells n (λ k. get_or b k 0) (i * 1024 + j) ∙ rw (get_or-tab 1024 (λ k. get_or b (i * 1024 + k) 0) j 0 h)))

-- the same where nothing is fetched
pub fill_blank : (q : Change) (b : List ℕ) (i : ℕ) → fetches q (length b) i ≡ false → fill q i [] ≡ page_of (bytes_after q b) i
unfolding fill bytes_after page_of overlay
fill_blank (writing p d) b i e = tab_cong 1024 _ _ (λ j h. cell j h (is (inside p (length d) (i * 1024 + j))) ∙ sym (get_or-splice b p d (i * 1024 + j)))
  where
    cell : (j : ℕ) → j < 1024 → Is (inside p (length d) (i * 1024 + j))
        → pick (inside p (length d) (i * 1024 + j)) (get_or d (i * 1024 + j - p) 0) 0 ≡ pick (inside p (length d) (i * 1024 + j)) (get_or d (i * 1024 + j - p) 0) (get_or b (i * 1024 + j) 0)
    cell j h (is_t q) = pick_true _ _ _ q ∙ sym (pick_true _ _ _ q)
    cell j h (is_f q) = pick-false _ _ _ q ∙ (sym (get_or-eq_default b 0 {n = i * 1024 + j} (unfetched (length b) p d i j e h q)) ∙ sym (pick-false _ _ _ q))
fill_blank (shrinking n) b i e = absurd (true≢false (unfold fetches in e))
fill_blank (growing n) b i e = absurd (true≢false (unfold fetches in e))

-- bytes with zeros behind: a byte of them is the old one, zero past the old end
pub resized-more : (b : List ℕ) (n : ℕ) → length b < n → (j : ℕ) → get_or (resized b n) j 0 ≡ get_or b j 0
unfolding resized
resized-more b n f j = get_or_cells n (λ k. get_or b k 0) j ∙ go (is (ltb j n))
  where
    go : Is (ltb j n) → pick (ltb j n) (get_or b j 0) 0 ≡ get_or b j 0
    go (is_t e) = pick_true _ _ _ e
    go (is_f e) =
        let z : n ≤ j = ltb-false j n e in
        pick-false _ _ _ e ∙ sym (get_or-eq_default b 0 {n = j} (omega arith))

-- a page past the end is zero
pub page_past : (b : List ℕ) (i : ℕ) → pages_for (length b) ≤ i → page_of b i ≡ page_of [] 0
unfolding page_of pages_for
page_past b i h = tab_cong 1024 _ _ (λ j l. get_or-eq_default b 0 {n = i * 1024 + j} (omega arith))

-- the other pages are as they were, zeros past the end
pub after_apart : (q : Change) (b : List ℕ) (i : ℕ) → FitsSize q (length b) → (i < first q) ⊎ (last q ≤ i) → i < pages_for (size_after q (length b))
    → page_of (bytes_after q b) i ≡ page_of b i
unfolding bytes_after first last page_of pages_for page_at size_after resized
after_apart (writing p d) b i f o m = tab_cong 1024 _ _ (λ j h. get_or-splice b p d (i * 1024 + j) ∙ cell o j h (range p (length d) (i * 1024 + j)))
  where
    cell : (i < p / 1024) ⊎ ((p + length d + 1023) / 1024 ≤ i) → (j : ℕ) → j < 1024 → Where p (length d) (i * 1024 + j)
        → pick (inside p (length d) (i * 1024 + j)) (get_or d (i * 1024 + j - p) 0) (get_or b (i * 1024 + j) 0) ≡ get_or b (i * 1024 + j) 0
    cell o j h (low a q) = pick-false _ _ _ q
    cell o j h (high a l q) = pick-false _ _ _ q
    cell (inl x) j h (mid a l q) = absurd (omega arith)
    cell (inr x) j h (mid a l q) = absurd (omega arith)
after_apart (shrinking n) b i f o m =
    tab_cong 1024 _ _ (λ j h. get_or_cells n (λ k. get_or b k 0) (i * 1024 + j) ∙ pick_true _ _ _ (lt-ltb (i * 1024 + j) n (below o j h)))
  where
    below : (i < n / 1024) ⊎ ((n + 1023) / 1024 ≤ i) → (j : ℕ) → j < 1024 → i * 1024 + j < n
    below (inl x) j h = omega arith
    below (inr x) j h = absurd (omega arith)
after_apart (growing n) b i f o m = tab_cong 1024 _ _ (λ j h. resized-more b n f (i * 1024 + j))

-- and were there before, or a growth adds them
pub apart_old : (q : Change) (size i : ℕ) → FitsSize q size → (i < first q) ⊎ (last q ≤ i) → i < pages_for (size_after q size)
    → (i < pages_for size) ⊎ ((pages_for size ≤ i) × (added_by q size ≡ page_of [] 0 ∷ []))
unfolding first last pages_for page_at size_after
apart_old (writing p d) size i f (inl x) m = inl (omega arith)
apart_old (writing p d) size i f (inr x) m = inl (omega arith)
apart_old (shrinking n) size i f (inl x) m = inl (omega arith)
apart_old (shrinking n) size i f (inr x) m = absurd (omega arith)
apart_old (growing n) size i f o m = go (is (ltb i (pages_for size)))
  where
    go : Is (ltb i (pages_for size)) → (i < pages_for size) ⊎ ((pages_for size ≤ i) × (added_by (growing n) size ≡ page_of [] 0 ∷ []))
    go (is_t e) = inl (ltb-true _ _ e)
    go (is_f e) =
        let z : pages_for size ≤ i = ltb-false _ _ e in
        inr (z, unfold added_by in pick_true _ _ _ (lt-ltb (pages_for size) (pages_for n) (omega arith)))

-- what is fetched is in the file
pub fetch_in : (q : Change) (size i : ℕ) → FitsSize q size → first q ≤ i → i < last q → fetches q size i ≡ true → i * 1024 < size
unfolding first last fetches pages_for page_at
fetch_in (writing p d) size i f l h e = ltb-true (i * 1024) size (and_fst _ _ e)
fetch_in (shrinking n) size i f l h e = omega arith
fetch_in (growing n) size i f l h e = absurd (omega arith)

-- A read: what the pages so far have given, and the part of one more. It runs from `from` to below `to`.
bytes_at-from : (b : List ℕ) (p i from to : ℕ) → p ≤ from → i * 1024 ≤ from → to ≤ i * 1024 + 1024
    → bytes_at b p (from - p) ++ bytes_at (page_of b i) (from - i * 1024) (to - from) ≡ bytes_at b p (from - p + (to - from))
unfolding bytes_at
bytes_at-from b p i from to h l m =
    ap (λ s. tab (from - p) (λ j. get_or b (p + j) 0) ++ s)
    (tab_cong _ _ _ (λ j k. get_or_page b i (from - i * 1024 + j) (omega arith) ∙ ap (λ x. get_or b x 0) (omega arith)))
    ∙ tab-append (from - p) (to - from) (λ j. get_or b (p + j) 0)

pub bytes_at-more : (b : List ℕ) (p n i : ℕ) → page_at p ≤ i → i * 1024 < p + n
    → bytes_at b p (max p (i * 1024) - p) ++ page_part (page_of b i) p n i ≡ bytes_at b p (min (p + n) (suc i * 1024) - p)
unfolding page_part page_at
bytes_at-more b p n i l h =
    bytes_at-from b p i (max p (i * 1024)) (min (p + n) (i * 1024 + 1024)) (omega arith) (omega arith) (omega arith)
    ∙ ap (bytes_at b p) (omega arith)

-- A write of the bytes before page i, which the write of all would store later than its first.
module _ (p : ℕ) (d : List ℕ) (i : ℕ) (from : page_at p < i) (to : i < pages_for (p + length d)) where
  abbrev part : List ℕ
  part = take (i * 1024 - p) d

  part_length : length part ≡ i * 1024 - p
  part_length = unfold pages_for in length-take-le (i * 1024 - p) d (omega arith)

  -- before page i it puts the same bytes over the old ones
  part_cell : (y z : ℕ) → y < i * 1024 → pick (inside p (length part) y) (get_or part (y - p) 0) z ≡ pick (inside p (length d) y) (get_or d (y - p) 0) z
  unfolding pages_for page_at
  part_cell y z h = go (range p (length d) y) (range p (length part) y)
    where
      e : length part ≡ i * 1024 - p
      e = part_length

      go : Where p (length d) y → Where p (length part) y
          → pick (inside p (length part) y) (get_or part (y - p) 0) z ≡ pick (inside p (length d) y) (get_or d (y - p) 0) z
      go (low a u) (low a₂ u₂) = pick-false _ _ _ u₂ ∙ sym (pick-false _ _ _ u)
      go (low a u) (high a₂ b₂ u₂) = pick-false _ _ _ u₂ ∙ sym (pick-false _ _ _ u)
      go (low a u) (mid a₂ b₂ u₂) = absurd (omega arith)
      go (mid a v u) (mid a₂ b₂ u₂) = pick_true _ _ _ u₂ ∙ (get_or-take (i * 1024 - p) d (y - p) 0 (omega arith) ∙ sym (pick_true _ _ _ u))
      go (mid a v u) (low a₂ u₂) = absurd (omega arith)
      go (mid a v u) (high a₂ b₂ u₂) = let e₂ = e in absurd (omega arith)
      go (high a v u) (mid a₂ b₂ u₂) = let e₂ = e in absurd (omega arith)
      go (high a v u) (low a₂ u₂) = absurd (omega arith)
      go (high a v u) (high a₂ b₂ u₂) = pick-false _ _ _ u₂ ∙ sym (pick-false _ _ _ u)

pub before-first : (q : Change) (i : ℕ) → first (before q i) ≡ first q
unfolding first before
before-first (writing p d) i = refl
before-first (shrinking n) i = refl
before-first (growing n) i = refl

pub before_last : (q : Change) (i : ℕ) → stores_more q ≡ true → first q < i → i < last q → last (before q i) ≡ i
unfolding first last before pages_for page_at
before_last (writing p d) i s l m = let e = part_length p d i l m in omega arith
before_last (shrinking n) i s l m = absurd (false≢true s)
before_last (growing n) i s l m = absurd (false≢true s)

pub before_fits : (q : Change) (i size : ℕ) → stores_more q ≡ true → first q < i → i < last q → FitsSize q size → FitsSize (before q i) size
unfolding first last before pages_for page_at
before_fits (writing p d) i size s l m (f, h) = let e = part_length p d i l m in (f, omega arith)
before_fits (shrinking n) i size s l m f = absurd (false≢true s)
before_fits (growing n) i size s l m f = absurd (false≢true s)

pub before-less : (q : Change) (i size : ℕ) → stores_more q ≡ true → first q < i → i < last q → size_after (before q i) size ≤ size_after q size
unfolding first last before pages_for page_at size_after
before-less (writing p d) i size s l m = let e = part_length p d i l m in omega arith
before-less (shrinking n) i size s l m = absurd (false≢true s)
before-less (growing n) i size s l m = absurd (false≢true s)

-- the pages before i are the same, as they are left and as they are stored
pub before_page : (q : Change) (i : ℕ) (b : List ℕ) (j : ℕ) → stores_more q ≡ true → first q < i → i < last q → j < i
    → page_of (bytes_after (before q i) b) j ≡ page_of (bytes_after q b) j
unfolding first last before bytes_after page_of
before_page (writing p d) i b j s l m h =
    tab_cong 1024 _ _ (λ x k.
    get_or-splice b p (take (i * 1024 - p) d) (j * 1024 + x)
    ∙ (part_cell p d i l m (j * 1024 + x) (get_or b (j * 1024 + x) 0) (omega arith) ∙ sym (get_or-splice b p d (j * 1024 + x))))
before_page (shrinking n) i b j s l m h = absurd (false≢true s)
before_page (growing n) i b j s l m h = absurd (false≢true s)

pub before-fill : (q : Change) (i : ℕ) (page : List ℕ) (j : ℕ) → stores_more q ≡ true → first q < i → i < last q → j < i
    → fill (before q i) j page ≡ fill q j page
unfolding first last before fill overlay
before-fill (writing p d) i page j s l m h = tab_cong 1024 _ _ (λ x k. part_cell p d i l m (j * 1024 + x) (get_or page x 0) (omega arith))
before-fill (shrinking n) i page j s l m h = absurd (false≢true s)
before-fill (growing n) i page j s l m h = absurd (false≢true s)

-- a write is not cut
pub before_uncut : (q : Change) (i : ℕ) → stores_more q ≡ true → cuts (before q i) ≡ false
unfolding before cuts
before_uncut (writing p d) i s = refl
before_uncut (shrinking n) i s = absurd (false≢true s)
before_uncut (growing n) i s = absurd (false≢true s)

-- Up to page i both writes ask the same: the same pages are fetched, and stored with the same bytes and the same size.
pub before-fetches : (q : Change) (i size j : ℕ) → stores_more q ≡ true → first q < i → i < last q → j < i → fetches (before q i) size j ≡ fetches q size j
unfolding first last before pages_for page_at fetches
before-fetches (writing p d) i size j s l m h =
    let e = part_length p d i l m in
    ap (λ x. ltb (j * 1024) size && (ltb (j * 1024) p || x))
    (le-ltb (p + length (take (i * 1024 - p) d)) (min size (j * 1024 + 1024)) (omega arith) ∙ sym (le-ltb (p + length d) (min size (j * 1024 + 1024)) (omega arith)))
before-fetches (shrinking n) i size j s l m h = absurd (false≢true s)
before-fetches (growing n) i size j s l m h = absurd (false≢true s)

pub before-size : (q : Change) (i size j : ℕ) → stores_more q ≡ true → first q < i → i < last q → j < i → size_sent (before q i) size j ≡ size_sent q size j
unfolding first last before pages_for page_at size_sent
before-size (writing p d) i size j s l m h = let e = part_length p d i l m in omega arith
before-size (shrinking n) i size j s l m h = absurd (false≢true s)
before-size (growing n) i size j s l m h = absurd (false≢true s)
