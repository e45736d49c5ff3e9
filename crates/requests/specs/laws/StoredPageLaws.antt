-- The page of a store as it is put together in place.
-- Assumes nothing.
use Rattle.std.specs.Prelude.{ℕ, ◌+◌, ◌*◌, ◌≤◌, ◌<◌, min, ◌-◌, ◌≡◌, refl, false, List, [], ◌∷◌, ◌++◌, ltb, set, take, drop}
use Rattle.std.proofs.Math.Path.{sym}
use Rattle.std.proofs.Common.{ap, ◌∙◌, add-one, arith, get_or-take, length-take-le, ltb-true, ltb-false, le-leb, lt-ltb}
use Rattle.std.proofs.Math.ListN.{length, get_or, get_or-eq_default}
use Rattle.std.proofs.Math.Seq.{ext_get_or}
use Rattle.lists.specs.Pick.{pick, pick_true, pick-false}
use Rattle.lists.specs.Equal.{Is, is_t, is_f, is, and_both}
use Rattle.lists.specs.Cells.{inside, Where, low, mid, high, range, tab, length-tab, get_or-tab, tab_cong, tab-append}
use Rattle.lists.specs.Cells.{tab_snoc}
use Rattle.lists.specs.Parts.{part, overwrite}
use Rattle.lists.specs.PartLaws.{length_part, length_overwrite, get_d_part, overwrite_none, overwrite_snoc}
use Rattle.lists.specs.PartLaws.{overwrite_next}
use Rattle.rules.specs.Pages.{resized, overlay, fill, writing, shrinking}
use Rattle.lists.specs.Overwrites.{overwrite_within, get_or_overwrite}
use Rattle.requests.specs.StoredPages.{zeros}

-- none written, and one more
pub zeros_none : (l : List ℕ) (at : ℕ) → l ≡ overwrite l at (zeros 0)
unfolding zeros tab
zeros_none l at = sym (overwrite_none 0 l at)

pub zeros-next : (l : List ℕ) (at i : ℕ) → at + i < length l → set (overwrite l at (zeros i)) (at + i) 0 ≡ overwrite l
    at (zeros (i + 1))
unfolding zeros
zeros-next l at i h =
    let n : length (zeros i) ≡ i = length-tab i _ in
    let e : zeros (i + 1) ≡ zeros i ++ (0 ∷ []) = rw (add-one i) (tab_snoc i _) in
    rw e (rw n at (overwrite_snoc 0 l at (zeros i) 0 (omega arith)))

-- a list by its own cells
own_cells : (b : List ℕ) → b ≡ tab (length b) (λ j. get_or b j 0)
own_cells b = ext_get_or 0 b _ (sym (length-tab (length b) _)) (λ j h. sym (get_or-tab (length b) _ j 0 h))

resized-zeros : (b : List ℕ) (n : ℕ) → length b ≤ n → b ++ zeros (n - length b) ≡ resized b n
unfolding resized zeros
resized-zeros b n h =
    let e : length b + (n - length b) ≡ n = omega arith in
    ap (λ l. l ++ tab (n - length b) (λ j. 0)) (own_cells b)
    ∙ ap (λ l. tab (length b) (λ j. get_or b j 0) ++ l)
    (tab_cong (n - length b) _ _ (λ j g. sym (get_or-eq_default b 0 {n = length b + j} (omega arith))))
    ∙ tab-append (length b) (n - length b) (λ j. get_or b j 0)
    ∙ rw e

length-resized : (b : List ℕ) (n : ℕ) → length (resized b n) ≡ n
unfolding resized
length-resized b n = length-tab n _

pub page_put : (l : List ℕ) (at : ℕ) (b : List ℕ) → at ≤ length l → length b ≤ 1024
    → overwrite (overwrite l at b) (at + length b) (zeros (1024 - length b)) ≡ overwrite l at (resized b 1024)
page_put l at b f h = overwrite_next l at b (zeros (1024 - length b)) (at + length b) refl f
    ∙ rw (resized-zeros b 1024 h)

-- the first n bytes of a page, up to a size
pub shrunk : (page : List ℕ) (size i n : ℕ) → n ≡ min (length page) (size - i * 1024)
    → resized (take n page) 1024 ≡ fill (shrinking size) i page
unfolding resized fill
shrunk page size i n q = tab_cong 1024 _ _ (λ j h. cell j (is (ltb j n)) (is (ltb (i * 1024 + j) size)))
  where
    past : (j : ℕ) → n ≤ j → get_or (take n page) j 0 ≡ 0
    past j h = get_or-eq_default (take n page) 0 {n = j} (rw (length-take-le n page (omega arith)) h)

    cell : (j : ℕ) → Is (ltb j n) → Is (ltb (i * 1024 + j) size)
        → get_or (take n page) j 0 ≡ pick (ltb (i * 1024 + j) size) (get_or page j 0) 0
    cell j (is_t a) (is_t b) = get_or-take n page j 0 (ltb-true j n a) ∙ sym (pick_true _ _ _ b)
    cell j (is_t a) (is_f b) =
        let g : j < n = ltb-true j n a in
        let k : size ≤ i * 1024 + j = ltb-false _ _ b in
        absurd (omega arith)
    cell j (is_f a) (is_t b) =
        let g : n ≤ j = ltb-false j n a in
        let k : i * 1024 + j < size = ltb-true _ _ b in
        past j g ∙ sym (pick_true _ _ _ b ∙ get_or-eq_default page 0 {n = j} (omega arith))
    cell j (is_f a) (is_f b) = past j (ltb-false j n a) ∙ sym (pick-false _ _ _ b)

-- Numbers of a range that begins at p and a page that begins at s: from and place are what the one begins before the
-- other.
meet : (s p from place : ℕ) → from ≡ s - p → place ≡ p - s → s + place ≡ p + from
meet s p from place f q = omega arith

starts : (s p place j : ℕ) → place ≡ p - s → p ≤ s + j → place ≤ j
starts s p place j q h = omega arith

early : (s p place j : ℕ) → place ≡ p - s → s + j < p → place ≤ j → ⊥
early s p place j q h g = omega arith

ends : (s p from to place n j : ℕ) → s + place ≡ p + from → from < to → to ≡ min n (s + 1024 - p) → j < 1024
    → s + j < p + n → j < place + (to - from)
ends s p from to place n j m h t l g = omega arith

late : (s p from to place n j : ℕ) → s + place ≡ p + from → from < to → to ≤ n → p + n ≤ s + j → j < place + (to - from)
    → ⊥
late s p from to place n j m h t l g = omega arith

index : (s p from place j : ℕ) → s + place ≡ p + from → place ≤ j → from + (j - place) ≡ s + j - p
index s p from place j m h = omega arith

shift : (place n j : ℕ) → place ≤ j → j < place + n → j - place < n
shift place n j h g = omega arith

fitting : (s p from to place : ℕ) → s + place ≡ p + from → from < to → to ≤ s + 1024 - p → place + (to - from) ≤ 1024
fitting s p from to place m h t = omega arith

-- of the bytes d of a write, those that lie in page i: from which on, to before which, and their place in the page
module _ (page : List ℕ) (position : ℕ) (d : List ℕ) (i from to : ℕ) (f : from ≡ i * 1024 - position)
    (t : to ≡ min (length d) (i * 1024 + 1024 - position)) where
  -- none does
  pub unwritten : to ≤ from → resized page 1024 ≡ fill (writing position d) i page
  unfolding resized fill overlay
  unwritten h = tab_cong 1024 _ _ (λ j l. cell j l (range position (length d) (i * 1024 + j)))
    where
      cell : (j : ℕ) → j < 1024 → Where position (length d) (i * 1024 + j)
          → get_or page j 0 ≡ pick (inside position (length d) (i * 1024 + j)) (get_or d (i * 1024 + j - position) 0)
          (get_or page j 0)
      cell j l (low a e) = sym (pick-false _ _ _ e)
      cell j l (mid a b e) = absurd (omega arith)
      cell j l (high a b e) = sym (pick-false _ _ _ e)

  module _ (place : ℕ) (p : place ≡ position - i * 1024) (some : from < to) where
    m : i * 1024 + place ≡ position + from
    m = meet (i * 1024) position from place f p

    short : to ≤ length d
    short = omega (arith, t)

    length-written : length (part from (to - from) d) ≡ to - from
    length-written = length_part from (to - from) d (omega (arith, short))

    room : place + length (part from (to - from) d) ≤ 1024
    room = rw length-written (fitting (i * 1024) position from to place m some (omega (arith, t)))

    outside : (j : ℕ) → Where place (to - from) j → (place ≤ j → j < place + (to - from) → ⊥)
        → inside place (to - from) j ≡ false
    outside j (low a e) g = e
    outside j (mid a b e) g = absurd (g a b)
    outside j (high a b e) g = e

    -- a cell with them over the page
    module _ (j : ℕ) (h : j < 1024) where
      abbrev put : ℕ
      put = pick (inside place (to - from) j) (get_or (part from (to - from) d) (j - place) 0)
          (get_or (resized page 1024) j 0)

      abbrev seen : ℕ
      seen = pick (inside position (length d) (i * 1024 + j)) (get_or d (i * 1024 + j - position) 0) (get_or page j 0)

      kept : inside place (to - from) j ≡ false → inside position (length d) (i * 1024 + j) ≡ false → put ≡ seen
      unfolding resized
      kept e g = pick-false _ _ _ e ∙ get_or-tab 1024 (λ k. get_or page k 0) j 0 h ∙ sym (pick-false _ _ _ g)

      same : Where position (length d) (i * 1024 + j) → put ≡ seen
      same (low a e) = kept (outside j (range place (to - from) j) (λ u v. early (i * 1024) position place j p a u)) e
      same (high a b e) = kept (outside j (range place (to - from) j) (λ u v. late (i * 1024) position from to place
          (length d) j m some short b v)) e
      same (mid a b e) =
          let u : place ≤ j = starts (i * 1024) position place j p a in
          let v : j < place + (to - from) = ends (i * 1024) position from to place (length d) j m some t h b in
          pick_true _ _ _ (and_both _ _ (le-leb place j u) (lt-ltb j (place + (to - from)) v))
          ∙ get_d_part from (to - from) (j - place) d 0 (shift place (to - from) j u v)
          ∙ ap (λ (n : ℕ). get_or d n 0) (index (i * 1024) position from place j m u)
          ∙ sym (pick_true _ _ _ e)

    written : overwrite (resized page 1024) place (part from (to - from) d) ≡ fill (writing position d) i page
    unfolding fill overlay
    written = ext_get_or 0 _ _ (whole ∙ sym (length-tab 1024 _)) (λ j h. cell j (rw whole at h))
      where
        fits : place + length (part from (to - from) d) ≤ length (resized page 1024)
        fits = rw (length-resized page 1024) room

        whole : length (overwrite (resized page 1024) place (part from (to - from) d)) ≡ 1024
        whole = length_overwrite (resized page 1024) place (part from (to - from) d) fits ∙ length-resized page 1024

        cell : (j : ℕ) → j < 1024 → get_or (overwrite (resized page 1024) place (part from (to - from) d)) j 0 ≡ get_or
            (fill (writing position d) i page) j 0
        cell j h =
            get_or_overwrite 0 (resized page 1024) place (part from (to - from) d) j fits
            ∙ rw length-written (same j h (range position (length d) (i * 1024 + j)))
            ∙ sym (get_or-tab 1024 _ j 0 h)

    -- over the page that was put
    pub written-put : (l : List ℕ) (at : ℕ) → at + 1024 ≤ length l
        → overwrite (overwrite l at (resized page 1024)) (at + place) (take (to - from) (drop from d)) ≡ overwrite l at
        (fill (writing position d) i page)
    unfolding part
    written-put l at h =
        overwrite_within l at (resized page 1024) place (part from (to - from) d) (rw (length-resized page 1024) room)
        (rw (length-resized page 1024) h) ∙ rw written
