-- Records by their places, and their buckets.
-- Assumes nothing.
use Rattle.std.specs.Prelude.{◌≡◌, List, [], ◌∷◌, ℕ, suc, ◌+◌, ◌*◌, ◌%◌, ◌≤◌, ◌<◌, eqb, length, get_or, set, drop}
use Rattle.std.proofs.Common.{ap, ap₂, sym, ◌∙◌, arith, add-one, drop_of_length-le, get_or-set_same, get_or-set_other, drop-cons, eqb-true}
use Rattle.std.proofs.lemmas.Bool.{eqb-false}
use Rattle.lists.specs.Equal.{Is, is_t, is_f, is}
use Rattle.filesystem.specs.Tables.{node_at}
use Rattle.filesystem.specs.Image.{Layout, front_length}
use Rattle.filesystem.specs.Layouts.{layout, IsLayout}
use Rattle.links.specs.Buckets.{BUCKETS}
use Rattle.image_records.specs.Records.{record_parent, record_at, record_end, nodes_from, end_from}
use Rattle.image_records.specs.laws.RecordLaws.{end-last, end_snoc, end_rises, record_least, in_place}
use Rattle.image_reader.specs.Judged.{node_on, Located, Standing, spread, name_key}

module _ {y : Layout} {s starts : List ℕ} {n : ℕ} (d : Located y s starts n) where
  pub located_node : (k : ℕ) → k < n → node_on y s starts k ≡ node_at (nodes_from y s 4 n) k
  located_node k h = ap (record_at y s) (d.places k h) ∙ sym (in_place y s 4 n k h)

  pub first-node : 0 < n → node_on y s starts 0 ≡ record_at y s 4
  first-node h = ap (record_at y s) (d.places 0 h ∙ end-last y s 4)

  pub located_end : (k : ℕ) → k < n → record_end y s (get_or starts k 0) ≤ length s
  located_end k h = omega (
    arith,
    ap (record_end y s) (d.places k h),
    end_snoc y s 4 k,
    end_rises y s 4 (suc k) n (omega arith),
    d.inside,
  )

  pub located_front : (k : ℕ) → k < n → get_or starts k 0 + front_length y ≤ length s
  located_front k h = omega (arith, located_end k h, record_least y s (get_or starts k 0))

  pub located_less : (i : ℕ) → i ≤ n → Located y s starts i
  located_less i h = record {
    few = let f = d.few in omega arith;
    size = d.size;
    inside = omega (arith, end_rises y s 4 i n h, d.inside);
    places = λ k l. d.places k (omega arith);
  }

pub standing : {w maker : ℕ} {s starts : List ℕ} {n : ℕ} → IsLayout w maker → Located (layout w maker) s starts n
    → Standing w s starts n
standing h d = record {
  narrow = h.0;
  few = d.few;
  size = d.size;
  inside = λ k l. let z = located_front d k l in
      omega arith;
}

pub standing-less : {w : ℕ} {s starts : List ℕ} {n : ℕ} (i : ℕ) → i ≤ n → Standing w s starts n → Standing w s starts i
standing-less i h d = record {
  narrow = d.narrow;
  few = let f = d.few in omega arith;
  size = d.size;
  inside = λ k l. d.inside k (omega arith);
}

-- one place more
pub places_next : (y : Layout) (s l : List ℕ) (i at : ℕ) → ((k : ℕ) → k < i → get_or l k 0 ≡ end_from y s 4 k)
    → at ≡ end_from y s 4 i → i < length l → (k : ℕ) → k < i + 1 → get_or (set l i at) k 0 ≡ end_from y s 4 k
places_next y s l i at f e h k b = go (is (eqb k i))
  where
    go : Is (eqb k i) → get_or (set l i at) k 0 ≡ end_from y s 4 k
    go (is_t t) =
        let z = eqb-true k i t in
        ap (λ j. get_or (set l i at) j 0) z ∙ (get_or-set_same l i at 0 h ∙ (e ∙ ap (end_from y s 4) (sym z)))
    go (is_f t) = let z = eqb-false k i t in get_or-set_other l i k at 0 z ∙ f k (omega arith)

pub end-next : (y : Layout) (s : List ℕ) (i at : ℕ) → at ≡ end_from y s 4 i → {at' : ℕ} → at' ≡ record_end y s at
    → at' ≡ end_from y s 4 (i + 1)
end-next y s i at e q = q ∙ (ap (record_end y s) e ∙ (sym (end_snoc y s 4 i) ∙ ap (end_from y s 4) (sym (add-one i))))

-- buckets
pub spread_below : (l : List ℕ) (b : ℕ) → b < BUCKETS → spread b l < BUCKETS
unfolding spread
spread_below [] b h = h
spread_below (x ∷ l) b h = spread_below l ((b * 31 + x) % BUCKETS) (omega arith)

pub spread-next : (l : List ℕ) (i b : ℕ) → i < length l
    → spread b (drop i l) ≡ spread ((b * 31 + get_or l i 0) % BUCKETS) (drop (i + 1) l)
unfolding spread
spread-next l i b h = ap (spread b) (drop-cons l i 0 h ∙ ap (λ n. get_or l i 0 ∷ drop n l) (sym (add-one i)))

pub spread_end : (l : List ℕ) (i b : ℕ) → length l ≤ i → spread b (drop i l) ≡ b
unfolding spread
spread_end l i b h = ap (spread b) (drop_of_length-le l {i = i} h)

pub name_key_lem : (y : Layout) (s starts : List ℕ) (i : ℕ) {b p : ℕ} {l : List ℕ} → b ≡ spread (p % BUCKETS) l
    → p ≡ record_parent y.id_bytes s (get_or starts i 0) → l ≡ (node_on y s starts i).name → b ≡ name_key y s starts i
unfolding record_at
name_key_lem y s starts i e p l = e ∙ ap₂ (λ (x : ℕ) (n : List ℕ). spread (x % BUCKETS) n) p l
