-- Laws of records by their places.
-- Assumes nothing.
use Prim.Native.Nat.{ℕ, zero, suc, ◌+◌, ◌-◌, ◌*◌, ◌≤◌, ◌<◌}
use Rattle.std.specs.Prelude.{◌≡◌, eqb, leb, true, false, length}
use Rattle.std.proofs.Math.Path.{refl, ap}
use Rattle.std.proofs.Common.{sym, ◌∙◌}
use mathlib.Core.List.{List, [], ◌∷◌, ◌++◌}
use native.Mathlib.Omega.{arith}
use borrow.Author.Tests.{le-leb, lt-leb, leb-false, eq-eqb, ne_eqb}
use Rattle.lists.specs.Equal.{and-false, Is, is_t, is_f, is, and_both}
use Rattle.lists.specs.Pick.{pick, pick_true, pick-false}
use Rattle.filesystem.specs.Tables.{NODES, Node, node_at, pages_for, page_total}
use Rattle.filesystem.specs.Image.{Layout, front_length}
use Rattle.image_records.specs.Records.{record_at, record_end, nodes_from, end_from, node_count, records_end}
use Rattle.image_records.specs.Records.{digest_count, marked_from, is_marked, formed}

module _ (y : Layout) (s : List ℕ) where
  pub record_least : (at : ℕ) → at + front_length y ≤ record_end y s at
  unfolding record_end
  record_least at = omega arith

  pub end-least : (at n : ℕ) → at ≤ end_from y s at n
  unfolding end_from
  end-least at zero = omega arith
  end-least at (suc n) = let e = end-least (record_end y s at) n in let f = record_least at in omega arith

  -- one record, and the rest
  pub end-next : (at n : ℕ) → 0 < n → end_from y s at n ≡ end_from y s (record_end y s at) (n - 1)
  unfolding end_from
  end-next at zero h = absurd (omega arith)
  end-next at (suc n) h = let e : n ≡ suc n - 1 = omega arith in ap (end_from y s (record_end y s at)) e

  pub nodes-next : (at n : ℕ) → 0 < n → nodes_from y s at n ≡ record_at y s at ∷ nodes_from y s (record_end y s at) (n - 1)
  unfolding nodes_from
  nodes-next at zero h = absurd (omega arith)
  nodes-next at (suc n) h = let e : n ≡ suc n - 1 = omega arith in ap (λ (k : ℕ). record_at y s at
      ∷ nodes_from y s (record_end y s at) k) e

  pub end-last : (at : ℕ) → end_from y s at 0 ≡ at
  unfolding end_from
  end-last at = refl

  pub nodes-last : (at : ℕ) → nodes_from y s at 0 ≡ []
  unfolding nodes_from
  nodes-last at = refl

  pub length_from : (at n : ℕ) → length (nodes_from y s at n) ≡ n
  unfolding nodes_from
  length_from at zero = refl
  length_from at (suc n) = ap suc (length_from (record_end y s at) n)

  -- the record in place i
  pub end_snoc : (at i : ℕ) → end_from y s at (suc i) ≡ record_end y s (end_from y s at i)
  unfolding end_from
  end_snoc at zero = refl
  end_snoc at (suc i) = end_snoc (record_end y s at) i

  pub nodes_snoc : (at i : ℕ) → nodes_from y s at (suc i) ≡ nodes_from y s at i ++ (record_at y s (end_from y s at i) ∷ [])
  unfolding nodes_from end_from
  nodes_snoc at zero = refl
  nodes_snoc at (suc i) = ap (λ (r : List Node). record_at y s at ∷ r) (nodes_snoc (record_end y s at) i)

  -- places rise
  pub end_rises : (at i n : ℕ) → i ≤ n → end_from y s at i ≤ end_from y s at n
  unfolding end_from
  end_rises at zero n h = end-least at n
  end_rises at (suc i) zero h = absurd (omega arith)
  end_rises at (suc i) (suc n) h = end_rises (record_end y s at) i n (omega arith)

  -- the image ends before the records do
  pub cut_front : (at n : ℕ) → 0 < n → length s < at + front_length y → length s < end_from y s at n
  cut_front at n h l = rw (end-next at n h) (let e = end-least (record_end y s at) (n - 1) in let f = record_least at in
      omega arith)

  pub cut_record : (at n : ℕ) → 0 < n → length s < record_end y s at → length s < end_from y s at n
  cut_record at n h l = rw (end-next at n h) (let e = end-least (record_end y s at) (n - 1) in omega arith)

  pub no_end : (e : ℕ) → length s < e → 0 ≡ pick (leb e (length s)) e 0
  no_end e l = sym (pick-false _ _ _ (lt-leb e (length s) l))

  pub an_end : (e : ℕ) → e ≤ length s → e ≡ pick (leb e (length s)) e 0
  an_end e l = sym (pick_true _ _ _ (le-leb e (length s) l))

  -- what the place behind the records tells
  pub end_none : (r e : ℕ) → r ≡ pick (leb e (length s)) e 0 → r ≡ 0 → 0 < e → length s < e
  end_none r e q z h = go (is (leb e (length s)))
    where
      go : Is (leb e (length s)) → length s < e
      go (is_t t) = let g : r ≡ e = q ∙ pick_true _ _ _ t in absurd (omega arith)
      go (is_f t) = leb-false e (length s) t

  pub end_some : (r e : ℕ) → r ≡ pick (leb e (length s)) e 0 → (r ≡ 0 → ⊥) → r ≡ e
  end_some r e q n = go (is (leb e (length s)))
    where
      go : Is (leb e (length s)) → r ≡ e
      go (is_t t) = q ∙ pick_true _ _ _ t
      go (is_f t) = absurd (n (q ∙ pick-false _ _ _ t))

  -- the record in place i of n, and whether the rest have their maker
  pub in_place : (at n i : ℕ) → i < n → node_at (nodes_from y s at n) i ≡ record_at y s (end_from y s at i)
  unfolding nodes_from end_from node_at
  in_place at zero i h = absurd (omega arith)
  in_place at (suc n) zero h = refl
  in_place at (suc n) (suc i) h = in_place (record_end y s at) n i (omega arith)

  pub marked_next : (at n : ℕ) → 0 < n → is_marked y s at ≡ true
      → marked_from y s at n ≡ marked_from y s (record_end y s at) (n - 1)
  unfolding marked_from
  marked_next at zero h e = absurd (omega arith)
  marked_next at (suc n) h e = let k : n ≡ suc n - 1 = omega arith in rw e (ap (marked_from y s (record_end y s at)) k)

  pub marked_not : (at n : ℕ) → 0 < n → is_marked y s at ≡ false → marked_from y s at n ≡ false
  unfolding marked_from
  marked_not at zero h e = absurd (omega arith)
  marked_not at (suc n) h e = rw e

  pub marked_last : (at n : ℕ) → n ≡ 0 → marked_from y s at n ≡ true
  unfolding marked_from
  marked_last at n e = rw e

  -- the front of the record in place i of n is within them
  pub record_in_place : (i n : ℕ) → i < n → end_from y s 4 i + front_length y ≤ end_from y s 4 n
  record_in_place i n h = omega (
    arith,
    record_least (end_from y s 4 i),
    end_snoc 4 i,
    end_rises 4 (suc i) n
        (omega arith),
  )

  -- a record within the records
  pub record_in : (at n : ℕ) → 0 < n → record_end y s at ≤ end_from y s at n
  record_in at n h = rw (end-next at n h) (end-least (record_end y s at) (n - 1))

  pub front_in : (at n : ℕ) → 0 < n → at + front_length y ≤ end_from y s at n
  front_in at n h = omega (arith, record_least at, record_in at n h)

-- The image's form, case by case.
module _ (y : Layout) (s : List ℕ) where
  pub formed-short : length s < 4 → formed y s ≡ false
  unfolding formed
  formed-short h = rw (lt-leb 4 (length s) h)

  pub formed-many : NODES < node_count s → formed y s ≡ false
  unfolding formed
  formed-many h = rw (lt-leb (node_count s) NODES h) (and-false (leb 4 (length s)))

  pub formed_cut : length s < records_end y s + 4 → formed y s ≡ false
  unfolding formed
  formed_cut h = rw (lt-leb (records_end y s + 4) (length s) h, and-false (leb (node_count s) NODES))
      (and-false (leb 4 (length s)))

  pub formed-other : (records_end y s + 4 + digest_count y s * 32 ≡ length s → ⊥) → formed y s ≡ false
  unfolding formed
  formed-other n =
      rw (
        ne_eqb (records_end y s + 4 + digest_count y s * 32) (length s) n,
        and-false (leb (records_end y s + 4) (length s)),
        and-false (leb (node_count s) NODES),
      ) (and-false (leb 4 (length s)))

  pub formed_unmarked : marked_from y s 4 (node_count s) ≡ false → formed y s ≡ false
  unfolding formed
  formed_unmarked e =
      rw (
        e,
        and-false (eqb (records_end y s + 4 + digest_count y s * 32) (length s)),
        and-false (leb (records_end y s + 4) (length s)),
        and-false (leb (node_count s) NODES),
      ) (and-false (leb 4 (length s)))

  pub formed_yes : 4 ≤ length s → node_count s ≤ NODES → records_end y s + 4 + digest_count y s * 32 ≡ length s
      → marked_from y s 4 (node_count s) ≡ true → formed y s ≡ true
  unfolding formed
  formed_yes a b e t =
      and_both _ _ (le-leb 4 (length s) a) (and_both _ _ (le-leb (node_count s) NODES b)
      (and_both _ _ (le-leb (records_end y s + 4) (length s) (omega arith))
      (and_both _ _ (eq-eqb (records_end y s + 4 + digest_count y s * 32) (length s) e) t)))

  pub no-form : (e : ℕ) → formed y s ≡ false → 0 ≡ pick (formed y s) e 0
  no-form e t = sym (pick-false _ _ _ t)

  pub a-form : (r e : ℕ) → r ≡ e → formed y s ≡ true → r ≡ pick (formed y s) e 0
  a-form r e q t = q ∙ sym (pick_true _ _ _ t)

-- pages
module _ (y : Layout) (s : List ℕ) where
  pub pages-next : (at n : ℕ) → 0 < n → page_total (nodes_from y s at n) ≡ pages_for (record_at y s at).size + page_total
      (nodes_from y s (record_end y s at) (n - 1))
  unfolding page_total
  pages-next at n h = ap page_total (nodes-next y s at n h)

  pub pages-last : (at n : ℕ) → n ≡ 0 → page_total (nodes_from y s at n) ≡ 0
  unfolding page_total nodes_from
  pages-last at n e = rw e
