-- Searches in a bucket, and one place more in it.
-- Assumes nothing.
use Rattle.std.specs.Prelude.{◌≡◌, refl, List, ℕ, zero, suc, ◌+◌, ◌<◌, eqb, length, get_or, set}
use Rattle.std.proofs.Common.{ap, sym, ◌∙◌, subst, arith, length-set, eqb-true}
use Rattle.std.proofs.Math.Seq.{get_or-set_same, get_or-set_other}
use Rattle.std.proofs.lemmas.Bool.{eqb-false}
use Rattle.lists.specs.Equal.{Is, is_t, is_f, is}
use Rattle.filesystem.specs.Tables.{NODES}
use Rattle.links.specs.Buckets.{BUCKETS, inserted, Holds, here, behind, Indexed}

-- a place that isn't the one that is held stands before others
pub goes_on_lem : {x : List ℕ} {j k : ℕ} → Holds x j k → (j ≡ k → ⊥) → (0 < k) × Holds x j (get_or x (BUCKETS + k) 0)
goes_on_lem here n = absurd (n refl)
goes_on_lem (behind h v) n = (h, v)

-- a new index has place 0 in every bucket
pub empty_indexed : (x : List ℕ) {key : ℕ → ℕ} → length x ≡ BUCKETS + NODES → ((k : ℕ) → get_or x k 0 ≡ 0)
    → Indexed x key 1
empty_indexed x {key} l z = record {
  size = l;
  each = λ j h. first j h;
  firsts = λ b h. omega (arith, z b);
  falls = λ k h. omega (arith, z (BUCKETS + k));
}
  where
    first : (j : ℕ) → j < 1 → Holds x j (get_or x (key j) 0)
    first zero h = subst (Holds x 0) (sym (z (key 0))) here
    first (suc j) h = absurd (omega arith)

pub inserted-length : (x : List ℕ) (b i : ℕ) → length (inserted x b i) ≡ length x
unfolding inserted
inserted-length x b i = length-set (set x (BUCKETS + i) (get_or x b 0)) b i ∙ length-set x (BUCKETS + i) (get_or x b 0)

module _ (x : List ℕ) (key : ℕ → ℕ) (i : ℕ) (d : Indexed x key i) (keys : (j : ℕ) → key j < BUCKETS) (few : i < NODES)
  where
    abbrev more : List ℕ
    more = inserted x (key i) i

    link_new : get_or more (BUCKETS + i) 0 ≡ get_or x (key i) 0
    unfolding inserted
    link_new =
        let s = d.size in
        let k = keys i in
        get_or-set_other (set x (BUCKETS + i) (get_or x (key i) 0)) (key i) (BUCKETS + i) i 0 (λ e. omega arith)
        ∙ get_or-set_same x (BUCKETS + i) (get_or x (key i) 0) 0 (omega arith)

    link_old : (k : ℕ) → (k ≡ i → ⊥) → get_or more (BUCKETS + k) 0 ≡ get_or x (BUCKETS + k) 0
    unfolding inserted
    link_old k n =
        let b = keys i in
        get_or-set_other (set x (BUCKETS + i) (get_or x (key i) 0)) (key i) (BUCKETS + k) i 0 (λ e. omega arith)
        ∙ get_or-set_other x (BUCKETS + i) (BUCKETS + k) (get_or x (key i) 0) 0 (λ e. n (omega arith))

    first-new : get_or more (key i) 0 ≡ i
    unfolding inserted
    first-new =
        let s = d.size in
        let k = keys i in
        get_or-set_same (set x (BUCKETS + i) (get_or x (key i) 0)) (key i) i 0
        (rw (length-set x (BUCKETS + i) (get_or x (key i) 0)) (omega arith))

    first_old : (b : ℕ) → b < BUCKETS → (b ≡ key i → ⊥) → get_or more b 0 ≡ get_or x b 0
    unfolding inserted
    first_old b h n =
        get_or-set_other (set x (BUCKETS + i) (get_or x (key i) 0)) (key i) b i 0 n
        ∙ get_or-set_other x (BUCKETS + i) b (get_or x (key i) 0) 0 (λ e. omega arith)

    holds_still : {j k : ℕ} → k < i → Holds x j k → Holds more j k
    holds_still h here = here
    holds_still h (behind {k = k} p v) =
        let f = d.falls k p in
        behind p (subst (Holds more _) (sym (link_old k (λ e. omega arith))) (holds_still (omega arith) v))

    pub inserted_indexed : 0 < i → Indexed more key (i + 1)
    inserted_indexed some = record {
      size = inserted-length x (key i) i ∙ d.size;
      each = λ j h. held j h (is (eqb j i)) (is (eqb (key j) (key i)));
      firsts = λ b h. bound b h (is (eqb b (key i)));
      falls = λ k h. fall k h (is (eqb k i));
    }
      where
        held : (j : ℕ) → j < i + 1 → Is (eqb j i) → Is (eqb (key j) (key i)) → Holds more j (get_or more (key j) 0)
        held j h (is_t e) q =
            let z = eqb-true j i e in
            subst (λ y. Holds more j (get_or more (key y) 0)) (sym z) (subst (Holds more j) (z ∙ sym first-new) here)
        held j h (is_f e) (is_t q) =
            let n = eqb-false j i e in
            let z = eqb-true (key j) (key i) q in
            let f = d.firsts (key i) (keys i) in
            subst (Holds more j) (sym (ap (λ b. get_or more b 0) z ∙ first-new))
            (behind some (subst (Holds more j) (sym link_new)
            (holds_still f (subst (λ b. Holds x j (get_or x b 0)) z (d.each j (omega arith))))))
        held j h (is_f e) (is_f q) =
            let n = eqb-false j i e in
            subst (Holds more j) (sym (first_old (key j) (keys j) (eqb-false (key j) (key i) q)))
            (holds_still (d.firsts (key j) (keys j)) (d.each j (omega arith)))

        bound : (b : ℕ) → b < BUCKETS → Is (eqb b (key i)) → get_or more b 0 < i + 1
        bound b h (is_t e) = omega (arith, ap (λ z. get_or more z 0) (eqb-true b (key i) e), first-new)
        bound b h (is_f e) = omega (arith, first_old b h (eqb-false b (key i) e), d.firsts b h)

        fall : (k : ℕ) → 0 < k → Is (eqb k i) → get_or more (BUCKETS + k) 0 < k
        fall k h (is_t e) = omega (
          arith,
          eqb-true k i e,
          ap (λ z. get_or more (BUCKETS + z) 0) (eqb-true k i e),
          link_new,
          d.firsts (key i) (keys i),
        )
        fall k h (is_f e) = omega (arith, link_old k (eqb-false k i e), d.falls k h)
