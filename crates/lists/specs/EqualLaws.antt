-- Two lists of bytes compared piece by piece: by bytes, or by numbers of several bytes.
-- Assumes nothing.
use Rattle.std.specs.Prelude.{ℕ, suc, ◌+◌, ◌<◌, ◌≤◌, ◌≡◌, refl, true, false, List, [], ◌∷◌, ◌++◌, eqb, length, get_or, take}
use Rattle.std.proofs.Math.Path.{sym, ap₂}
use Rattle.std.proofs.Common.{ap, ◌∙◌, arith, add-one, take-suc, take_all, take-take, eq-eqb, ne_eqb}
use Rattle.std.proofs.Math.Seq.{take-add}
use Rattle.lists.specs.All.{both, none, Bytes, all_take, all_drop}
use Rattle.lists.specs.Equal.{equal, equal_yes, equal-no, equal_true, equal_false, Is, is, is_t, is_f}
use Rattle.lists.specs.LittleEndian.{encode, decode, encode-decode}
use Rattle.lists.specs.Parts.{part}
use Rattle.lists.specs.PartLaws.{length_part}

-- bytes by their places
pub bytes_of : (l : List ℕ) → ((k : ℕ) → get_or l k 0 < 256) → Bytes l
bytes_of [] h = none
bytes_of (x ∷ l) h = both (h 0) (bytes_of l (λ k. h (suc k)))

-- the same number in as many bytes: the same bytes
pub decode_same : (a b : List ℕ) → Bytes a → Bytes b → length a ≡ length b → decode a ≡ decode b → a ≡ b
decode_same a b p q e d = sym (encode-decode a p) ∙ ap₂ encode e d ∙ encode-decode b q

-- a test that holds just where the lists are equal
equal_by : (x y : ℕ) (a b : List ℕ) → (a ≡ b → x ≡ y) → (x ≡ y → a ≡ b) → eqb x y ≡ equal a b
equal_by x y a b f g = go (is (equal a b))
  where
    go : Is (equal a b) → eqb x y ≡ equal a b
    go (is_t e) = eq-eqb x y (f (equal_true a b e)) ∙ sym e
    go (is_f e) = ne_eqb x y (λ q. different (g q)) ∙ sym e
      where
        different : a ≡ b → ⊥
        different q = equal_false a b e q

module _ (a b : List ℕ) where
  -- alike on the first i, and in n more places
  pub alike-part : (i n : ℕ) → take i a ≡ take i b → part i n a ≡ part i n b → take (i + n) a ≡ take (i + n) b
  unfolding part
  alike-part i n e p = take-add i n a ∙ ap₂ (λ x y. x ++ y) e p ∙ sym (take-add i n b)

  pub alike-more : (i : ℕ) → i < length a → i < length b → take i a ≡ take i b → get_or a i 0 ≡ get_or b i 0 → take (i + 1) a ≡ take (i + 1) b
  alike-more i h g e p = rw (add-one i, take-suc a i 0 h, take-suc b i 0 g, e, p)

  -- alike on all
  pub alike_all : (i : ℕ) → length a ≤ i → length b ≤ i → take i a ≡ take i b → a ≡ b
  alike_all i h g e = sym (take_all i a h) ∙ e ∙ take_all i b g

  -- alike on fewer
  pub alike-less : (j i : ℕ) → j ≤ i → take i a ≡ take i b → take j a ≡ take j b
  alike-less j i h e = sym (take-take j i a h) ∙ ap (take j) e ∙ take-take j i b h

  -- numbers of n bytes that differ
  pub word_differs : (i n x y : ℕ) → x ≡ decode (part i n a) → y ≡ decode (part i n b) → (x ≡ y → ⊥) → false ≡ equal a b
  word_differs i n x y p q d = sym (equal-no a b (λ e. d (p ∙ ap (λ (l : List ℕ). decode (part i n l)) e ∙ sym q)))

  -- numbers of n bytes that are the same, where both lists have them
  module _ (p : Bytes a) (q : Bytes b) (n : ℕ) where
    pub word_same : (i : ℕ) → i + n ≤ length a → i + n ≤ length b → decode (part i n a) ≡ decode (part i n b) → part i n a ≡ part i n b
    unfolding part
    word_same i h g e = decode_same (part i n a) (part i n b) (all_take n (all_drop i p)) (all_take n (all_drop i q)) (length_part i n a h ∙ sym (length_part i n b g)) e

    pub alike-word : (i : ℕ) → i + n ≤ length a → i + n ≤ length b → take i a ≡ take i b → decode (part i n a) ≡ decode (part i n b)
        → take (i + n) a ≡ take (i + n) b
    alike-word i h g e d = alike-part i n e (word_same i h g d)

    -- the last n bytes, of which some were seen before
    alike-last : (i j : ℕ) → j + n ≡ length a → length a ≡ length b → j ≤ i → take i a ≡ take i b → decode (part j n a) ≡ decode (part j n b) → a ≡ b
    alike-last i j h g k e d = alike_all (j + n) (omega arith) (omega arith) (alike-word j (omega arith) (omega arith) (alike-less j i k e) d)

    -- where the last n bytes are the same, the first n decide, if they reach those
    pub first_decides : (j x y : ℕ) → j + n ≡ length a → length a ≡ length b → j ≤ n → decode (part j n a) ≡ decode (part j n b) → x ≡ decode (part 0 n a)
        → y ≡ decode (part 0 n b) → eqb x y ≡ equal a b
    first_decides j x y h g k e p q =
        equal_by x y a b (λ d. p ∙ ap (λ (l : List ℕ). decode (part 0 n l)) d ∙ sym q)
        (λ d. alike-last (0 + n) j h g (omega arith) (alike-word 0 (omega arith) (omega arith) refl (sym p ∙ d ∙ q)) e)

-- the last n elements, and then the first i, if they reach those
module _ (a b : List ℕ) (j n : ℕ) where
  pub end_differs : equal (part j n a) (part j n b) ≡ false → false ≡ equal a b
  end_differs e = sym (equal-no a b (λ q. equal_false _ _ e (ap (part j n) q)))

  pub front_decides : (i : ℕ) → j ≤ i → j + n ≡ length a → length a ≡ length b → equal (part j n a) (part j n b) ≡ true
      → equal (take i a) (take i b) ≡ equal a b
  front_decides i h g k e = go (is (equal (take i a) (take i b)))
    where
      go : Is (equal (take i a) (take i b)) → equal (take i a) (take i b) ≡ equal a b
      go (is_t t) = t ∙ sym (equal_yes a b (alike_all a b (j + n) (omega arith) (omega arith) (alike-part a b j n (alike-less a b j i h (equal_true _ _ t)) (equal_true _ _ e))))
      go (is_f t) = t ∙ sym (equal-no a b (λ q. equal_false _ _ t (ap (take i) q)))
