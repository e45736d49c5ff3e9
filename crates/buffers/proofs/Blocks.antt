-- Overwrites that follow each other, and moves within a list a block at a time. Over any element; assumes nothing.
use Prim.Native.Nat.{ℕ, zero, suc, ◌+◌, ◌*◌, ◌<◌, ◌≤◌, ◌-◌}
use mathlib.Core.Path.{◌≡◌, sym, ap, ◌∙◌}
use mathlib.Core.List.{List, ◌++◌, append_assoc}
use native.Mathlib.Nat.{add_assoc}
use native.Mathlib.Omega.{arith}
use lib.ListN.{length, take, drop, length-append, length-drop, take-append-drop}
use lib.Seq.{take-add, drop-drop, length-take-le, take-length, take_all}
use lib.Seq.{drop-append-add, drop_at}
use Rattle.lists.specs.Parts.{part, overwrite}
use Rattle.lists.specs.PartLaws.{length_part, length_overwrite, part-before, part-after, overwrite_behind, parted}
use Rattle.lists.specs.PartLaws.{overwrite_next}

pub one_less : (n i : ℕ) → 0 < i → n * (i - 1) + n ≡ n * i
one_less n zero h = absurd (omega arith)
one_less n (suc i) h = let e : suc i - 1 ≡ i = omega arith in rw e (omega arith)

module _ {A : Type 0} where
  pub part-add : (l : List A) (from i k : ℕ) → part from (i + k) l ≡ part from i l ++ part (from + i) k l
  unfolding part
  part-add l from i k = rw (take-add i k (drop from l), drop-drop i from l)

  -- one that ends where another begins
  pub overwrite_last : (l : List A) (at : ℕ) (x y : List A) (k : ℕ) → k ≡ at + length x → k ≤ length l
      → overwrite (overwrite l k y) at x ≡ overwrite l at (x ++ y)
  overwrite_last l at x y k e h =
      let p : length (take at l) ≡ at = length-take-le at l (omega arith) in
      let q : length (take (length x) (drop at l)) ≡ length x = length-take-le (length x) (drop at l)
      (rw (length-drop at l) (omega arith)) in
      rw (e, parted l (at + length x) y, take-add at (length x) l)
      (simp append_assoc
      (rw (
        overwrite_behind (take at l) (take (length x) (drop at l) ++ (y ++ drop (at + length x + length y) l)) x at
            p,
        drop_at (take (length x) (drop at l)) (y ++ drop (at + length x + length y) l) (length x) q,
        parted l at (x
            ++ y),
        length-append x y,
        ← add_assoc at (length x) (length y),
      )
      (simp append_assoc)))

  pub block_down : (l : List A) (to from i k : ℕ) → to ≤ from → from + i + k ≤ length l
      → overwrite (overwrite l to (part from i l)) (to + i) (part (from + i) k (overwrite l to (part from i l))) ≡
      overwrite l to (part from (i + k) l)
  block_down l to from i k h f =
      let n : length (part from i l) ≡ i = length_part from i l (omega arith) in
      rw (part-after l to (part from i l) (from + i) k (omega arith) (omega arith), part-add l from i k)
      (overwrite_next l to (part from i l) (part (from + i) k l) (to + i) (omega arith) (omega arith))

  pub block_up : (l : List A) (to from n i k : ℕ) → from ≤ to → k ≤ i → i ≤ n → to + n ≤ length l
      → overwrite (overwrite l (to + i) (part (from + i) (n - i) l)) (to + (i - k))
      (part (from + (i - k)) k (overwrite l (to + i) (part (from + i) (n - i) l))) ≡ overwrite l (to + (i - k))
      (part (from + (i - k)) (n - (i - k)) l)
  block_up l to from n i k h g₀ g f =
      let len : length (part (from + i) (n - i) l) ≡ n - i = length_part (from + i) (n - i) l (omega arith) in
      let len' : length (part (from + (i - k)) k l) ≡ k = length_part (from + (i - k)) k l (omega arith) in
      let a : n - (i - k) ≡ k + (n - i) = omega arith in
      let b : from + (i - k) + k ≡ from + i = omega arith in
      rw (
        part-before l (to + i) (part (from + i) (n - i) l) (from + (i - k)) k (omega arith) (omega arith),
        a,
        part-add
            l (from + (i - k)) k (n - i),
        b,
      )
      (overwrite_last l (to + (i - k)) (part (from + (i - k)) k l) (part (from + i) (n - i) l) (to + i) (omega arith)
      (omega arith))

  pub block-next : (l x : List A) (at i k : ℕ) → i + k ≤ length x → at + i ≤ length l
      → overwrite (overwrite l at (take i x)) (at + i) (part i k x) ≡ overwrite l at (take (i + k) x)
  unfolding part
  block-next l x at i k h f =
      let n : length (take i x) ≡ i = length-take-le i x (omega arith) in
      rw (take-add i k x) (overwrite_next l at (take i x) (take k (drop i x)) (at + i) (omega arith) (omega arith))

  pub rest-next : (l x : List A) (at i : ℕ) → i ≤ length x → at + i ≤ length l
      → overwrite (overwrite l at (take i x)) (at + i) (take (length x - i) (drop i x)) ≡ overwrite l at x
  rest-next l x at i h f =
      let n : length (take i x) ≡ i = length-take-le i x h in
      let r : take (length x - i) (drop i x) ≡ drop i x = rw (← length-drop i x) (take-length (drop i x)) in
      rw r (overwrite_next l at (take i x) (drop i x) (at + i) (omega arith) (omega arith) ∙ rw (take-append-drop i x))

  -- one over the beginning of which another stood
  over : (l : List A) (k : ℕ) (z y : List A) → length z ≤ length y → k ≤ length l
      → overwrite (overwrite l k z) k y ≡ overwrite l k y
  over l k z y h f =
      let p : length (take k l) ≡ k = length-take-le k l f in
      let e : length y ≡ length z + (length y - length z) = omega arith in
      let g : k + length z + (length y - length z) ≡ k + length y = omega arith in
      let d : drop (length y) (z ++ drop (k + length z) l) ≡ drop (k + length y) l =
      ap (λ (j : ℕ). drop j (z ++ drop (k + length z) l)) e
      ∙ drop-append-add z (drop (k + length z) l) (length y - length z) ∙ drop-drop (length y - length z) (k + length z)
      l ∙ rw g in
      rw (
        parted l k z,
        append_assoc (take k l) z (drop (k + length z) l),
        overwrite_behind (take k l) (z
            ++ drop (k + length z) l) y k p,
        d,
        parted l k y,
      )
      (sym (append_assoc (take k l) y (drop (k + length y) l)))

  -- the first k and the last k of up to twice as many
  pub both_ends : (l x : List A) (at j k : ℕ) → j + k ≡ length x → j ≤ k → at + length x ≤ length l
      → overwrite (overwrite l at (part 0 k x)) (at + j) (part j k x) ≡ overwrite l at x
  unfolding part
  both_ends l x at j k e h f =
      let n : length (take j x) ≡ j = length-take-le j x (omega arith) in
      let r : take k (drop j x) ≡ drop j x = take_all k (drop j x) (rw (length-drop j x) (omega arith)) in
      let s : k ≡ j + (k - j) = omega arith in
      let t : take k x ≡ take j x ++ take (k - j) (drop j x) = ap (λ (i : ℕ). take i x) s ∙ take-add j (k - j) x in
      let q : length (take (k - j) (drop j x)) ≡ k - j = length-take-le (k - j) (drop j x)
      (rw (length-drop j x) (omega arith)) in
      let u : length (overwrite l at (take j x)) ≡ length l = length_overwrite l at (take j x) (omega arith) in
      rw (
        r,
        t,
        ← overwrite_next l at (take j x) (take (k - j) (drop j x)) (at + j) (omega arith) (omega arith),
        over
            (overwrite l at (take j x)) (at + j) (take (k - j) (drop j x)) (drop j x)
            (rw (q, length-drop j x) (omega arith)) (omega arith),
        overwrite_next l at (take j x) (drop j x) (at + j)
            (omega arith) (omega arith),
        take-append-drop j x,
      )
