-- Laws of parts and overwrites, and of moves within a list. Over any element; assumes nothing.
use Prim.Native.Nat.{ℕ, zero, suc, ◌+◌, ◌-◌, ◌<◌, ◌≤◌}
use Rattle.std.specs.Prelude.{◌≡◌, get_or, set}
use Rattle.std.proofs.Math.Path.{sym, ap}
use Rattle.std.proofs.Common.{◌∙◌, add-zero, zero-add, suc-add, add-one, take_at, get_or-take}
use mathlib.Core.List.{List, [], ◌∷◌, ◌++◌, append_assoc, append-nil}
use Rattle.std.proofs.Math.Nat.{add_assoc}
use native.Mathlib.Omega.{arith}
use Rattle.std.proofs.Math.ListN.{length, take, drop, length-drop, length-append, take-append-drop, drop_of_length-le}
use Rattle.std.proofs.Math.Seq.{take-add, drop-drop, length-take-le, take-take, take-nil, take-append-le, take-append-add, drop-append-add, get_or-drop, take-length, drop-cons, take-suc, set_at, take-append_seam}
use Rattle.std.proofs.lemmas.List.{drop-append-le, set_split}
use Rattle.lists.specs.Parts.{part, overwrite}

module _ {A : Type 0} where
  pub drop-take : (b k : ℕ) (l : List A) → drop b (take (b + k) l) ≡ take k (drop b l)
  drop-take zero k l = rw (zero-add k)
  drop-take (suc b) k [] = rw (suc-add b k) (sym (take-nil k))
  drop-take (suc b) k (x ∷ l) = rw (suc-add b k) (drop-take b k l)

  pub length_part : (at n : ℕ) (l : List A) → at + n ≤ length l → length (part at n l) ≡ n
  unfolding part
  length_part at n l h = length-take-le n (drop at l) (rw (length-drop at l) (omega arith))

  pub part-part : (a n b k : ℕ) (l : List A) → b + k ≤ n → part b k (part a n l) ≡ part (a + b) k l
  unfolding part
  part-part a n b k l h =
      let e : n ≡ b + (n - b) = omega arith in
      ap (λ (j : ℕ). take k (drop b (take j (drop a l)))) e
      ∙ rw (drop-take b (n - b) (drop a l), take-take k (n - b) (drop b (drop a l)) (omega arith), drop-drop b a l)

  pub get_d_part : (a n k : ℕ) (l : List A) (d : A) → k < n → get_or (part a n l) k d ≡ get_or l (a + k) d
  unfolding part
  get_d_part a n k l d h = rw (get_or-take n (drop a l) k d h, get_or-drop a l k d)

  pub length_overwrite : (l : List A) (at : ℕ) (x : List A) → at + length x ≤ length l → length (overwrite l at x) ≡ length l
  unfolding overwrite
  length_overwrite l at x h =
      let p : length (take at l) ≡ at = length-take-le at l (omega arith) in
      rw (length-append (take at l) (x ++ drop (at + length x) l), length-append x (drop (at + length x) l), length-drop (at + length x) l) (omega arith)

  -- a part that ends before the overwritten one, and one that begins after it, stay
  pub part-before : (l : List A) (at : ℕ) (x : List A) (a n : ℕ) → a + n ≤ at → at + length x ≤ length l → part a n (overwrite l at x) ≡ part a n l
  unfolding part overwrite
  part-before l at x a n h f =
      let p : length (take at l) ≡ at = length-take-le at l (omega arith) in
      let e : at ≡ a + (at - a) = omega arith in
      let q : length (drop a (take at l)) ≡ at - a = length-drop a (take at l) ∙ rw p in
      rw (drop-append-le a (take at l) (x ++ drop (at + length x) l) (omega arith), take-append-le n (drop a (take at l)) (x ++ drop (at + length x) l) (omega arith))
      (ap (λ (j : ℕ). take n (drop a (take j l))) e ∙ rw (drop-take a (at - a) l, take-take n (at - a) (drop a l) (omega arith)))

  pub part-after : (l : List A) (at : ℕ) (x : List A) (a n : ℕ) → at + length x ≤ a → at + length x ≤ length l → part a n (overwrite l at x) ≡ part a n l
  unfolding part overwrite
  part-after l at x a n h f =
      let p : length (take at l) ≡ at = length-take-le at l (omega arith) in
      let e : a ≡ length (take at l) + (length x + (a - (at + length x))) = omega arith in
      let g : at + length x + (a - (at + length x)) ≡ a = omega arith in
      ap (λ (j : ℕ). take n (drop j (take at l ++ (x ++ drop (at + length x) l)))) e
      ∙ rw (drop-append-add (take at l) (x ++ drop (at + length x) l) (length x + (a - (at + length x))), drop-append-add x (drop (at + length x) l) (a - (at + length x)), drop-drop (a - (at + length x)) (at + length x) l, g)

  -- a part that holds the overwritten one is overwritten
  within : (l : List A) (x : List A) (a b c : ℕ) → a + (b + length x + c) ≤ length l
      → part a (b + length x + c) (overwrite l (a + b) x) ≡ overwrite (part a (b + length x + c) l) b x
  unfolding part overwrite
  within l x a b c f =
      let p : length (take (a + b) l) ≡ a + b = length-take-le (a + b) l (omega arith) in
      let q : length (take b (drop a l)) ≡ b = length-take-le b (drop a l) (rw (length-drop a l) (omega arith)) in
      let e : b + length x + c ≡ length (take b (drop a l)) + (length x + c) = omega arith in
      rw (drop-append-le a (take (a + b) l) (x ++ drop (a + b + length x) l) (omega arith), drop-take a b l)
      (ap (λ (j : ℕ). take j (take b (drop a l) ++ (x ++ drop (a + b + length x) l))) e
      ∙ rw (take-append-add (take b (drop a l)) (x ++ drop (a + b + length x) l) (length x + c), take-append-add x (drop (a + b + length x) l) c, take-take b (b + length x + c) (drop a l) (omega arith), drop-take (b + length x) c (drop a l), drop-drop (b + length x) a l, add_assoc a b (length x)))

  pub part_within : (l : List A) (at : ℕ) (x : List A) (a n b : ℕ) → at ≡ a + b → b + length x ≤ n → a + n ≤ length l
      → part a n (overwrite l at x) ≡ overwrite (part a n l) b x
  part_within l at x a n b e h f =
      let g : n ≡ b + length x + (n - (b + length x)) = omega arith in
      rw (e, g) (within l x a b (n - (b + length x)) (omega arith))

  -- an overwrite inside a part is one by the whole part, overwritten
  joined : (p q x z : List A) (c : ℕ) → (p ++ q) ++ (x ++ z) ≡ p ++ ((q ++ (x ++ take c z)) ++ drop c z)
  joined p q x z c = simp (append_assoc, take-append-drop c z)

  deeper : (l x : List A) (a b c : ℕ) → a + (b + length x + c) ≤ length l → overwrite l (a + b) x ≡ overwrite l a (overwrite (part a (b + length x + c) l) b x)
  unfolding part overwrite
  deeper l x a b c f =
      let n : length (part a (b + length x + c) l) ≡ b + length x + c = length_part a (b + length x + c) l f in
      let m : length (overwrite (part a (b + length x + c) l) b x) ≡ b + length x + c = length_overwrite (part a (b + length x + c) l) b x (omega arith) ∙ n in
      let e : a + (b + length x + c) ≡ a + b + length x + c = omega arith in
      let g : a + (b + length x) ≡ a + b + length x = omega arith in
      rw (m, take-take b (b + length x + c) (drop a l) (omega arith), drop-take (b + length x) c (drop a l), drop-drop (b + length x) a l, take-add a b l, e, g, ← drop-drop c (a + b + length x) l)
      (joined (take a l) (take b (drop a l)) x (drop (a + b + length x) l) c)

  pub overwrite_part : (l : List A) (a n b : ℕ) (x : List A) → b + length x ≤ n → a + n ≤ length l
      → overwrite l (a + b) x ≡ overwrite l a (overwrite (part a n l) b x)
  overwrite_part l a n b x h f =
      let g : n ≡ b + length x + (n - (b + length x)) = omega arith in
      rw g (deeper l x a b (n - (b + length x)) (omega arith))

  -- all of a list, and one element of it
  pub overwrite_all : (l x : List A) → length l ≡ length x → overwrite l 0 x ≡ x
  unfolding overwrite
  overwrite_all l x e = rw (zero-add (length x), drop_of_length-le l {i = length x} (omega arith)) (append-nil x)

  -- at the front, and behind a first piece
  pub overwrite_front : (l x : List A) → overwrite l 0 x ≡ x ++ drop (length x) l
  unfolding overwrite
  overwrite_front l x = rw (zero-add (length x))

  pub overwrite_behind : (p l x : List A) (n : ℕ) → length p ≡ n → overwrite (p ++ l) n x ≡ p ++ (x ++ drop (length x) l)
  unfolding overwrite
  overwrite_behind p l x n e = rw (← e, take-append_seam p l, drop-append-add p l (length x))

  -- in its pieces, and one that begins where another ends
  pub parted : (l : List A) (at : ℕ) (x : List A) → overwrite l at x ≡ (take at l ++ x) ++ drop (at + length x) l
  unfolding overwrite
  parted l at x = sym (append_assoc (take at l) x (drop (at + length x) l))

  pub overwrite_next : (l : List A) (at : ℕ) (x y : List A) (k : ℕ) → k ≡ at + length x → at ≤ length l
      → overwrite (overwrite l at x) k y ≡ overwrite l at (x ++ y)
  overwrite_next l at x y k e h =
      let p : length (take at l ++ x) ≡ k = length-append (take at l) x ∙ rw (length-take-le at l h) (sym e) in
      rw (parted l at x, overwrite_behind (take at l ++ x) (drop (at + length x) l) y k p, drop-drop (length y) (at + length x) l, parted l at (x ++ y), length-append x y, ← add_assoc at (length x) (length y))
      (simp append_assoc)

  pub overwrite_one : (l : List A) (i : ℕ) (x : A) → i < length l → overwrite l i (x ∷ []) ≡ set l i x
  unfolding overwrite
  overwrite_one l i x h = rw (add-one i) (sym (set_split l i x h))

-- all of x copied over a part of the same length
pub copied : {A : Type 0} (x y : List A) → length y ≤ length x → take (length x) x ++ drop (length x) y ≡ x
copied x y h = rw (take-length x, drop_of_length-le y h) (append-nil x)

-- a move within a list, an element at a time
module _ {A : Type 0} (d : A) where
  get_or-other : (l : List A) (at : ℕ) (x : List A) (k : ℕ) → (part k 1 (overwrite l at x) ≡ part k 1 l) → get_or (overwrite l at x) k d ≡ get_or l k d
  get_or-other l at x k e =
      let z : k + 0 ≡ k = add-zero k in
      rw z at (sym (get_d_part k 1 0 (overwrite l at x) d (omega arith)) ∙ ap (λ (r : List A). get_or r 0 d) e ∙ get_d_part k 1 0 l d (omega arith))

  pub overwrite_snoc : (l : List A) (at : ℕ) (x : List A) (v : A) → at + length x < length l
      → set (overwrite l at x) (at + length x) v ≡ overwrite l at (x ++ (v ∷ []))
  unfolding overwrite
  overwrite_snoc l at x v h =
      let p : length (take at l ++ x) ≡ at + length x = length-append (take at l) x ∙ rw (length-take-le at l (omega arith)) in
      let n : at + length (x ++ (v ∷ [])) ≡ suc (at + length x) = rw (length-append x (v ∷ [])) (omega arith) in
      rw (n, ← append_assoc (take at l) x (drop (at + length x) l), drop-cons l (at + length x) d h, set_at (take at l ++ x) (get_or l (at + length x) d) (drop (suc (at + length x)) l) v (at + length x) p)
      (append_assoc (take at l) x (v ∷ drop (suc (at + length x)) l) ∙ ap {B = List A} (λ r. take at l ++ r) (sym (append_assoc x (v ∷ []) (drop (suc (at + length x)) l))))

  -- one element more of x
  pub overwrite_more : (l : List A) (at : ℕ) (x : List A) (i k : ℕ) → k ≡ at + i → i < length x → k < length l
      → set (overwrite l at (take i x)) k (get_or x i d) ≡ overwrite l at (take (i + 1) x)
  overwrite_more l at x i k e h f =
      let n : length (take i x) ≡ i = length-take-le i x (omega arith) in
      rw (e, add-one i, take-suc x i d h) (rw n at (overwrite_snoc l at (take i x) (get_or x i d) (omega arith)))

  pub overwrite_cons : (l : List A) (at : ℕ) (x : List A) (v : A) → at < length l → set (overwrite l (suc at) x) at v ≡ overwrite l at (v ∷ x)
  unfolding overwrite
  overwrite_cons l at x v h =
      let p : length (take at l) ≡ at = length-take-le at l (omega arith) in
      let n : suc at + length x ≡ at + suc (length x) = omega arith in
      rw (n, take-suc l at d h, append_assoc (take at l) (get_or l at d ∷ []) (x ++ drop (at + suc (length x)) l), set_at (take at l) (get_or l at d) (x ++ drop (at + suc (length x)) l) v at p)

  part_snoc : (l : List A) (from i : ℕ) → from + i < length l → part from (i + 1) l ≡ part from i l ++ (get_or l (from + i) d ∷ [])
  unfolding part
  part_snoc l from i h = rw (add-one i, take-suc (drop from l) i d (rw (length-drop from l) (omega arith)), get_or-drop from l i d)

  part-cons : (l : List A) (from n : ℕ) → from < length l → part from (suc n) l ≡ get_or l from d ∷ part (suc from) n l
  unfolding part
  part-cons l from n h = rw (drop-cons l from d h)

  -- nothing written
  pub overwrite_none : (l : List A) (at : ℕ) → overwrite l at [] ≡ l
  unfolding overwrite
  overwrite_none l at = rw (add-zero at) (take-append-drop at l)

  pub move_none : (l : List A) (at from : ℕ) → overwrite l at (part from 0 l) ≡ l
  unfolding part overwrite
  move_none l at from = rw (add-zero at) (take-append-drop at l)

  -- a list's own part, written where it stands
  pub move_same : (l : List A) (at n : ℕ) → at + n ≤ length l → overwrite l at (part at n l) ≡ l
  unfolding part overwrite
  move_same l at n h = rw (length_part at n l h, ← drop-drop n at l, take-append-drop n (drop at l)) (take-append-drop at l)

  pub move_down : (l : List A) (to from i : ℕ) → to ≤ from → from + i < length l
      → set (overwrite l to (part from i l)) (to + i) (get_or (overwrite l to (part from i l)) (from + i) d) ≡ overwrite l to (part from (i + 1) l)
  move_down l to from i h f =
      let n : length (part from i l) ≡ i = length_part from i l (omega arith) in
      rw (get_or-other l to (part from i l) (from + i) (part-after l to (part from i l) (from + i) 1 (omega arith) (omega arith)), part_snoc l from i f)
      (rw n at (overwrite_snoc l to (part from i l) (get_or l (from + i) d) (omega arith)))

  pub move_up : (l : List A) (to from n i : ℕ) → from ≤ to → 0 < i → i ≤ n → to + n ≤ length l
      → set (overwrite l (to + i) (part (from + i) (n - i) l)) (to + (i - 1)) (get_or (overwrite l (to + i) (part (from + i) (n - i) l)) (from + (i - 1)) d) ≡ overwrite l (to + (i - 1)) (part (from + (i - 1)) (n - (i - 1)) l)
  move_up l to from n i h0 h1 h2 f =
      let len : length (part (from + i) (n - i) l) ≡ n - i = length_part (from + i) (n - i) l (omega arith) in
      let a : to + i ≡ suc (to + (i - 1)) = omega arith in
      let b : from + i ≡ suc (from + (i - 1)) = omega arith in
      let k : n - (i - 1) ≡ suc (n - i) = omega arith in
      rw (get_or-other l (to + i) (part (from + i) (n - i) l) (from + (i - 1)) (part-before l (to + i) (part (from + i) (n - i) l) (from + (i - 1)) 1 (omega arith) (omega arith)), k, part-cons l (from + (i - 1)) (n - i) (omega arith), a, b)
      (overwrite_cons l (to + (i - 1)) (part (suc (from + (i - 1))) (n - i) l) (get_or l (from + (i - 1)) d) (omega arith))

module _ {A : Type 0} where
  -- the front of an overwrite, up to its end
  pub take_overwrite : (l : List A) (at : ℕ) (x : List A) (n : ℕ) → n ≡ at + length x → at ≤ length l → take n (overwrite l at x) ≡ take at l ++ x
  unfolding overwrite
  take_overwrite l at x n e h =
      let p : length (take at l ++ x) ≡ n = length-append (take at l) x ∙ rw (length-take-le at l h) (sym e) in
      rw (← append_assoc (take at l) x (drop (at + length x) l)) (take_at (take at l ++ x) (drop (at + length x) l) n p)

  -- what stands past a of the first n
  pub part_of_take : (l : List A) (a n : ℕ) → a ≤ n → part a (n - a) l ≡ drop a (take n l)
  unfolding part
  part_of_take l a n h =
      let e : a + (n - a) ≡ n = omega arith in
      rw e at (sym (drop-take a (n - a) l))
