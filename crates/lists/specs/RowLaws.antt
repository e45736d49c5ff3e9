-- Laws of a list cut into rows: rows of a part are a part of the rows, and rows of an overwrite an overwrite of the rows. Over any element and width; assumes nothing.
use Prim.Native.Nat.{ℕ, zero, suc, ◌+◌, ◌-◌, ◌*◌, ◌<◌, ◌≤◌}
use Rattle.std.specs.Prelude.{◌≡◌, get_or, set}
use Rattle.std.proofs.Math.Path.{refl, sym, ap}
use Rattle.std.proofs.Common.{◌∙◌, zero-add, suc-add, one-mul, mul-le-mul_right, length-drop, take-append-drop, take_all}
use mathlib.Core.List.{List, [], ◌∷◌, ◌++◌}
use Rattle.std.proofs.Math.Nat.{suc-mul, add_comm, zero-mul, add-mul}
use native.Mathlib.Omega.{arith}
use Rattle.std.proofs.Math.ListN.{length, take, drop}
use Rattle.std.proofs.Math.Seq.{drop-drop, length-take-le, take-append-le, drop-append-le}
use Rattle.lists.specs.Parts.{part, overwrite}
use Rattle.lists.specs.Rows.{rows}
use Rattle.lists.specs.PartLaws.{length_part, length_overwrite, overwrite_one, overwrite_part}

-- row i ends within the first m rows
pub row_fits : (w m i : ℕ) → i < m → i * w + w ≤ m * w
row_fits w m i h = rw suc-mul at (mul-le-mul_right {m = suc i} {n = m} w (omega arith))

module _ {A : Type 0} (w : ℕ) where
  pub length-rows : (n : ℕ) (b : List A) → length (rows w n b) ≡ n
  unfolding rows
  length-rows zero b = refl
  length-rows (suc n) b = ap suc (length-rows n (drop w b))

  pub row_at : (n : ℕ) (b : List A) (i : ℕ) → i < n → get_or (rows w n b) i [] ≡ part (i * w) w b
  unfolding rows part
  row_at zero b i h = absurd (omega arith)
  row_at (suc n) b zero h = rw (zero-mul w)
  row_at (suc n) b (suc i) h = row_at n (drop w b) i (omega arith) ∙ rw (drop-drop (i * w) w b, suc-mul i w, add_comm (i * w) w)

  -- the first rows, and the rest
  rows_take : (n k : ℕ) (b : List A) → take n (rows w (n + k) b) ≡ rows w n b
  unfolding rows
  rows_take zero k b = refl
  rows_take (suc n) k b = rw (suc-add n k) (ap {B = List (List A)} (λ r. take w b ∷ r) (rows_take n k (drop w b)))

  rows_drop : (n k : ℕ) (b : List A) → drop n (rows w (n + k) b) ≡ rows w k (drop (n * w) b)
  unfolding rows
  rows_drop zero k b = rw (zero-add k, zero-mul w)
  rows_drop (suc n) k b = rw (suc-add n k, suc-mul n w, add_comm (n * w) w, ← drop-drop (n * w) w b) (rows_drop n k (drop w b))

  -- only the first n * w elements count
  rows-front : (n : ℕ) (a b : List A) → n * w ≤ length a → rows w n (a ++ b) ≡ rows w n a
  unfolding rows
  rows-front zero a b h = refl
  rows-front (suc n) a b h =
      let g : n * w + w ≤ length a = rw (suc-mul n w) at h in
      rw (take-append-le w a b (omega arith), drop-append-le w a b (omega arith))
      (ap {B = List (List A)} (λ r. take w a ∷ r) (rows-front n (drop w a) b (rw (length-drop w a) (omega arith))))

  rows_append : (n k : ℕ) (a b : List A) → length a ≡ n * w → rows w (n + k) (a ++ b) ≡ rows w n a ++ rows w k b
  unfolding rows
  rows_append zero k [] b e = rw (zero-add k)
  rows_append zero k (x ∷ a) b e = absurd (let z : length (x ∷ a) ≡ 0 = rw (zero-mul w) at e in omega arith)
  rows_append (suc n) k a b e =
      let g : length a ≡ n * w + w = rw (suc-mul n w) at e in
      rw (suc-add n k, take-append-le w a b (omega arith), drop-append-le w a b (omega arith))
      (ap {B = List (List A)} (λ r. take w a ∷ r) (rows_append n k (drop w a) b (rw (length-drop w a) (omega arith))))

  rows_of_take : (n : ℕ) (b : List A) → n * w ≤ length b → rows w n (take (n * w) b) ≡ rows w n b
  rows_of_take n b h =
      sym (rows-front n (take (n * w) b) (drop (n * w) b) (rw (length-take-le (n * w) b h) (omega arith))) ∙ rw (take-append-drop (n * w) b)

  inside : (b : List A) (i n c : ℕ) → (i + (n + c)) * w ≤ length b → rows w n (part (i * w) (n * w) b) ≡ part i n (rows w (i + (n + c)) b)
  unfolding part
  inside b i n c f =
      let g : i * w + (n * w + c * w) ≤ length b = rw (add-mul i (n + c) w, add-mul n c w) at f in
      rows_of_take n (drop (i * w) b) (rw (length-drop (i * w) b) (omega arith))
      ∙ sym (rows_take n c (drop (i * w) b))
      ∙ ap (take n) (sym (rows_drop i (n + c) b))

  pub rows-part : (m : ℕ) (b : List A) (i n : ℕ) → i + n ≤ m → m * w ≤ length b → rows w n (part (i * w) (n * w) b) ≡ part i n (rows w m b)
  rows-part m b i n h f =
      let e : i + (n + (m - (i + n))) ≡ m = omega arith in
      rw e at (inside b i n (m - (i + n)) (rw e f))

  over : (b : List A) (i k c : ℕ) (x : List A) → length x ≡ k * w → (i + (k + c)) * w ≤ length b
      → rows w (i + (k + c)) (overwrite b (i * w) x) ≡ overwrite (rows w (i + (k + c)) b) i (rows w k x)
  unfolding overwrite
  over b i k c x e f =
      let g : i * w + (k * w + c * w) ≤ length b = rw (add-mul i (k + c) w, add-mul k c w) at f in
      let a : length (take (i * w) b) ≡ i * w = length-take-le (i * w) b (omega arith) in
      let s : i + (k + c) ≡ i + k + c = omega arith in
      rw (rows_append i (k + c) (take (i * w) b) (x ++ drop (i * w + length x) b) a, rows_append k c x (drop (i * w + length x) b) e, rows_of_take i b (omega arith), rows_take i (k + c) b, length-rows k x, e)
      (ap {B = List (List A)} (λ r. rows w i b ++ (rows w k x ++ r)) (rw (s, rows_drop (i + k) c b, add-mul i k w)))

  pub rows_overwrite : (m : ℕ) (b : List A) (i k : ℕ) (x : List A) → length x ≡ k * w → i + k ≤ m → m * w ≤ length b
      → rows w m (overwrite b (i * w) x) ≡ overwrite (rows w m b) i (rows w k x)
  rows_overwrite m b i k x e h f =
      let s : i + (k + (m - (i + k))) ≡ m = omega arith in
      rw s at (over b i k (m - (i + k)) x e (rw s f))

  -- one row
  pub rows-set : (m : ℕ) (b : List A) (i : ℕ) (x : List A) → length x ≡ w → i < m → m * w ≤ length b → rows w m (overwrite b (i * w) x) ≡ set (rows w m b) i x
  unfolding rows
  rows-set m b i x e h f =
      let one : length x ≡ 1 * w = e ∙ sym (one-mul w) in
      let full : length (rows w m b) ≡ m = length-rows m b in
      rows_overwrite m b i 1 x one (omega arith) f
      ∙ ap {B = List (List A)} (λ r. overwrite (rows w m b) i (r ∷ [])) (take_all w x (omega arith))
      ∙ overwrite_one (rows w m b) i x (omega arith)

  -- an overwrite inside row i
  pub rows_within : (m : ℕ) (b : List A) (i k : ℕ) (x : List A) → k + length x ≤ w → i < m → m * w ≤ length b
      → rows w m (overwrite b (i * w + k) x) ≡ set (rows w m b) i (overwrite (get_or (rows w m b) i []) k x)
  rows_within m b i k x g h f =
      let e : i * w + w ≤ m * w = row_fits w m i h in
      let p : length (part (i * w) w b) ≡ w = length_part (i * w) w b (omega arith) in
      let q : length (overwrite (part (i * w) w b) k x) ≡ w = length_overwrite (part (i * w) w b) k x (omega arith) ∙ p in
      ap (rows w m) (overwrite_part b (i * w) w k x g (omega arith))
      ∙ rows-set m b i (overwrite (part (i * w) w b) k x) q h f
      ∙ ap {B = List (List A)} (λ r. set (rows w m b) i (overwrite r k x)) (sym (row_at m b i h))
