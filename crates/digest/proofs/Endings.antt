-- The padded end of a message in the code's last blocks, and the hash value after it.
-- Assumes nothing.
use mathlib.Core.List.{List, [], ◌∷◌, ◌++◌, append_assoc}
use mathlib.Core.Path.{◌≡◌, sym, ap, ◌∙◌}
use Prim.Native.Nat.{ℕ, zero, suc, ◌+◌, ◌-◌, ◌*◌, ◌/◌, ◌%◌, ◌^◌, ◌≤◌, ◌<◌}
use native.Mathlib.Nat.{zero-add, div-one}
use Rattle.std.specs.Int.{w32, w64, to_be_bytes}
use Rattle.std.specs.List.{flat_map}
use native.Mathlib.Omega.{arith}
use lib.ListN.{length, get_or, drop, set, replicate, length-append, length-drop, length-replicate}
use lib.ListN.{replicate-append-replicate, get_or-append}
use lib.Seq.{drop-append-le, drop-drop, get_or-drop}
use borrow.Rule.Slice.PartMut.{put_mid}
use Rattle.lists.specs.Parts.{overwrite}
use Rattle.lists.specs.PartLaws.{overwrite_front, overwrite_next, overwrite_snoc}
use Rattle.lists.specs.BigEndian.{big_endian, length-big_endian}
use Rattle.compression.specs.Compression.{block, compress}
use Rattle.compression.specs.declared.State.{State}
use Rattle.digest.specs.Sha256.{hash, bytes}
use Rattle.digest.specs.laws.Blocks.{block_agrees, hash_agrees}
use Rattle.digest.specs.Streaming.{ending, absorbed, finished}
use Rattle.digest.specs.Padding.{with_zeros, last_blocks}

pub length_bytes : (n : ℕ) → to_be_bytes w64 (n * 2 ^ 3 % 2 ^ 64) ≡ big_endian 8 (8 * n)
unfolding big_endian
length_bytes n =
    let e7 : n * 2 ^ 3 % 2 ^ 64 / 256 ^ 7 % 256 ≡ 8 * n / 256 ^ 7 % 256 = omega arith in
    let e6 : n * 2 ^ 3 % 2 ^ 64 / 256 ^ 6 % 256 ≡ 8 * n / 256 ^ 6 % 256 = omega arith in
    let e5 : n * 2 ^ 3 % 2 ^ 64 / 256 ^ 5 % 256 ≡ 8 * n / 256 ^ 5 % 256 = omega arith in
    let e4 : n * 2 ^ 3 % 2 ^ 64 / 256 ^ 4 % 256 ≡ 8 * n / 256 ^ 4 % 256 = omega arith in
    let e3 : n * 2 ^ 3 % 2 ^ 64 / 256 ^ 3 % 256 ≡ 8 * n / 256 ^ 3 % 256 = omega arith in
    let e2 : n * 2 ^ 3 % 2 ^ 64 / 256 ^ 2 % 256 ≡ 8 * n / 256 ^ 2 % 256 = omega arith in
    let e1 : n * 2 ^ 3 % 2 ^ 64 / 256 ^ 1 % 256 ≡ 8 * n / 256 ^ 1 % 256 = omega arith in
    let e0 : n * 2 ^ 3 % 2 ^ 64 % 256 ≡ 8 * n / 256 ^ 0 % 256 = omega arith in
    λ i. e7 i ∷ e6 i ∷ e5 i ∷ e4 i ∷ e3 i ∷ e2 i ∷ e1 i ∷ e0 i ∷ []

pub put_overwrite : (l x : List ℕ) (at n : ℕ) → length x ≡ n → put_mid at n l x ≡ overwrite l at x
unfolding overwrite
put_overwrite l x at n e = rw (drop-drop n at l, e)

drop-zeros : (k n : ℕ) → drop {A = ℕ} k (replicate n 0) ≡ replicate (n - k) 0
drop-zeros zero n = let e : n - 0 ≡ n = omega arith in rw e
drop-zeros (suc k) zero = let e : 0 - suc k ≡ 0 = omega arith in rw e
drop-zeros (suc k) (suc n) = let e : suc n - suc k ≡ n - k = omega arith in rw e (drop-zeros k n)

-- zeros behind x are there already
zeros-more : (x : List ℕ) (k : ℕ) → length x + k ≤ 128 → with_zeros x ≡ with_zeros (x ++ replicate k 0)
unfolding with_zeros
zeros-more x k h =
    let z : List ℕ = replicate 128 0 in
    let e : length (x ++ replicate k 0) ≡ length x + k = length-append x (replicate k 0) ∙ rw length-replicate in
    let f : 128 - length x ≡ k + (128 - (length x + k)) = omega arith in
    let r : List ℕ = replicate (128 - (length x + k)) 0 in
    rw (overwrite_front z x, overwrite_front z (x ++ replicate k 0), e, drop-zeros (length x) 128)
    (rw (drop-zeros (length x + k) 128, f, ← replicate-append-replicate {A = ℕ} k (128 - (length x + k)) 0)
    (sym (append_assoc x (replicate k 0) r)))

zeros-set : (x : List ℕ) (k v : ℕ) → length x ≡ k → k < 128 → set (with_zeros x) k v ≡ with_zeros (x ++ (v ∷ []))
unfolding with_zeros
zeros-set x k v e h = rw (← e) (rw (zero-add (length x)) at (overwrite_snoc 0 (replicate 128 0) 0 x v (omega arith)))

zeros-next : (x y : List ℕ) (k : ℕ) → k ≡ length x → overwrite (with_zeros x) k y ≡ with_zeros (x ++ y)
unfolding with_zeros
zeros-next x y k e = overwrite_next (replicate 128 0) 0 x y k (omega arith) (omega arith)

module _ (m : List ℕ) (n : ℕ) where
  abbrev zeros : ℕ
  zeros = (119 - length m % 64) % 64

  abbrev tail : List ℕ
  tail = replicate zeros 0 ++ big_endian 8 (8 * n)

  abbrev whole : ℕ
  whole = length m / 64 * 64

  length-tail : length tail ≡ zeros + 8
  length-tail = length-append (replicate zeros 0) (big_endian 8 (8 * n)) ∙ rw (length-replicate, length-big_endian)

  pub length-ending : length (ending m n) ≡ length m + (1 + (zeros + 8))
  unfolding ending
  length-ending = omega (arith, length-append m (0x80 ∷ tail), length-tail)

  pub ending-front : (i : ℕ) → i < length m → get_or (ending m n) i 0 ≡ get_or m i 0
  unfolding ending
  ending-front i h = get_or-append m (0x80 ∷ tail) 0 i h

  last-at : (k : ℕ) → whole + k < length (ending m n) → get_or (last_blocks m n) k 0 ≡ get_or (ending m n) (whole + k) 0
  unfolding last_blocks with_zeros
  last-at k h =
      let x = drop whole (ending m n) in
      rw (overwrite_front (replicate 128 0) x)
      (get_or-append x _ 0 k (rw length-drop (omega arith)) ∙ get_or-drop whole (ending m n) k 0)

  -- the rest, a one bit, and the length
  pub ended : (t r : List ℕ) (e : ℕ) → t ≡ with_zeros (drop whole m) → e ≡ length m % 64 + suc zeros
      → r ≡ overwrite (set t (length m % 64) 0x80) e (big_endian 8 (8 * n)) → r ≡ last_blocks m n
  unfolding last_blocks ending
  ended t r e rest at put =
      let x = drop whole m in
      let y = x ++ (0x80 ∷ []) in
      let l : length x ≡ length m % 64 = length-drop whole m ∙ omega arith in
      let k : length y ≡ suc (length m % 64) = length-append x (0x80 ∷ []) ∙ omega arith in
      let z = y ++ replicate zeros 0 in
      let g : e ≡ length z = sym (length-append y (replicate zeros 0) ∙ rw length-replicate (omega arith)) in
      put ∙ rw (rest, zeros-set x _ 0x80 l (omega arith), zeros-more y zeros (omega arith))
      (zeros-next z (big_endian 8 (8 * n)) e g
      ∙ ap with_zeros (rw (drop-append-le whole m (0x80 ∷ tail) (omega arith)) (simp append_assoc)))

-- one block more, of the last blocks
hash-last : (s₀ s : State) (m : List ℕ) (n : ℕ) (r : List ℕ) (i j : ℕ) → r ≡ last_blocks m n
    → i ≡ length m / 64 + j → s ≡ hash s₀ (ending m n) i
    → 64 * i + 64 ≤ length (ending m n) → compress s (block r (64 * j)) ≡ hash s₀ (ending m n) (suc i)
unfolding hash
hash-last s₀ s m n r i j last at e h =
    rw (
      e,
      block_agrees r (ending m n) (64 * j) (64 * i)
          (λ k l. ap (λ (x : List ℕ). get_or x (64 * j + k) 0) last ∙ last-at m n (64 * j + k) (omega arith)
          ∙ ap (λ (x : ℕ). get_or (ending m n) x 0) (omega arith)),
    )

module _ (s₀ : State) (m : List ℕ) (n : ℕ) (r : List ℕ) (s s1 : State) (last : r ≡ last_blocks m n)
    (start : s ≡ absorbed s₀ m) (one : s1 ≡ compress s (block r 0)) where
  hash-whole : s ≡ hash s₀ (ending m n) (length m / 64)
  unfolding absorbed
  hash-whole = start ∙ hash_agrees s₀ m (ending m n) (length m / 64) (λ k h. sym (ending-front m n k (omega arith)))

  hash-one : s1 ≡ hash s₀ (ending m n) (suc (length m / 64))
  hash-one = one ∙ hash-last s₀ s m n r (length m / 64) 0 last (omega arith) hash-whole
      (omega (arith, length-ending m n))

  pub one_block : length m % 64 < 56 → bytes s1 ≡ finished s₀ m n
  unfolding finished
  one_block h = ap bytes (hash-one ∙ ap (hash s₀ (ending m n)) (omega (arith, length-ending m n)))

  pub two_blocks : (s2 : State) → s2 ≡ compress s1 (block r 64) → 56 ≤ length m % 64 → bytes s2 ≡ finished s₀ m n
  unfolding finished
  two_blocks s2 two h =
      ap bytes
      (two ∙ hash-last s₀ s1 m n r (suc (length m / 64)) 1 last (omega arith) hash-one
      (omega (arith, length-ending m n))
      ∙ ap (hash s₀ (ending m n)) (omega (arith, length-ending m n)))

-- the bytes of a hash value, of the bytes of its words
pub spread : (s : State) {a b c d e f g h : List ℕ} → a ≡ to_be_bytes w32 s.a → b ≡ to_be_bytes w32 s.b
    → c ≡ to_be_bytes w32 s.c → d ≡ to_be_bytes w32 s.d → e ≡ to_be_bytes w32 s.e → f ≡ to_be_bytes w32 s.f
    → g ≡ to_be_bytes w32 s.g → h ≡ to_be_bytes w32 s.h
    → flat_map (λ (x : List ℕ). x) (a ∷ b ∷ c ∷ d ∷ e ∷ f ∷ g ∷ h ∷ []) ≡ bytes s
unfolding bytes big_endian
spread s pa pb pc pd pe pf pg ph = rw (pa, pb, pc, pd, pe, pf, pg, ph) (simp div-one)
