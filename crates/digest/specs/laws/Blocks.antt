-- The hash value after some blocks depends on the bytes of those blocks alone, and goes on from block to block.
-- Assumes nothing.
use Rattle.std.specs.Prelude.{List, ◌++◌, ◌≡◌, refl, ℕ, zero, suc, ◌+◌, ◌*◌, ◌<◌, length, get_or}
use Rattle.std.proofs.Common.{sym, ap, ◌∙◌, add-zero, add-suc, arith, get_or-append-add}
use Rattle.std.proofs.Math.Nat.{add_assoc}
use Rattle.std.proofs.Math.ListN.{get_or-append}
use Rattle.compression.specs.Compression.{word, block}
use Rattle.compression.specs.declared.State.{State}
use Rattle.digest.specs.Sha256.{hash}

module _ (p q : List ℕ) (a b : ℕ) (h : (k : ℕ) → k < 64 → get_or p (a + k) 0 ≡ get_or q (b + k) 0) where
  word_agrees : (k : ℕ) → k < 61 → word p (a + k) ≡ word q (b + k)
  unfolding word
  word_agrees k l =
      rw (
        add_assoc a k 1,
        add_assoc a k 2,
        add_assoc a k 3,
        add_assoc b k 1,
        add_assoc b k 2,
        add_assoc b k 3,
        h k (omega arith),
        h (k + 1) (omega arith),
        h (k + 2) (omega arith),
        h (k + 3) (omega arith),
      )

  pub block_agrees : block p a ≡ block q b
  unfolding block
  block_agrees =
      rw (
        word_agrees 0 (omega arith),
        word_agrees 4 (omega arith),
        word_agrees 8 (omega arith),
        word_agrees 12 (omega arith),
        word_agrees 16 (omega arith),
        word_agrees 20 (omega arith),
        word_agrees 24 (omega arith),
        word_agrees 28 (omega arith),
        word_agrees 32 (omega arith),
        word_agrees 36 (omega arith),
        word_agrees 40 (omega arith),
        word_agrees 44 (omega arith),
        word_agrees 48 (omega arith),
        word_agrees 52 (omega arith),
        word_agrees 56 (omega arith),
        word_agrees 60 (omega arith),
      )

-- lists that agree on the first i blocks
pub hash_agrees : (s : State) (p q : List ℕ) (i : ℕ) → ((k : ℕ) → k < 64 * i → get_or p k 0 ≡ get_or q k 0)
    → hash s p i ≡ hash s q i
unfolding hash
hash_agrees s p q zero h = refl
hash_agrees s p q (suc i) h =
    rw (
      hash_agrees s p q i (λ k l. h k (omega arith)),
      block_agrees p q (64 * i) (64 * i)
          (λ k l. h (64 * i + k) (omega arith)),
    )

-- the blocks of p after the blocks of xs
pub hash-append : (s : State) (xs p : List ℕ) (i j : ℕ) → length xs ≡ 64 * i → hash (hash s xs i) p j ≡ hash s (xs ++ p)
    (i + j)
unfolding hash
hash-append s xs p i zero e = rw add-zero
    (hash_agrees s xs (xs ++ p) i (λ k l. sym (get_or-append xs p 0 k (omega arith))))
hash-append s xs p i (suc j) e =
    rw (
      add-suc,
      hash-append s xs p i j e,
      block_agrees p (xs ++ p) (64 * j) (64 * (i + j)) (λ k l. sym (ap (λ (n : ℕ). get_or (xs ++ p) n 0) (omega arith)
          ∙ get_or-append-add xs p (64 * j + k) 0)),
    )
