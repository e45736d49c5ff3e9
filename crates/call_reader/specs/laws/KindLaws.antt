-- The kinds with a path, told apart.
-- Assumes nothing.
use Rattle.std.specs.Prelude.{◌≡◌, ℕ, ◌≤◌}
use Rattle.std.proofs.Common.{arith}
use Rattle.call_reader.specs.Meaning.{NumberFits}

-- the last kind is none of those above
above_three : (k : ℕ) → 1 ≤ k → (k ≡ 1 → ⊥) → (k ≡ 2 → ⊥) → (k ≡ 3 → ⊥) → 4 ≤ k
above_three k l a b d = omega arith

the_last : (k : ℕ) → 9 ≤ k → k ≤ 13 → (k ≡ 9 → ⊥) → (k ≡ 10 → ⊥) → (k ≡ 11 → ⊥) → (k ≡ 12 → ⊥) → k ≡ 13
the_last k l m a b d e = omega arith

pub last_kind : (k n : ℕ) → NumberFits k n → (k ≡ 1 → ⊥) → (k ≡ 2 → ⊥) → (k ≡ 3 → ⊥) → (k ≡ 9 → ⊥) → (k ≡ 10 → ⊥)
    → (k ≡ 11 → ⊥) → (k ≡ 12 → ⊥) → k ≡ 13
last_kind k n f a b d = the_last k (f.between (above_three k f.least a b d)) f.most
