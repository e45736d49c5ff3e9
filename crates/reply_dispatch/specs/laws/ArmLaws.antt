-- The last arms of a match.
-- Assumes nothing.
use Rattle.std.specs.Prelude.{◌≡◌, ℕ, ◌+◌, ◌≤◌}
use Rattle.std.proofs.Common.{arith}

-- the last arm of a match: the number is none of those above
pub last_of-five : (k n : ℕ) → k ≤ n → n ≤ k + 4 → (n ≡ k → ⊥) → (n ≡ k + 1 → ⊥) → (n ≡ k + 2 → ⊥) → (n ≡ k + 3 → ⊥)
    → n ≡ k + 4
last_of-five k n from to p q r s = omega arith

pub above_three : (k n : ℕ) → k ≤ n → (n ≡ k → ⊥) → (n ≡ k + 1 → ⊥) → (n ≡ k + 2 → ⊥) → k + 3 ≤ n
above_three k n from p q r = omega arith
