-- What an iterator's `all` answers, as a test of each element.
-- Assumes nothing.
use Rattle.std.specs.Prelude.{◌≡◌, Bool, true, false, List, ℕ, ◌<◌, length}
use Rattle.std.specs.Bool.{MatchBool}
use Rattle.std.specs.List.{AllWithin, HoldsAt}
use Rattle.std.proofs.Common.{sym, ◌∙◌, true≢false, arith}
use Rattle.lists.specs.Equal.{Is, is_t, is_f, is}
use Rattle.lists.specs.Search.{every}
use Rattle.lists.specs.Places.{every-at, at_every}

module _ {A : Type 0} (f : A → Bool) (z : A) (xs : List A) where
  pub all-every : (r : Bool)
      → MatchBool r (AllWithin (λ x. f x ≡ true) xs 0 (length xs))
      ((k : ℕ) × (k < length xs) × HoldsAt (λ x. f x ≡ false) xs k)
      → r ≡ every f xs
  all-every true a = sym (at_every f z xs (λ k h. a k z (omega arith) h))
  all-every false (k, h, n) = go (is (every f xs))
    where
      go : Is (every f xs) → false ≡ every f xs
      go (is_f e) = sym e
      go (is_t e) = absurd (true≢false (sym (every-at f z xs k e h) ∙ n z))
