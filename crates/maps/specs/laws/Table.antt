-- One of the first rows of a table, row after row.
-- Assumes nothing.
use Rattle.std.specs.Prelude.{◌≡◌, Bool, true, false, ◌||◌, List, ℕ, suc, ◌+◌, ◌≤◌, ◌<◌, length, get_or, take, drop}
use Rattle.std.proofs.Common.{sym, ◌∙◌, add-one, arith, drop_of_length-le, drop-cons, get_or-take}
use Rattle.std.proofs.Math.Path.{ap}
use Rattle.std.proofs.Math.Seq.{length-take-le}
use Rattle.lists.specs.Search.{any}

module _ {A : Type 0} (f : A → Bool) (z : A) (l : List A) (n i : ℕ) (fits : n ≤ length l) where
  abbrev rest : List A
  rest = drop i (take n l)

  split : i < n → any f rest ≡ (f (get_or l i z) || any f (drop (i + 1) (take n l)))
  unfolding any
  split h =
      rw (add-one i) (ap (any f) (drop-cons (take n l) i z (omega (arith, length-take-le n l fits)))
      ∙ ap (λ (x : A). f x || any f (drop (suc i) (take n l))) (get_or-take n l i z h))

  pub any-hit : i < n → f (get_or l i z) ≡ true → any f rest ≡ true
  any-hit h e = split h ∙ ap (λ (b : Bool). b || any f (drop (i + 1) (take n l))) e

  pub any_miss : i < n → f (get_or l i z) ≡ false → any f (drop (i + 1) (take n l)) ≡ any f rest
  any_miss h e = sym (split h ∙ ap (λ (b : Bool). b || any f (drop (i + 1) (take n l))) e)

  pub any-end : n ≤ i → any f rest ≡ false
  unfolding any
  any-end h = ap (any f) (drop_of_length-le (take n l) {i = i} (omega (arith, length-take-le n l fits)))
