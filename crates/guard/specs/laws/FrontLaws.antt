-- The front of a memory, memory_size bytes, holds what the memory holds; what lies behind it is no part of the guard.
-- Assumes nothing.
use Rattle.std.specs.Prelude.{◌≡◌, refl, List, [], ◌∷◌, ◌++◌, ℕ, ◌+◌, ◌≤◌, length, take, drop}
use Rattle.std.proofs.Common.{ap, ap₂, sym, ◌∙◌, subst, arith, length-append, length-drop, length-take-le}
use Rattle.std.proofs.Math.Seq.{take-append_seam, drop-append_seam}
use Rattle.lists.specs.Parts.{part}
use Rattle.lists.specs.PartLaws.{part-part}
use Rattle.lists.specs.Areas.{total, areas}
use Rattle.memory.specs.Layout.{Mem, mem_of, mem_from, memory_size, area_sizes}
use Rattle.tables.specs.View.{view_of}
use Rattle.configuration.specs.Delivered.{delivered}
use Rattle.guard_state.specs.State.{numbers_of, state_in, state_of}
use Rattle.guard.specs.Promise.{GuardState, held, Own}

inside : (l : List ℕ) (n b k : ℕ) → b + k ≤ n → part b k (take n l) ≡ part b k l
unfolding part
inside l n b k h = let e : 0 + b ≡ b = omega arith in part-part 0 n b k l h ∙ ap (λ (i : ℕ). take k (drop i l)) e

-- areas that end within the first n elements
areas_front : (l : List ℕ) (n : ℕ) (ns : List ℕ) (a : ℕ) → a + total ns ≤ n → areas a ns (take n l) ≡ areas a ns l
areas_front l n [] a h = refl
areas_front l n (k ∷ ns) a h =
    ap₂ {B = List (List ℕ)} {C = List (List ℕ)} (λ p q. p ∷ q) (inside l n a k (omega arith))
    (areas_front l n ns (a + k) (omega arith))

pub held-front : (m : List ℕ) → held (take memory_size m) ≡ held m
unfolding state_of mem_of
held-front m =
    ap (λ (x : Mem). let g = numbers_of x.head in state_in delivered g (view_of g.nodes g.opens x))
    (ap mem_from (areas_front m memory_size area_sizes 0 (omega arith)))

pub front-size : (m : List ℕ) → memory_size ≤ length m → length (take memory_size m) ≡ memory_size
front-size m h = length-take-le memory_size m h

-- m with another front f
module _ (m f : List ℕ) (long : memory_size ≤ length m) (same : length f ≡ length (take memory_size m)) where
  size : length f ≡ memory_size
  size = same ∙ front-size m long

  held-joined : held (f ++ drop memory_size m) ≡ held f
  held-joined =
      sym (held-front (f ++ drop memory_size m))
      ∙ ap held (ap (λ (n : ℕ). take n (f ++ drop memory_size m)) (sym size) ∙ take-append_seam f (drop memory_size m))

  -- what is said of the two fronts' states is said of the memories'
  pub of_fronts : (P : GuardState → GuardState → Type 0) → P (held (take memory_size m)) (held f)
      → P (held m) (held (f ++ drop memory_size m))
  of_fronts P p = subst (P (held m)) (sym held-joined) (subst (λ (s : GuardState). P s (held f)) (held-front m) p)

  pub front-own : Own m (f ++ drop memory_size m)
  front-own = record {
    same_length = length-append f (drop memory_size m) ∙ omega (arith, size, length-drop memory_size m);
    behind = ap (λ (n : ℕ). drop n (f ++ drop memory_size m)) (sym size) ∙ drop-append_seam f (drop memory_size m);
  }
