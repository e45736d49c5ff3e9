-- Searches and counts over the first n elements of a list, by what remains behind the first i of them.
-- Assumes nothing.
use Rattle.std.specs.Prelude.{◌≡◌, refl, Bool, true, false, ◌&&◌, get_or, take, drop, set, ltb, eqb}
use Rattle.std.proofs.Math.Path.{ap, sym}
use Rattle.std.proofs.Common.{◌∙◌, zero-add, get_or-take, length-take-le, get_or-set_same, get_or-set_other, ltb-true, ltb-false, eqb-true, ne_eqb}
use mathlib.Core.List.{List, ◌∷◌}
use Prim.Native.Nat.{ℕ, zero, suc, ◌+◌, ◌≤◌, ◌<◌}
use Rattle.std.proofs.Math.Nat.{add-zero}
use Rattle.std.proofs.Math.Numerals.{add-one}
use native.Mathlib.Omega.{arith}
use Rattle.std.proofs.Math.ListN.{length}
use Rattle.std.proofs.lemmas.Bool.{eqb-false}
use Rattle.lists.specs.Pick.{pick_true, pick-false}
use Rattle.lists.specs.Search.{place, select}
use Rattle.lists.specs.Equal.{equal}
use Rattle.filesystem.specs.Tables.{Node, no_node, node_at, is_child}
use Rattle.tables.specs.View.{Others, hash_of}
use Rattle.lists.specs.Scans.{scan-here, scan_on, scan-end, rest, rest_none}

module _ {A : Type 0} (z : A) (l : List A) (n i : ℕ) (fits : n ≤ length l) where
  module _ (f : A → Bool) where
    module _ (inv : place f (take n l) ≡ i + place f (drop i (take n l))) where
      size : length (take n l) ≡ n
      size = length-take-le n l fits

      pub place_hit : i < n → f (get_or l i z) ≡ true → place f (take n l) ≡ i
      place_hit h e = sym (scan-here f z _ (take n l) i inv (rw size h) (rw (get_or-take n l i z h) e))

      pub place_miss : i < n → f (get_or l i z) ≡ false → place f (take n l) ≡ i + 1 + place f (drop (i + 1) (take n l))
      place_miss h e = scan_on f z _ (take n l) i inv (rw size h) (rw (get_or-take n l i z h) e)

      pub place_end : n ≤ i → place f (take n l) ≡ i
      place_end h = sym (scan-end f z _ (take n l) i inv (rw size h))

    module _ (c : ℕ) (inv : length (select f (take n l)) ≡ c + length (select f (drop i (take n l)))) where
      pub count_hit : i < n → f (get_or l i z) ≡ true → length (select f (take n l)) ≡ c + 1 + length
          (select f (drop (i + 1) (take n l)))
      unfolding select
      count_hit h e =
          let r : List A = select f (drop (i + 1) (take n l)) in
          inv ∙ ap (λ r. c + length (select f r)) (rest z l n i fits h)
          ∙ ap (λ (r : List A). c + length r) (pick_true (f (get_or l i z)) (get_or l i z ∷ r) r e) ∙ omega arith

      pub count_miss : i < n → f (get_or l i z) ≡ false → length (select f (take n l)) ≡ c + length
          (select f (drop (i + 1) (take n l)))
      unfolding select
      count_miss h e =
          let r : List A = select f (drop (i + 1) (take n l)) in
          inv ∙ ap (λ r. c + length (select f r)) (rest z l n i fits h)
          ∙ ap (λ (r : List A). c + length r) (pick-false (f (get_or l i z)) (get_or l i z ∷ r) r e)

      pub count-end : n ≤ i → length (select f (take n l)) ≡ c
      unfolding select
      count-end h = inv ∙ ap (λ r. c + length (select f r)) (rest_none z l n i fits h) ∙ add-zero c

-- nodes that have another parent, joined and passed over
module _ (ns : List Node) (parent : ℕ) where
  pub others_one : (a b : ℕ) → b ≤ a + 1 → ((node_at ns a).parent ≡ parent → ⊥) → Others ns parent a b
  others_one a b s d k h l e = let q : k ≡ a = omega arith in d (rw q at e)

  pub others_join : (a b c d : ℕ) → d ≤ c → Others ns parent a b → Others ns parent b c → Others ns parent a d
  others_join a b c d s p q k h l = go (ltb k b) refl
    where
      go : (t : Bool) → ltb k b ≡ t → (node_at ns k).parent ≡ parent → ⊥
      go true e = p k h (ltb-true k b e)
      go false e = q k (ltb-false k b e) (omega arith)

  pub others_passed : (n r : ℕ) (name : List ℕ) → n ≤ length ns → r ≤ n → Others ns parent 0 r
      → place (is_child parent name) (take n ns) ≡ r + place (is_child parent name) (drop r (take n ns))
  unfolding node_at
  others_passed n zero name f h o = sym (zero-add _)
  others_passed n (suc r) name f h o =
      rw (← add-one r)
      (place_miss no_node ns n r f (is_child parent name) (others_passed n r name f (omega arith)
      (λ k a l. o k a (omega arith))) (omega arith)
      (ap (λ t. t && equal (get_or ns r no_node).name name) (ne_eqb _ _ (o r (omega arith) (omega arith)))))

-- the places of first children, one node more before the others
module _ (ns : List Node) (n k : ℕ) (f : List ℕ) (h : ℕ) (within : h < length f)
    (hashed : h ≡ hash_of (node_at ns k).parent) where
  pub first-set : ((j : ℕ) → k < j → j < n → get_or f (hash_of (node_at ns j).parent) 0 ≤ j)
      → (j : ℕ) → k ≤ j → j < n → get_or (set f h k) (hash_of (node_at ns j).parent) 0 ≤ j
  first-set before j a b = go (eqb (hash_of (node_at ns j).parent) h) refl
    where
      go : (t : Bool) → eqb (hash_of (node_at ns j).parent) h ≡ t → get_or (set f h k) (hash_of (node_at ns j).parent) 0 ≤ j
      go true e = rw (eqb-true (hash_of (node_at ns j).parent) h e, get_or-set_same f h k 0) a
      go false e =
          let other : hash_of (node_at ns j).parent ≡ h → ⊥ = eqb-false (hash_of (node_at ns j).parent) h e in
          let apart : j ≡ k → ⊥ = λ q. other (ap (λ i. hash_of (node_at ns i).parent) q ∙ sym hashed) in
          rw (get_or-set_other f h (hash_of (node_at ns j).parent) k 0) (before j (omega arith) b)
