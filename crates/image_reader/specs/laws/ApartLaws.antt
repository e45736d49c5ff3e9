-- Records that stand apart: one more, and what a record that does not says of soundness.
-- Assumes nothing.
use Rattle.std.specs.Prelude.{◌≡◌, refl, true, false, ◌&&◌, List, ℕ, zero, suc, ◌+◌, ◌<◌, eqb, length}
use Rattle.std.proofs.Common.{ap, sym, ◌∙◌, subst, true≢false, arith, eqb-true, eq-eqb}
use Rattle.std.proofs.lemmas.Bool.{eqb-false}
use Rattle.lists.specs.Equal.{Is, is_t, is_f, is, equal_true, equal_yes, and_fst, and_snd, and_both}
use Rattle.filesystem.specs.Tables.{Node}
use Rattle.filesystem.specs.Image.{Layout, in_limits, is_named, same_child}
use Rattle.filesystem.specs.Sound.{Sound}
use Rattle.image_records.specs.Records.{nodes_from}
use Rattle.image_records.specs.laws.RecordLaws.{length_from}
use Rattle.image_reader.specs.Judged.{node_on, Located, Siblings, Apart}
use Rattle.image_reader.specs.laws.PlaceLaws.{located_node}

pub are_siblings : (m n : Node) → same_child m n ≡ true → Siblings m n
are_siblings m n e = (eqb-true _ _ (and_fst _ _ e), equal_true _ _ (and_snd (eqb m.parent n.parent) _ e))

pub not_siblings : (m n : Node) → same_child m n ≡ false → Siblings m n → ⊥
not_siblings m n e (p, q) = true≢false (sym (and_both _ _ (eq-eqb m.parent n.parent p)
    (equal_yes m.name n.name q)) ∙ e)

module _ (w : ℕ) (node : ℕ → Node) where
  pub apart_first : in_limits w (node 0) ≡ true → Apart w node 1
  apart_first e = record {
    limits = λ k h. only k h;
    names = λ k p h. absurd (omega arith);
    ids = λ i j h l e. omega arith;
    siblings = λ i j h l e. omega arith;
  }
    where
      only : (k : ℕ) → k < 1 → in_limits w (node k) ≡ true
      only zero h = e
      only (suc k) h = absurd (omega arith)

  module _ (i : ℕ) (a : Apart w node i) (l : in_limits w (node i) ≡ true) (n : is_named (node i) ≡ true)
      (own_id : (j : ℕ) → j < i → (node j).id ≡ (node i).id → ⊥)
      (own_name : (j : ℕ) → j < i → Siblings (node j) (node i) → ⊥) where
    -- what holds of those before and of the new one
    each : (P : ℕ → Type 0) → ((k : ℕ) → k < i → P k) → P i → (k : ℕ) → k < i + 1 → P k
    each P f g k h = go (is (eqb k i))
      where
        go : Is (eqb k i) → P k
        go (is_t e) = subst P (sym (eqb-true k i e)) g
        go (is_f e) = let d = eqb-false k i e in f k (omega arith)

    -- a relation that none before has to the new one
    two : (R : ℕ → ℕ → Type 0) → ((j k : ℕ) → R j k → R k j) → ((j k : ℕ) → j < i → k < i → R j k → j ≡ k)
        → ((j : ℕ) → j < i → R j i → ⊥)
        → (j k : ℕ) → j < i + 1 → k < i + 1 → R j k → j ≡ k
    two R turn f g j k h m =
        each (λ j. R j k → j ≡ k)
        (λ j h. each (λ k. R j k → j ≡ k) (λ k m. f j k h m) (λ r. absurd (g j h r)) k m)
        (each (λ k. R i k → i ≡ k) (λ k m r. absurd (g k m (turn i k r))) (λ r. refl) k m) j h

    pub apart_next : Apart w node (i + 1)
    apart_next = record {
      limits = each (λ k. in_limits w (node k) ≡ true) a.limits l;
      names = λ k p h. each (λ k. 0 < k → is_named (node k) ≡ true) (λ k h p. a.names k p h) (λ p. n) k h p;
      ids = two (λ j k. (node j).id ≡ (node k).id) (λ j k e. sym e) a.ids own_id;
      siblings = two (λ j k. Siblings (node j) (node k)) (λ j k e. (sym e.0, sym e.1)) a.siblings own_name;
    }

-- A record that does not stand apart, and sound nodes.
module _ {y : Layout} {s starts : List ℕ} {n : ℕ} (d : Located y s starts n)
    (t : Sound y.id_bytes (nodes_from y s 4 n)) where
  many : length (nodes_from y s 4 n) ≡ n
  many = length_from y s 4 n

  pub sound_stands : (k : ℕ) → 0 < k → k < n → (in_limits y.id_bytes (node_on y s starts k)
      && is_named (node_on y s starts k)) ≡ true
  sound_stands k p h =
      subst (λ x. (in_limits y.id_bytes x && is_named x) ≡ true) (sym (located_node d k h))
      (and_both _ _ (t.limits k (omega (arith, many))) (t.names k p (omega (arith, many))))

  pub sound_ids : (i j : ℕ) → i < n → j < n → (node_on y s starts i).id ≡ (node_on y s starts j).id → i ≡ j
  sound_ids i j h l e =
      t.ids i j (omega (arith, many)) (omega (arith, many))
      (ap (λ x. x.id) (sym (located_node d i h)) ∙ (e ∙ ap (λ x. x.id) (located_node d j l)))

  pub sound_siblings : (i j : ℕ) → i < n → j < n → Siblings (node_on y s starts i) (node_on y s starts j) → i ≡ j
  sound_siblings i j h l e =
      t.siblings i j (omega (arith, many)) (omega (arith, many))
      (ap (λ x. x.parent) (sym (located_node d i h)) ∙ (e.0 ∙ ap (λ x. x.parent) (located_node d j l)))
      (ap (λ x. x.name) (sym (located_node d i h)) ∙ (e.1 ∙ ap (λ x. x.name) (located_node d j l)))
