-- Parents' places, one by one, and as ways to the root.
-- Assumes nothing.
use Rattle.std.specs.Prelude.{◌≡◌, refl, List, ℕ, suc, ◌+◌, ◌≤◌, ◌<◌, length, set}
use Rattle.std.proofs.Common.{ap, sym, ◌∙◌, arith, length-set, eq-eqb}
use Rattle.std.proofs.Math.Path.{subst}
use Rattle.std.proofs.Math.ListN.{get_or}
use Rattle.filesystem.specs.Tables.{NODES, Node, node_at}
use Rattle.filesystem.specs.Ways.{ParentAt, Way, top, up, bytes, Ground, one_parent, root-alone}
use Rattle.links.specs.Climbs.{Leads, root, up as lead, Linked}
use Rattle.links.specs.Parents.{Placed}
use Rattle.links.specs.laws.ClimbLaws.{set_ind}

-- one parent more
module _ (node : ℕ → Node) (to far : List ℕ) (n k p l : ℕ) (d : Placed node to far n k) (few : k < NODES) where
  pub placed-next : p < n → (node p).id ≡ (node k).parent → (node p).kind ≡ 2 → l ≡ suc (length (node k).name)
      → Placed node (set to k p) (set far k l) n (k + 1)
  placed-next w i f s = record {
    to_size = length-set to k p ∙ d.to_size;
    far_size = length-set far k l ∙ d.far_size;
    inside = λ j h b. put (λ j x. x < n) w j (λ e. d.inside j h (omega arith));
    ids = λ j h b. put (λ j x. (node x).id ≡ (node j).parent) i j (λ e. d.ids j h (omega arith));
    kinds = λ j h b. put (λ j x. (node x).kind ≡ 2) f j (λ e. d.kinds j h (omega arith));
    steps = λ j h b. set_ind (λ j x. x ≡ suc (length (node j).name)) far k l (omega (arith, d.far_size)) s j
        (λ e. d.steps j h (omega arith));
  }
    where
      put : (P : ℕ → ℕ → Type 0) → P k p → (j : ℕ) → ((j ≡ k → ⊥) → P j (get_or to j 0)) → P j (get_or (set to k p) j 0)
      put P = set_ind P to k p (omega (arith, d.to_size))

pub placed_none : (node : ℕ → Node) (to far : List ℕ) (n : ℕ) → length to ≡ NODES → length far ≡ NODES
    → Placed node to far n 1
placed_none node to far n t f = record {
  to_size = t;
  far_size = f;
  inside = λ k p h. absurd (omega arith);
  ids = λ k p h. absurd (omega arith);
  kinds = λ k p h. absurd (omega arith);
  steps = λ k p h. absurd (omega arith);
}

pub placed_less : (node : ℕ → Node) {to far : List ℕ} {k n : ℕ} → n ≤ k → Placed node to far n k
    → Placed node to far n n
placed_less node h d = record {
  to_size = d.to_size;
  far_size = d.far_size;
  inside = λ j p l. d.inside j p (omega arith);
  ids = λ j p l. d.ids j p (omega arith);
  kinds = λ j p l. d.kinds j p (omega arith);
  steps = λ j p l. d.steps j p (omega arith);
}

pub placed_linked : {node : ℕ → Node} {to far : List ℕ} {n : ℕ} → n ≤ NODES → Placed node to far n n
    → Linked to far n
placed_linked few d = record {
  few = few;
  to_size = d.to_size;
  far_size = d.far_size;
  inside = d.inside;
  some = λ k p h. let z = d.steps k p h in omega arith;
}

module _ {node : ℕ → Node} {ns : List Node} {to far : List ℕ} {n : ℕ} (long : length ns ≡ n)
    (same : (k : ℕ) → k < n → node k ≡ node_at ns k) (p : Placed node to far n n) where
  step_of : (k : ℕ) → 0 < k → k < n → ParentAt ns (node_at ns k) (get_or to k 0)
      × (get_or far k 0 ≡ suc (length (node_at ns k).name))
  step_of k h l =
      let m = p.inside k h l in (
        record {
          is_parent = ap (λ x. x.id) (sym (same (get_or to k 0) m)) ∙ (p.ids k h l ∙ ap (λ x. x.parent) (same k l));
          is_directory_lem = eq-eqb _ 2 (ap (λ x. x.kind) (sym (same (get_or to k 0) m)) ∙ p.kinds k h l);
        },
        p.steps k h l ∙ ap (λ x. suc (length x.name)) (same k l),
      )

  -- where the places lead to the root, the parents do
  pub to_way : {k b : ℕ} → k < n → Leads to far k b → (v : Way ns 0 k) × (bytes v ≡ b)
  unfolding bytes
  to_way l root = (top, refl)
  to_way l (lead {k = k} {b = b} h u) =
      let (v, q) = to_way (p.inside k h l) u in
      let (o, e) = step_of k h l in
      (up {k = k} (get_or to k 0) (omega (arith, long)) o v, omega (arith, e))

  -- and where the parents do, the places do
  pub to_lead : Ground ns → {k : ℕ} (v : Way ns 0 k) → Leads to far k (bytes v)
  unfolding bytes
  to_lead g top = root
  to_lead g (up {k = k} j h q v) =
      let o = root-alone g k j q in
      let m : k < n = omega (arith, long) in
      let (r, f) = step_of k o m in
      let e : j ≡ get_or to k 0 = one_parent g (node_at ns k) j (get_or to k 0) q r in
      subst (λ x. Leads to far k (x + bytes v)) f
      (lead o (subst (λ i. Leads to far i (bytes v)) e (to_lead g v)))
