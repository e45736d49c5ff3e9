-- Ways from a node to its parent and on, up to another: that the test `lies` says whether there is one, that the
-- climb adds up its bytes, and that there is only one to the root.
-- Assumes nothing.
use Rattle.std.specs.Prelude.{◌≡◌, Bool, false, ◌&&◌, ◌||◌, List, [], ◌∷◌, ◌++◌, eqb, leb}
use Rattle.std.proofs.Math.Path.{refl, ap, subst}
use Rattle.std.proofs.Common.{sym, ◌∙◌, eqb-true, eq-eqb, ne_eqb, leb-true, leb-false}
use Rattle.std.proofs.Math.Bool.{true}
use Rattle.std.proofs.lemmas.Bool.{false≢true}
use Prim.Native.Nat.{ℕ, zero, suc, ◌+◌, ◌≤◌, ◌<◌}
use native.Mathlib.Omega.{arith}
use Rattle.std.proofs.Math.ListN.{length, get_or-append, get_or-eq_default}
use Rattle.lists.specs.Pick.{pick_true, pick-false}
use Rattle.lists.specs.Equal.{Is, is_t, is_f, is, and_fst, and_snd, and_both}
use Rattle.lists.specs.Search.{place-passes}
use Rattle.lists.specs.Places.{place_only}
use Rattle.filesystem.specs.Tables.{NODES, Node, no_node, has_id, is_directory, node_at, find_id}
use Rattle.filesystem.specs.Paths.{Path}
use Rattle.filesystem.specs.Image.{climb, path_length, lies}

-- the node's parent is the directory in place j
pub record ParentAt (ns : List Node) (n : Node) (j : ℕ) : Type 0 where
  pub is_parent : (node_at ns j).id ≡ n.parent
  pub is_directory_lem : is_directory (node_at ns j) ≡ true

-- a node with an id is found where no other has it
pub find_id_only : (ns : List Node) (j : ℕ) → j < length ns
    → ((i : ℕ) → i < length ns → (node_at ns i).id ≡ (node_at ns j).id → i ≡ j)
    → find_id ns (node_at ns j).id ≡ j
unfolding find_id node_at
find_id_only ns j h only =
    place_only (has_id (node_at ns j).id) no_node ns j h (eq-eqb (node_at ns j).id (node_at ns j).id refl)
    (λ i l e. only i l (eqb-true (node_at ns i).id (node_at ns j).id e))

pub node_at-append : (ns ms : List Node) (k : ℕ) → k < length ns → node_at (ns ++ ms) k ≡ node_at ns k
unfolding node_at
node_at-append ns ms k h = get_or-append ns ms no_node k h

-- no node stands in a place past the end
pub directory_place : (ns : List Node) (k : ℕ) → is_directory (node_at ns k) ≡ true → k < length ns
unfolding node_at
directory_place ns k e = go (is (leb (length ns) k))
  where
    go : Is (leb (length ns) k) → k < length ns
    go (is_f l) = leb-false _ _ l
    go (is_t l) = absurd (false≢true (ap is_directory (sym (get_or-eq_default ns no_node (leb-true _ _ l))) ∙ e))

-- what is found by an id has it
pub find_id-has : (ns : List Node) (x : ℕ) → find_id ns x < length ns → (node_at ns (find_id ns x)).id ≡ x
unfolding find_id node_at
find_id-has ns x h = eqb-true _ x (place-passes (has_id x) ns no_node h)

-- the same parent for another node in another list
pub parent_moved : {ns ms : List Node} {n m : Node} {j i : ℕ} → (node_at ms i).id ≡ (node_at ns j).id
    → (node_at ms i).kind ≡ (node_at ns j).kind
    → n.parent ≡ m.parent
    → ParentAt ns n j → ParentAt ms m i
parent_moved e k p q = record {
  is_parent = e ∙ (q.is_parent ∙ p);
  is_directory_lem = ap (λ x. eqb x 2) k
      ∙ q.is_directory_lem;
}

-- the way from the node in place k up to the one in place a, from each node to its parent
pub data Way (ns : List Node) (a : ℕ) : ℕ → Type 0 where
  top : Way ns a a
  up : {k : ℕ} (j : ℕ) → k < length ns → ParentAt ns (node_at ns k) j → Way ns a j → Way ns a k

-- its steps, and the bytes of its names, each behind a slash
module _ {ns : List Node} {a : ℕ} where
  unfoldable pub steps : {k : ℕ} → Way ns a k → ℕ
  steps top = 0
  steps (up j h q w) = suc (steps w)

  unfoldable pub bytes : {k : ℕ} → Way ns a k → ℕ
  bytes top = 0
  bytes (up {k = k} j h q w) = suc (length (node_at ns k).name) + bytes w

  -- the names on it, from the top down
  unfoldable pub names : {k : ℕ} → Way ns a k → Path
  names top = []
  names (up {k = k} j h q w) = names w ++ ((node_at ns k).name ∷ [])

-- a step has at least a slash
pub way_bytes : {ns : List Node} {a k : ℕ} (w : Way ns a k) → steps w ≤ bytes w
unfolding steps bytes
way_bytes top = omega arith
way_bytes (up j h q w) = let z = way_bytes w in omega arith

-- one way and then another
module _ {ns : List Node} {a b : ℕ} where
  unfoldable pub onward : {k : ℕ} → Way ns b k → Way ns a b → Way ns a k
  onward top v = v
  onward (up j h q w) v = up j h q (onward w v)

  pub steps-onward : {k : ℕ} (w : Way ns b k) (v : Way ns a b) → steps (onward w v) ≡ steps w + steps v
  unfolding onward steps
  steps-onward top v = omega arith
  steps-onward (up j h q w) v = rw (steps-onward w v) (omega arith)

  pub bytes-onward : {k : ℕ} (w : Way ns b k) (v : Way ns a b) → bytes (onward w v) ≡ bytes w + bytes v
  unfolding onward bytes
  bytes-onward top v = omega arith
  bytes-onward (up j h q w) v = rw (bytes-onward w v) (omega arith)

pub way_place : {ns : List Node} {a k : ℕ} → a < length ns → Way ns a k → k < length ns
way_place l top = l
way_place l (up j h q w) = h

-- what a climb needs of nodes: the root has no parent, and ids differ
pub record Ground (ns : List Node) : Type 0 where
  pub no_parent : (node_at ns 0).parent ≡ 0
  pub some_id : (k : ℕ) → k < length ns → 0 < (node_at ns k).id
  pub own_id : (i j : ℕ) → i < length ns → j < length ns → (node_at ns i).id ≡ (node_at ns j).id → i ≡ j

climb_top : (f : ℕ) (ns : List Node) (n : Node) → n.parent ≡ 0 → climb f ns n ≡ 0
unfolding climb
climb_top zero ns n e = refl
climb_top (suc f) ns n e = pick_true _ _ _ (eq-eqb n.parent 0 e)

pub or_first : (a b : Bool) → a ≡ true → (a || b) ≡ true
or_first a b e = rw e

pub or_second : (a b : Bool) → b ≡ true → (a || b) ≡ true
or_second true b e = refl
or_second false b e = e

pub or_rest : (a b : Bool) → (a || b) ≡ true → a ≡ false → b ≡ true
or_rest true b e n = absurd (false≢true (sym n))
or_rest false b e n = e

module _ {ns : List Node} (g : Ground ns) where
  parent_known : (n : Node) (j : ℕ) → ParentAt ns n j → 0 < n.parent
  parent_known n j q = omega (arith, g.some_id j (directory_place ns j q.is_directory_lem), q.is_parent)

  pub find_parent : (n : Node) (j : ℕ) → ParentAt ns n j → find_id ns n.parent ≡ j
  find_parent n j q =
      let h = directory_place ns j q.is_directory_lem in
      ap (find_id ns) (sym q.is_parent) ∙ find_id_only ns j h (λ i l e. g.own_id i j l h e)

  -- a node has one parent, and the root none
  pub one_parent : (n : Node) (i j : ℕ) → ParentAt ns n i → ParentAt ns n j → i ≡ j
  one_parent n i j p q = sym (find_parent n i p) ∙ find_parent n j q

  pub root-alone : (k j : ℕ) → ParentAt ns (node_at ns k) j → 0 < k
  root-alone zero j q = absurd (omega (arith, parent_known (node_at ns 0) j q, g.no_parent))
  root-alone (suc k) j q = omega arith

  -- the climb is along the way, whatever fuel is left
  climb_way : (f : ℕ) {k : ℕ} (w : Way ns 0 k) → steps w ≤ f → climb f ns (node_at ns k) ≡ bytes w
  unfolding climb steps bytes
  climb_way f top l = climb_top f ns (node_at ns 0) g.no_parent
  climb_way zero (up j h q w) l = absurd (omega arith)
  climb_way (suc f) (up {k = k} j h q w) l =
      let z = parent_known (node_at ns k) j q in
      pick-false _ _ _ (ne_eqb (node_at ns k).parent 0 (λ e. omega arith))
      ∙ ap (λ x. suc (length (node_at ns k).name) + x)
      (ap (λ x. climb f ns (node_at ns x)) (find_parent (node_at ns k) j q) ∙ climb_way f w (omega arith))

  pub path_bytes_lem : {k : ℕ} (w : Way ns 0 k) → steps w < NODES → path_length ns (node_at ns k) ≡ bytes w
  unfolding path_length
  path_bytes_lem w l = climb_way NODES w (omega arith)

  -- a node lies at or beneath another exactly where a way leads up to it
  pub lies_way : (f a k : ℕ) → a < length ns → k < length ns → lies f ns (node_at ns a).id (node_at ns k) ≡ true
      → (w : Way ns a k) × (steps w < f)
  unfolding lies steps
  lies_way zero a k l h e = absurd (false≢true e)
  lies_way (suc f) a k l h e = go (is (eqb (node_at ns k).id (node_at ns a).id)) (λ j m t. lies_way f a j l m t)
    where
      go : Is (eqb (node_at ns k).id (node_at ns a).id)
          → ((j : ℕ) → j < length ns → lies f ns (node_at ns a).id (node_at ns j) ≡ true → (w : Way ns a j)
          × (steps w < f))
          → (w : Way ns a k) × (steps w < suc f)
      go (is_t t) ih = subst (λ x. (w : Way ns a x) × (steps w < suc f)) (g.own_id a k l h (sym (eqb-true _ _ t)))
          (top, omega arith)
      go (is_f t) ih =
          let j = find_id ns (node_at ns k).parent in
          let e₁ : (is_directory (node_at ns j) && lies f ns (node_at ns a).id (node_at ns j)) ≡ true = or_rest _ _ e t in
          let d = and_fst (is_directory (node_at ns j)) _ e₁ in
          let m = directory_place ns j d in
          let (w, s) = ih j m (and_snd (is_directory (node_at ns j)) _ e₁) in
          (up j h (record { is_parent = find_id-has ns (node_at ns k).parent m; is_directory_lem = d }) w, omega arith)

  pub way_lies : (f a : ℕ) {k : ℕ} (w : Way ns a k) → steps w < f → lies f ns (node_at ns a).id (node_at ns k) ≡ true
  unfolding lies steps
  way_lies zero a w l = absurd (omega arith)
  way_lies (suc f) a top l = or_first _ _ (eq-eqb (node_at ns a).id (node_at ns a).id refl)
  way_lies (suc f) a (up {k = k} j h q w) l =
      or_second (eqb (node_at ns k).id (node_at ns a).id) _
      (subst (λ x. (is_directory (node_at ns x) && lies f ns (node_at ns a).id (node_at ns x)) ≡ true)
      (sym (find_parent (node_at ns k) j q))
      (and_both _ _ q.is_directory_lem (way_lies f a w (omega arith))))

  -- there is one way to the root
  pub way_same : {k l : ℕ} (w : Way ns 0 k) (v : Way ns 0 l) → k ≡ l → (bytes w ≡ bytes v) × (steps w ≡ steps v)
  unfolding steps bytes
  way_same top top e = (refl, refl)
  way_same top (up {k = l} j h q v) e = absurd (omega (arith, root-alone l j q))
  way_same (up {k = k} j h q w) top e = absurd (omega (arith, root-alone k j q))
  way_same (up {k = k} j h q w) (up {k = l} i m p v) e =
      let (x, y) = way_same w v (one_parent (node_at ns l) j i (subst (λ z. ParentAt ns (node_at ns z) j) e q) p) in
      ((λ z. suc (length (node_at ns (e z)).name) + x z), ap suc y)

  pub names_same : {k l : ℕ} (w : Way ns 0 k) (v : Way ns 0 l) → k ≡ l → names w ≡ names v
  unfolding names
  names_same top top e = refl
  names_same top (up {k = l} j h q v) e = absurd (omega (arith, root-alone l j q))
  names_same (up {k = k} j h q w) top e = absurd (omega (arith, root-alone k j q))
  names_same (up {k = k} j h q w) (up {k = l} i m p v) e =
      let x = names_same w v (one_parent (node_at ns l) j i (subst (λ z. ParentAt ns (node_at ns z) j) e q) p) in
      λ z. x z ++ ((node_at ns (e z)).name ∷ [])

  -- so no way leads back to where it started
  pub no_loop : {k : ℕ} (j : ℕ) → Way ns 0 k → k < length ns → ParentAt ns (node_at ns k) j → Way ns k j → ⊥
  unfolding steps
  no_loop j w h q v =
      let u : Way ns _ _ = up j h q v in
      let z = (way_same (onward u w) w refl).1 in
      omega (arith, z, steps-onward u w)
