-- The climb from a node to the root, where each node has a short way there: the bytes of paths, one step, and lists
-- that climb alike.
-- Assumes nothing.
use Rattle.std.specs.Prelude.{◌≡◌, true, false, List, length}
use Rattle.std.proofs.Math.Path.{refl, ap, sym, subst}
use Rattle.std.proofs.Common.{◌∙◌, true≢false, arith}
use Prim.Native.Nat.{ℕ, zero, suc, ◌+◌, ◌≤◌, ◌<◌}
use Rattle.lists.specs.Places.{same_place}
use Rattle.filesystem.specs.Tables.{NODES, Node, node_at}
use Rattle.filesystem.specs.Image.{path_length, beneath}
use Rattle.filesystem.specs.Ways.{ParentAt, parent_moved, directory_place, Way, top, up, steps, bytes, Ground}
use Rattle.filesystem.specs.Ways.{onward, steps-onward, path_bytes_lem, lies_way, way_lies, way_same, way_place}
use Rattle.filesystem.specs.Sound.{Sound, ground, way_short}

-- what the climb needs of nodes: ids, and a way to the root that the fuel suffices for
pub record Rooted (ns : List Node) : Type 0 where
  pub grounded : Ground ns
  pub ways : (k : ℕ) → k < length ns → (v : Way ns 0 k) × (steps v < NODES)

pub rooted : (w : ℕ) (ns : List Node) → Sound w ns → Rooted ns
rooted w ns s = record { grounded = ground w ns s; ways = λ k h. ((s.ways k h).0, way_short w ns s k h) }

module _ (ns : List Node) (r : Rooted ns) where
  -- the bytes of a path are those on the way
  pub path_length_way : {k : ℕ} → k < length ns → (v : Way ns 0 k) → path_length ns (node_at ns k) ≡ bytes v
  path_length_way {k} h v =
      let (u, l) = r.ways k h in
      let (_, e) = way_same r.grounded v u refl in
      path_bytes_lem r.grounded v (omega arith)

  pub path_length-root : 0 < length ns → path_length ns (node_at ns 0) ≡ 0
  unfolding bytes
  path_length-root h = path_length_way h top

  -- the bytes of a path are those of its parent's, a slash and the name
  pub path_length-step : (k j : ℕ) → k < length ns → ParentAt ns (node_at ns k) j
      → path_length ns (node_at ns k) ≡ suc (length (node_at ns k).name) + path_length ns (node_at ns j)
  unfolding bytes
  path_length-step k j h q =
      let l = directory_place ns j q.is_directory_lem in
      let v = (r.ways j l).0 in
      path_length_way h (up j h q v) ∙ ap (λ x. suc (length (node_at ns k).name) + x) (sym (path_length_way l v))

  -- a node lies at or beneath another exactly where a way leads up to it
  pub beneath_way : (a k : ℕ) → a < length ns → k < length ns → beneath ns a k ≡ true → Way ns a k
  unfolding beneath
  beneath_way a k l h e = (lies_way r.grounded NODES a k l h e).0

  pub way_beneath : {a k : ℕ} → a < length ns → Way ns a k → beneath ns a k ≡ true
  unfolding beneath
  way_beneath {a} {k} l v =
      let (u, _) = r.ways a l in
      let (x, m) = r.ways k (way_place l v) in
      let (_, e) = way_same r.grounded (onward v u) x refl in
      way_lies r.grounded NODES a v (omega (arith, steps-onward v u))

  pub not_beneath : {a k : ℕ} → a < length ns → beneath ns a k ≡ false → Way ns a k → ⊥
  not_beneath l e v = true≢false (sym (way_beneath l v) ∙ e)

-- the nodes of ms below place n are those of ns in the places φ, but for modes and sizes
pub record Same (n m : Node) : Type 0 where
  pub same_id : n.id ≡ m.id
  pub same_parent : n.parent ≡ m.parent
  pub same_kind : n.kind ≡ m.kind
  pub same_name : n.name ≡ m.name

pub record Kept (ns ms : List Node) (n : ℕ) (φ : ℕ → ℕ) : Type 0 where
  pub fits : n ≤ length ms
  pub first : φ 0 ≡ 0
  pub mono : (i j : ℕ) → i < j → φ i < φ j
  pub below : (i : ℕ) → i < n → φ i < length ns
  pub same : (i : ℕ) → i < n → Same (node_at ms i) (node_at ns (φ i))
  pub closed : (i j : ℕ) → i < n → j < length ns → ParentAt ns (node_at ns (φ i)) j → (h : ℕ) × (h < n) × (φ h ≡ j)

module _ {ns ms : List Node} {n : ℕ} {φ : ℕ → ℕ} (p : Kept ns ms n φ) where
  pub apart : (i j : ℕ) → φ i ≡ φ j → i ≡ j
  apart i j e = same_place i j (λ l. let z = p.mono i j l in omega arith) (λ l. let z = p.mono j i l in omega arith)

  pub later : (i : ℕ) → i ≤ φ i
  later zero = omega arith
  later (suc i) = let z = later i in let y = p.mono i (suc i) (omega arith) in omega arith

  -- a parent that is kept is the parent still
  pub parent_kept : (i g : ℕ) → i < n → g < n → ParentAt ns (node_at ns (φ i)) (φ g) → ParentAt ms (node_at ms i) g
  parent_kept i g h c q = parent_moved (p.same g c).same_id (p.same g c).same_kind (sym (p.same i h).same_parent) q

  -- and a way is a way still
  pub way_kept : {k : ℕ} (v : Way ns 0 k) (i : ℕ) → i < n → φ i ≡ k → (u : Way ms 0 i) × (bytes u ≡ bytes v)
  unfolding bytes
  way_kept top i h e = subst (λ x. (u : Way ms 0 x) × (bytes u ≡ 0)) (apart 0 i (p.first ∙ sym e)) (top, refl)
  way_kept (up {k = k} j l q v) i h e =
      let m = directory_place ns j q.is_directory_lem in
      let t : ParentAt ns (node_at ns (φ i)) j = subst (λ x. ParentAt ns (node_at ns x) j) (sym e) q in
      let (g, c, a) = p.closed i j h m t in
      let (u, y) = way_kept v g c a in
      let z : (node_at ms i).name ≡ (node_at ns k).name = (p.same i h).same_name ∙ ap (λ x. (node_at ns x).name) e in (
        up {k = i} g (let f = p.fits in omega arith)
            (parent_kept i g h c (subst (ParentAt ns (node_at ns (φ i))) (sym a) t)) u,
        λ x. suc (length (z x)) + y x,
      )

  pub path_length-kept : Rooted ns → Rooted ms → (i : ℕ) → i < n → path_length ms (node_at ms i) ≡ path_length ns (node_at ns (φ i))
  path_length-kept r t i h =
      let v = (r.ways (φ i) (p.below i h)).0 in
      let (u, e) = way_kept v i h refl in
      path_length_way ms t (let f = p.fits in omega arith) u ∙ (e ∙ sym (path_length_way ns r (p.below i h) v))
