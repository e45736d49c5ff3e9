-- Sound nodes, read place by place: what the test `sound_nodes` says, and that it says no more.
-- Assumes nothing.
use Rattle.std.specs.Prelude.{◌≡◌, refl, ◌↔◌, Bool, true, false, ◌&&◌, ◌||◌, not, List, [], ◌∷◌, ℕ, zero, suc, ◌^◌, ◌≤◌, ◌<◌, eqb, leb, ltb, length}
use Rattle.std.proofs.Common.{ap, sym, ◌∙◌, subst, arith, eqb-true, eq-eqb, ne_eqb, leb-true, le-leb, ltb-true, lt-ltb}
use Rattle.std.proofs.lemmas.Bool.{false≢true, eqb-false, not-true, not-false}
use Rattle.lists.specs.Equal.{Is, is_t, is_f, is, equal_true, equal_yes, and_fst, and_snd, and_both}
use Rattle.lists.specs.Search.{every, unique}
use Rattle.lists.specs.Places.{every-at, at_every, unique_same, same_unique}
use Rattle.filesystem.specs.Tables.{NODES, PAGES, FILE_BYTES, NAME_BYTES, PATH_BYTES, Node, no_node, is_file}
use Rattle.filesystem.specs.Tables.{is_directory, node_at, present, find_id, page_total}
use Rattle.filesystem.specs.Paths.{component_form}
use Rattle.filesystem.specs.Image.{path_length, lies, is_root, in_limits, is_named, same_id, same_child, sound_nodes}
pub use Rattle.filesystem.specs.Ways.{
  ParentAt,
  find_id_only,
  node_at-append,
  directory_place,
  find_id-has,
  parent_moved,
}
use Rattle.filesystem.specs.Ways.{Way, top, up, steps, bytes, Ground, path_bytes_lem, lies_way, way_lies, way_bytes}

-- a place that is not present
pub gone : {A : Type 0} (l : List A) (k : ℕ) → present l k ≡ false → length l ≤ k
gone l k e = leb-true _ _ (not-false _ e)

pub record Sound (w : ℕ) (ns : List Node) : Type 0 where
  pub has-root : 0 < length ns
  pub count : length ns ≤ NODES
  pub root-first : is_root (node_at ns 0) ≡ true
  pub limits : (k : ℕ) → k < length ns → in_limits w (node_at ns k) ≡ true
  pub names : (k : ℕ) → 0 < k → k < length ns → is_named (node_at ns k) ≡ true
  pub ids : (i j : ℕ) → i < length ns → j < length ns → (node_at ns i).id ≡ (node_at ns j).id → i ≡ j
  pub siblings : (i j : ℕ) → i < length ns → j < length ns → (node_at ns i).parent ≡ (node_at ns j).parent → (node_at ns i).name ≡ (node_at ns j).name → i ≡ j
  -- every node reaches the root by its parents, and its path has at most PATH-BYTES
  pub ways : (k : ℕ) → k < length ns → (v : Way ns 0 k) × (bytes v ≤ PATH_BYTES)
  pub pages : page_total ns ≤ PAGES

-- the limits of a node by itself
pub record Limits (w : ℕ) (n : Node) : Type 0 where
  pub id_some : 0 < n.id
  pub id_fits : n.id < 256 ^ w
  pub mode_fits : n.mode ≤ 7
  pub kind_size : (is_file n && leb n.size FILE_BYTES || is_directory n && eqb n.size 0) ≡ true

pub to_limits : (w : ℕ) (n : Node) → in_limits w n ≡ true → Limits w n
unfolding in_limits
to_limits w n e =
    let e₁ = and_snd (not (eqb n.id 0)) _ e in
    let e₂ = and_snd (ltb n.id (256 ^ w)) _ e₁ in
    let d = eqb-false n.id 0 (not-true _ (and_fst _ _ e)) in
    record {
      id_some = omega arith;
      id_fits = ltb-true _ _ (and_fst _ _ e₁);
      mode_fits = leb-true _ _ (and_fst _ _ e₂);
      kind_size = and_snd (leb n.mode 7) _ e₂;
    }

pub of_limits : (w : ℕ) (n : Node) → Limits w n → in_limits w n ≡ true
unfolding in_limits
of_limits w n l =
    let h = l.id_some in
    and_both _ _ (ap not (ne_eqb n.id 0 (omega arith))) (and_both _ _ (lt-ltb _ _ l.id_fits) (and_both _ _ (le-leb _ _ l.mode_fits) l.kind_size))

-- a file of at most FILE-BYTES, or an empty directory
pub by_kind : (C : Type 0) {w : ℕ} {n : Node} → Limits w n → (n.kind ≡ 1 → n.size ≤ FILE_BYTES → C) → (n.kind ≡ 2 → n.size ≡ 0 → C) → C
by_kind C {n = n} l f g =
    or_ind (is_file n && leb n.size FILE_BYTES) _ l.kind_size
    (λ e. f (eqb-true _ _ (and_fst (is_file n) _ e)) (leb-true _ _ (and_snd (is_file n) _ e)))
    (λ e. g (eqb-true _ _ (and_fst (is_directory n) _ e)) (eqb-true _ _ (and_snd (is_directory n) _ e)))
  where
    or_ind : (a b : Bool) → (a || b) ≡ true → (a ≡ true → C) → (b ≡ true → C) → C
    or_ind true b e f g = f refl
    or_ind false b e f g = g e

-- where ids differ, a place that has the id is the one that is found
pub place_with_id : {w : ℕ} (ns : List Node) (j x : ℕ) → Sound w ns → j < length ns → (node_at ns j).id ≡ x → j ≡ find_id ns x
place_with_id ns j x s h e = sym (ap (find_id ns) (sym e) ∙ find_id_only ns j h (λ i l q. s.ids i j l h q))

-- what stands first, by what makes a root
module _ (n : Node) (e : is_root n ≡ true) where
  pub is_root_id : n.id ≡ 1
  is_root_id = eqb-true _ _ (and_fst _ _ e)

  pub is_root_parent : n.parent ≡ 0
  is_root_parent = eqb-true _ _ (and_fst _ _ (and_snd (eqb n.kind 2) _ (and_snd (eqb n.id 1) _ e)))

  is_root-name : n.name ≡ []
  is_root-name = equal_true _ _ (and_snd (eqb n.parent 0) _
      (and_snd (eqb n.kind 2) _ (and_snd (eqb n.id 1) _ e)))

pub to_sound : (w : ℕ) (ns : List Node) → sound_nodes w ns ≡ true → Sound w ns
unfolding sound_nodes node_at
to_sound w [] e = absurd (false≢true e)
to_sound w (r ∷ ns) e =
    let all = r ∷ ns in
    let e₁ = and_snd (is_root r) _ e in
    let e₂ = and_snd (leb (suc (length ns)) NODES) _ e₁ in
    let e₃ = and_snd (every (in_limits w) all) _ e₂ in
    let e₄ = and_snd (every is_named ns) _ e₃ in
    let e₅ = and_snd (unique same_id all) _ e₄ in
    let e₆ = and_snd (unique same_child all) _ e₅ in
    let e₇ = and_snd (every (lies NODES all 1) all) _ e₆ in
    let e₈ = and_snd (every (λ n. leb (path_length all n) PATH_BYTES) all) _ e₇ in
    record {
      has-root = omega arith;
      count = leb-true _ _ (and_fst _ _ e₁);
      root-first = and_fst (is_root r) _ e;
      limits = λ k h. every-at (in_limits w) no_node all k (and_fst _ _ e₂) h;
      names = λ k p h. named (and_fst _ _ e₃) k p h;
      ids = λ i j h l q. own (and_fst _ _ e₄) i j h l q;
      siblings = λ i j h l q t. unique_same same_child no_node same_child_sym all i j (and_fst _ _ e₅) h l (and_both _ _ (eq-eqb _ _ q) (equal_yes _ _ t));
      ways = λ k h.
          reached (and_fst (is_root r) _ e) (and_fst _ _ e₂) (and_fst _ _ e₄) k h
          (every-at (lies NODES all 1) no_node all k (and_fst _ _ e₆) h)
          (leb-true _ _ (every-at (λ n. leb (path_length all n) PATH_BYTES) no_node all k (and_fst _ _ e₇) h));
      pages = leb-true _ _ e₈;
    }
  where
    named : every is_named ns ≡ true → (k : ℕ) → 0 < k → k < suc (length ns) → is_named (node_at (r ∷ ns) k) ≡ true
    named t zero p h = absurd (omega arith)
    named t (suc k) p h = every-at is_named no_node ns k t (omega arith)

    same_child_sym : (x y : Node) → same_child x y ≡ true → same_child y x ≡ true
    same_child_sym x y t =
        and_both _ _ (eq-eqb y.parent x.parent (sym (eqb-true x.parent y.parent (and_fst _ _ t))))
        (equal_yes y.name x.name (sym (equal_true x.name y.name (and_snd (eqb x.parent y.parent) _ t))))

    own : unique same_id (r ∷ ns) ≡ true → (i j : ℕ) → i < length (r ∷ ns) → j < length (r ∷ ns)
        → (node_at (r ∷ ns) i).id ≡ (node_at (r ∷ ns) j).id → i ≡ j
    own t i j h l q = unique_same same_id no_node (λ x y t. eq-eqb y.id x.id (sym (eqb-true x.id y.id t)))
        (r ∷ ns) i j t h l (eq-eqb _ _ q)

    reached : is_root r ≡ true → every (in_limits w) (r ∷ ns) ≡ true → unique same_id (r ∷ ns) ≡ true → (k : ℕ)
        → k < length (r ∷ ns)
        → lies NODES (r ∷ ns) 1 (node_at (r ∷ ns) k) ≡ true → path_length (r ∷ ns) (node_at (r ∷ ns) k) ≤ PATH_BYTES
        → (v : Way (r ∷ ns) 0 k) × (bytes v ≤ PATH_BYTES)
    reached e t u k h l b =
        let g : Ground (r ∷ ns) =
        record {
          no_parent = is_root_parent r e;
          some_id = λ k h. (to_limits w (node_at (r ∷ ns) k) (every-at (in_limits w) no_node (r ∷ ns) k t h)).id_some;
          own_id = own u;
        } in
        let (v, f) = lies_way g NODES 0 k (omega arith) h
        (subst (λ x. lies NODES (r ∷ ns) x (node_at (r ∷ ns) k) ≡ true) (sym (is_root_id r e)) l) in
        (v, subst (λ x. x ≤ PATH_BYTES) (path_bytes_lem g v f) b)

module _ (w : ℕ) (ns : List Node) (s : Sound w ns) where
  pub limits_at : (k : ℕ) → k < length ns → Limits w (node_at ns k)
  limits_at k h = to_limits w (node_at ns k) (s.limits k h)

  pub root_id : (node_at ns 0).id ≡ 1
  root_id = is_root_id (node_at ns 0) s.root-first

  pub root_parent : (node_at ns 0).parent ≡ 0
  root_parent = is_root_parent (node_at ns 0) s.root-first

  pub root_name_lem : (node_at ns 0).name ≡ []
  root_name_lem = is_root-name (node_at ns 0) s.root-first

  pub ground : Ground ns
  ground = record { no_parent = root_parent; some_id = λ k h. (limits_at k h).id_some; own_id = s.ids }

  -- the parent of a node other than the root
  pub has_parent_lem : (k : ℕ) → 0 < k → k < length ns → (j : ℕ) × (j < length ns) × ParentAt ns (node_at ns k) j
  has_parent_lem k l h = go (s.ways k h).0 l
    where
      go : {k : ℕ} → Way ns 0 k → 0 < k → (j : ℕ) × (j < length ns) × ParentAt ns (node_at ns k) j
      go top l = absurd (omega arith)
      go (up j h q v) l = (j, directory_place ns j q.is_directory_lem, q)

  -- what has a node's id for its parent has that node
  pub parent_here : (k d : ℕ) → k < length ns → d < length ns → (node_at ns k).parent ≡ (node_at ns d).id
      → ParentAt ns (node_at ns k) d
  parent_here zero d l h e = absurd (omega (arith, root_parent, (limits_at d h).id_some))
  parent_here (suc k) d l h e =
      let (j, i, q) = has_parent_lem (suc k) (omega arith) l in
      subst (ParentAt ns (node_at ns (suc k))) (s.ids j d i h (q.is_parent ∙ e)) q

  -- a parent is an id too, or 0
  pub parent_fits : (k : ℕ) → k < length ns → (node_at ns k).parent < 256 ^ w
  parent_fits zero h = rw root_parent (let l = limits_at 0 h in omega arith)
  parent_fits (suc k) h =
      let (j, m, q) = has_parent_lem (suc k) (omega arith) h in
      subst (λ x. x < 256 ^ w) q.is_parent (limits_at j m).id_fits

  pub name-short : (k : ℕ) → k < length ns → length (node_at ns k).name ≤ NAME_BYTES
  name-short zero h = rw root_name_lem (omega arith)
  name-short (suc k) h = leb-true _ _ (and_snd (component_form (node_at ns (suc k)).name) _ (s.names (suc k) (omega arith) h))

  -- ways to the root are short enough for the climb
  pub way_short : (k : ℕ) (h : k < length ns) → steps (s.ways k h).0 < NODES
  way_short k h = let z = way_bytes (s.ways k h).0 in let b = (s.ways k h).1 in omega arith

pub of_sound : (w : ℕ) (ns : List Node) → Sound w ns → sound_nodes w ns ≡ true
unfolding sound_nodes node_at
of_sound w [] s = absurd (let h = s.has-root in omega arith)
of_sound w (r ∷ ns) s =
    let all = r ∷ ns in
    and_both (is_root r) _ s.root-first
    (and_both _ _ (le-leb _ _ s.count)
    (and_both _ _ (at_every (in_limits w) no_node all s.limits)
    (and_both _ _ (at_every is_named no_node ns (λ k h. s.names (suc k) (omega arith) (omega arith)))
    (and_both _ _ (same_unique same_id no_node all (λ i j h l t.
    s.ids i j h l (eqb-true (node_at all i).id (node_at all j).id t)))
    (and_both _ _ (same_unique same_child no_node all (λ i j h l t.
    s.siblings i j h l (eqb-true (node_at all i).parent (node_at all j).parent (and_fst _ _ t))
    (equal_true _ _ (and_snd (eqb (node_at all i).parent (node_at all j).parent) _ t))))
    (and_both _ _ (at_every (lies NODES all 1) no_node all (λ k h.
    subst (λ x. lies NODES all x (node_at all k) ≡ true) (root_id w all s)
    (way_lies (ground w all s) NODES 0 (s.ways k h).0 (way_short w all s k h))))
    (and_both _ _ (at_every (λ n. leb (path_length all n) PATH_BYTES) no_node all (λ k h.
    le-leb _ _ (subst (λ x. x ≤ PATH_BYTES) (sym (path_bytes_lem (ground w all s) (s.ways k h).0
    (way_short w all s k h))) (s.ways k h).1)))
    (le-leb _ _ s.pages))))))))

pub sound_nodes_lem : (w : ℕ) (ns : List Node) → (sound_nodes w ns ≡ true) ↔ Sound w ns
sound_nodes_lem w ns = (to_sound w ns, of_sound w ns)

pub unsound : (w : ℕ) (ns : List Node) → (Sound w ns → ⊥) → sound_nodes w ns ≡ false
unsound w ns f = go (is (sound_nodes w ns))
  where
    go : Is (sound_nodes w ns) → sound_nodes w ns ≡ false
    go (is_f e) = e
    go (is_t e) = absurd (f (to_sound w ns e))
