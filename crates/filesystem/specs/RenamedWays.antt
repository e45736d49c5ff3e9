-- The nodes when node k is `name` in the directory in place d, whatever these are: what stays, and the ways to the
-- root.
-- Assumes nothing.
use Rattle.std.specs.Prelude.{◌≡◌, Bool, ◌&&◌, List, eqb, ltb}
use Rattle.std.proofs.Math.Path.{refl, ap}
use Rattle.std.proofs.Common.{sym, ◌∙◌, subst, true≢false, arith, eqb-true, ltb-false, le-ltb}
use Rattle.std.proofs.Math.Bool.{true, false}
use Prim.Native.Nat.{ℕ, suc, ◌+◌, ◌≤◌, ◌<◌}
use Rattle.std.proofs.Math.ListN.{length, length-set}
use Rattle.std.proofs.Math.Seq.{get_or-set_same, get_or-set_other}
use Rattle.std.proofs.lemmas.Bool.{eqb-false}
use Rattle.lists.specs.Equal.{Is, is_t, is_f, is}
use Rattle.lists.specs.Places.{any_at, at-any}
use Rattle.filesystem.specs.Tables.{NODES, PATH_BYTES, Node, no_node, with_place, is_directory, node_at, renamed}
use Rattle.filesystem.specs.Image.{path_length, lies, beneath, length_in, too_deep}
use Rattle.filesystem.specs.Ways.{ParentAt, directory_place, parent_moved, Way, top, up, bytes, onward}
use Rattle.filesystem.specs.Ways.{bytes-onward, Ground, way_same, no_loop}
use Rattle.filesystem.specs.Sound.{Sound, ground}
use Rattle.filesystem.specs.Climb.{Rooted, rooted, path_length_way, beneath_way, not_beneath}

module _ (ns : List Node) (k d : ℕ) (name : List ℕ) (known : k < length ns) where
  abbrev new : Node
  new = with_place (node_at ns d).id name (node_at ns k)

  abbrev moved : List Node
  moved = renamed ns k (node_at ns d).id name

  pub length_moved : length moved ≡ length ns
  unfolding renamed
  length_moved = length-set ns k new

  pub moved_here : node_at moved k ≡ new
  unfolding renamed node_at
  moved_here = get_or-set_same ns k new no_node known

  pub moved_other : (i : ℕ) → (i ≡ k → ⊥) → node_at moved i ≡ node_at ns i
  unfolding renamed node_at
  moved_other i e = get_or-set_other ns k i new no_node e

  -- what holds of the node that moves, and of each other
  pub moved_ind : (P : ℕ → Node → Type 0) → P k new → ((i : ℕ) → (i ≡ k → ⊥) → P i (node_at ns i)) → (i : ℕ)
      → P i (node_at moved i)
  moved_ind P f g i = go (is (eqb i k))
    where
      go : Is (eqb i k) → P i (node_at moved i)
      go (is_t e) = subst (λ j. P j (node_at moved j)) (sym (eqb-true i k e)) (subst (P k) (sym moved_here) f)
      go (is_f e) = let n = eqb-false i k e in subst (P i) (sym (moved_other i n)) (g i n)

  pub id_stays : (i : ℕ) → (node_at moved i).id ≡ (node_at ns i).id
  id_stays = moved_ind (λ i n. n.id ≡ (node_at ns i).id) refl (λ i e. refl)

  pub kind_stays : (i : ℕ) → (node_at moved i).kind ≡ (node_at ns i).kind
  kind_stays = moved_ind (λ i n. n.kind ≡ (node_at ns i).kind) refl (λ i e. refl)

  pub mode_stays : (i : ℕ) → (node_at moved i).mode ≡ (node_at ns i).mode
  mode_stays = moved_ind (λ i n. n.mode ≡ (node_at ns i).mode) refl (λ i e. refl)

  pub ground_moved : 0 < k → Ground ns → Ground moved
  ground_moved p g = record {
    no_parent = ap (λ (n : Node). n.parent) (moved_other 0 (λ e. omega arith)) ∙ g.no_parent;
    some_id = λ i h. subst (λ x. 0 < x) (sym (id_stays i)) (g.some_id i (subst (λ x. i < x) length_moved h));
    own_id = λ i j h l e.
        g.own_id i j (subst (λ x. i < x) length_moved h) (subst (λ x. j < x) length_moved l)
        (sym (id_stays i) ∙ (e ∙ id_stays j));
  }

  pub parent_here : is_directory (node_at ns d) ≡ true → ParentAt moved (node_at moved k) d
  parent_here f = record {
    is_parent = id_stays d ∙ ap (λ (x : Node). x.parent) (sym moved_here);
    is_directory_lem = ap (λ x. eqb x 2) (kind_stays d) ∙ f;
  }

  -- Ways. Those that do not pass node k stay.
  pub parent_stays : (i j : ℕ) → (i ≡ k → ⊥) → ParentAt ns (node_at ns i) j → ParentAt moved (node_at moved i) j
  parent_stays i j e q =
      parent_moved (id_stays j) (kind_stays j) (ap (λ (n : Node). n.parent) (sym (moved_other i e))) q

  step_stays : {a i j : ℕ} (n : i ≡ k → ⊥) → i < length ns → (q : ParentAt ns (node_at ns i) j) → (v : Way ns a j)
      → (u : Way moved a j) × (bytes u ≡ bytes v)
      → (u : Way moved a i) × (bytes u ≡ suc (length (node_at ns i).name) + bytes v)
  unfolding bytes
  step_stays {i = i} {j = j} n h q v (u, e) = (
    up {k = i} j (rw length_moved h) (parent_stays i j n q) u,
    λ x. suc (length (moved_other i n x).name) + e x,
  )

  pub way_away : {i : ℕ} (v : Way ns 0 i) → (Way ns k i → ⊥) → (u : Way moved 0 i) × (bytes u ≡ bytes v)
  unfolding bytes
  way_away top n = (top, refl)
  way_away (up {k = i} j h q v) n =
      step_stays (λ e. n (subst (λ x. Way ns x i) e top)) h q v (way_away v (λ b. n (up j h q b)))

  module _ (w : ℕ) (s : Sound w ns) where
    -- and so do those up to node k
    way_within : {i : ℕ} (v : Way ns k i) → (u : Way moved k i) × (bytes u ≡ bytes v)
    unfolding bytes
    way_within top = (top, refl)
    way_within (up {k = i} j h q v) =
        step_stays
        (λ e. no_loop (ground w ns s) j (s.ways k known).0 known (subst (λ x. ParentAt ns (node_at ns x) j) e q) v)
        h q v (way_within v)

    r : Rooted ns
    r = rooted w ns s

    -- beneath itself it leads nowhere
    pub way_nowhere : 0 < k → is_directory (node_at ns d) ≡ true → beneath ns k d ≡ true → Way moved 0 d → ⊥
    way_nowhere p f e v =
        let h : k < length moved = rw length_moved known in
        let q = parent_here f in
        no_loop (ground_moved p (ground w ns s)) d (up {k = k} d h q v) h q
        (way_within (beneath_way ns r k d known (directory_place ns d f) e)).0

    module _ (folder : is_directory (node_at ns d) ≡ true) (not_within : beneath ns k d ≡ false) where
      d-known : d < length ns
      d-known = directory_place ns d folder

      -- the new path of node k
      way_here : (u : Way moved 0 k) × (bytes u ≡ length_in ns d name)
      unfolding bytes
      way_here =
          let (v, _) = s.ways d d-known in
          let (u, e) = way_away v (not_beneath ns r known not_within) in
          let l = path_length_way ns r d-known v in
          let n : length (node_at moved k).name ≡ length name = ap (λ (x : Node). length x.name) moved_here in
          (up {k = k} d (rw length_moved known) (parent_here folder) u, omega arith)

      -- the new path of a node at or beneath it
      pub way_there : (i : ℕ) → i < length ns → beneath ns k i ≡ true → (u : Way moved 0 i)
          × (bytes u + path_length ns (node_at ns k) ≡ path_length ns (node_at ns i) + length_in ns d name)
      way_there i h e =
          let v = beneath_way ns r k i known h e in
          let (u, f) = way_within v in
          let (t, g) = way_here in
          let x = (s.ways k known).0 in (
            onward u t,
            omega (
              arith,
              bytes-onward u t,
              bytes-onward v x,
              path_length_way ns r known x,
              path_length_way ns r h (onward v x),
            ),
          )

      abbrev deep : Node → Bool
      deep n =
          lies NODES ns (node_at ns k).id n
          && ltb (PATH_BYTES + path_length ns (node_at ns k)) (path_length ns n + length_in ns d name)

      -- no path is too long then exactly where none is too deep now
      pub ways_moved : too_deep ns k d name ≡ false → (i : ℕ) → i < length ns
          → (u : Way moved 0 i) × (bytes u ≤ PATH_BYTES)
      unfolding too_deep beneath node_at
      ways_moved shallow i h = go (is (beneath ns k i))
        where
          and_rest : (a b : Bool) → (a && b) ≡ false → a ≡ true → b ≡ false
          and_rest true b t y = t
          and_rest false b t y = absurd (true≢false (sym y))

          go : Is (beneath ns k i) → (u : Way moved 0 i) × (bytes u ≤ PATH_BYTES)
          go (is_t e) =
              let (u, f) = way_there i h e in
              let z : path_length ns (node_at ns i) + length_in ns d name ≤ PATH_BYTES + path_length ns (node_at ns k) =
              ltb-false _ _ (and_rest _ _ (any_at deep no_node ns i shallow h) e) in
              (u, omega arith)
          go (is_f e) =
              let (v, b) = s.ways i h in
              let (u, f) = way_away v (not_beneath ns r known e) in
              (u, omega arith)

      pub ways_shallow : 0 < k → ((i : ℕ) → i < length ns → (u : Way moved 0 i) × (bytes u ≤ PATH_BYTES))
          → too_deep ns k d name ≡ false
      unfolding too_deep beneath node_at
      ways_shallow p f = at-any deep no_node ns (λ i h. go i h (is (beneath ns k i)))
        where
          and_first : (a b : Bool) → a ≡ false → (a && b) ≡ false
          and_first true b e = absurd (true≢false e)
          and_first false b e = refl

          and_second : (a b : Bool) → b ≡ false → (a && b) ≡ false
          and_second true b e = e
          and_second false b e = refl

          go : (i : ℕ) → i < length ns → Is (beneath ns k i) → deep (node_at ns i) ≡ false
          go i h (is_t e) =
              let (u, t) = way_there i h e in
              let (v, b) = f i h in
              let (z, _) = way_same (ground_moved p (ground w ns s)) u v refl in
              and_second (lies NODES ns (node_at ns k).id (node_at ns i)) _
              (le-ltb (PATH_BYTES + path_length ns (node_at ns k))
              (path_length ns (node_at ns i) + length_in ns d name) (omega arith))
          go i h (is_f e) =
              and_first _ (ltb (PATH_BYTES + path_length ns (node_at ns k))
              (path_length ns (node_at ns i) + length_in ns d name)) e
