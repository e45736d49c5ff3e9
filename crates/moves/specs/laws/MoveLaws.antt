-- The places of parents when node k leads to directory d: they are the parents of the nodes that move makes, so that
-- climbs among them say what the tests of the move do.
-- Assumes nothing.
use Rattle.std.specs.Prelude.{◌≡◌, refl, Bool, true, false, List, ℕ, suc, ◌+◌, ◌≤◌, ◌<◌, length, get_or, take, set}
use Rattle.std.specs.Prelude.{Option, Some, None, is_some}
use Rattle.std.proofs.Common.{ap, sym, ◌∙◌, subst, true≢false, arith, length-set, eqb-true}
use Rattle.lists.specs.Equal.{Is, is_t, is_f, is}
use Rattle.filesystem.specs.Tables.{NODES, PATH_BYTES, Node, is_directory, node_at, find_id, renamed}
use Rattle.filesystem.specs.Image.{path_length, beneath, length_in, too_deep, sound_nodes}
use Rattle.filesystem.specs.Ways.{ParentAt, directory_place, Way, top, up, bytes, find_parent}
use Rattle.filesystem.specs.Sound.{Sound, to_sound, ground, has_parent_lem}
use Rattle.filesystem.specs.Climb.{rooted, beneath_way, not_beneath}
use Rattle.filesystem.specs.RenamedWays.{length_moved, moved_here, moved_other, id_stays, kind_stays, ground_moved}
use Rattle.filesystem.specs.RenamedWays.{way_away, way_nowhere, way_there, ways_moved, ways_shallow}
use Rattle.tables.specs.laws.RowsInUse.{node_front_lem}
use Rattle.links.specs.Climbs.{Leads, Linked, Climbs, Reach}
use Rattle.links.specs.Parents.{Placed}
use Rattle.links.specs.laws.ClimbLaws.{set_ind}
use Rattle.links.specs.laws.ParentLaws.{to_way, to_lead}

-- what is found by the parent's id of one of the first n rows is its parent
pub parent_found : (w n : ℕ) (rows : List Node) → length (take n rows) ≡ n → sound_nodes w (take n rows) ≡ true
    → (k x r : ℕ) → 0 < k → k < n
    → x ≡ (node_at rows k).parent → r ≡ find_id (take n rows) x
    → (r < n) × ParentAt (take n rows) (node_at (take n rows) k) r
parent_found w n rows long sound k x r p h e f =
    let s = to_sound w (take n rows) sound in
    let (j, l, q) = has_parent_lem w (take n rows) s k p (omega (arith, long)) in
    let y : x ≡ (node_at (take n rows) k).parent = e ∙ ap (λ (n : Node). n.parent) (sym (node_front_lem n rows k h)) in
    let z : j ≡ r = sym (f ∙ (ap (find_id (take n rows)) y
    ∙ find_parent (ground w (take n rows) s) (node_at (take n rows) k) j q)) in
    (omega (arith, long, z, l), subst (ParentAt (take n rows) (node_at (take n rows) k)) z q)

-- the first i of n places lead to others, by steps of some length
pub record Joined (to far : List ℕ) (n i : ℕ) : Type 0 where
  pub to_size : length to ≡ NODES
  pub far_size : length far ≡ NODES
  pub inside : (k : ℕ) → 0 < k → k < i → get_or to k 0 < n
  pub some : (k : ℕ) → 0 < k → k < i → 0 < get_or far k 0

pub joined-none : (to far : List ℕ) (n : ℕ) → length to ≡ NODES → length far ≡ NODES → Joined to far n 1
joined-none to far n t f = record {
  to_size = t;
  far_size = f;
  inside = λ k p h. absurd (omega arith);
  some = λ k p h. absurd (omega arith);
}

pub joined-next : {to far : List ℕ} {n k : ℕ} (p l : ℕ) → Joined to far n k → k < NODES → p < n → 0 < l
    → Joined (set to k p) (set far k l) n (k + 1)
joined-next {to} {far} {n} {k} p l d few w s = record {
  to_size = length-set to k p ∙ d.to_size;
  far_size = length-set far k l ∙ d.far_size;
  inside = λ j h b. set_ind (λ j x. x < n) to k p (omega (arith, d.to_size)) w j (λ e. d.inside j h (omega arith));
  some = λ j h b. set_ind (λ j x. 0 < x) far k l (omega (arith, d.far_size)) s j (λ e. d.some j h (omega arith));
}

pub joined_linked : {to far : List ℕ} {n k : ℕ} → n ≤ NODES → n ≤ k → Joined to far n k → Linked to far n
joined_linked few h d = record {
  few = few;
  to_size = d.to_size;
  far_size = d.far_size;
  inside = λ j p l. d.inside j p (omega arith);
  some = λ j p l. d.some j p (omega arith);
}

-- node k leads to directory d
module _ {to far : List ℕ} (n k d l : ℕ) (known : k < n) where
  pub linked_moved : Linked to far n → d < n → 0 < l → Linked (set to k d) (set far k l) n
  linked_moved p h s = record {
    few = p.few;
    to_size = length-set to k d ∙ p.to_size;
    far_size = length-set far k l ∙ p.far_size;
    inside = λ j o b. set_ind (λ j x. x < n) to k d (omega (arith, p.to_size, p.few)) h j (λ e. p.inside j o b);
    some = λ j o b. set_ind (λ j x. 0 < x) far k l (omega (arith, p.far_size, p.few)) s j (λ e. p.some j o b);
  }

  module _ (w : ℕ) (ns : List Node) (name : List ℕ) (s : Sound w ns) (long : length ns ≡ n) (first : 0 < k)
      (size : l ≡ suc (length name)) (folder : is_directory (node_at ns d) ≡ true)
      (p : Placed (node_at ns) to far n n) where
    abbrev moved : List Node
    moved = renamed ns k (node_at ns d).id name

    here : k < length ns
    here = omega (arith, long)

    placed-moved : Placed (node_at moved) (set to k d) (set far k l) n n
    placed-moved = record {
      to_size = length-set to k d ∙ p.to_size;
      far_size = length-set far k l ∙ p.far_size;
      inside = λ j o b. put (λ j x. x < n) (omega (arith, long, directory_place ns d folder)) j (λ e. p.inside j o b);
      ids = λ j o b. put (λ j x. (node_at moved x).id ≡ (node_at moved j).parent)
          (id_stays ns k d name here d ∙ ap (λ (x : Node). x.parent) (sym (moved_here ns k d name here))) j
          (λ e. id_stays ns k d name here (get_or to j 0) ∙ (p.ids j o b
          ∙ ap (λ (x : Node). x.parent) (sym (moved_other ns k d name here j e))));
      kinds = λ j o b. put (λ j x. (node_at moved x).kind ≡ 2)
          (kind_stays ns k d name here d ∙ eqb-true _ 2 folder) j
          (λ e. kind_stays ns k d name here (get_or to j 0) ∙ p.kinds j o b);
      steps = λ j o b. set_ind (λ j x. x ≡ suc (length (node_at moved j).name)) far k l
          (omega (arith, p.far_size, long, s.count))
          (size ∙ ap (λ (x : Node). suc (length x.name)) (sym (moved_here ns k d name here))) j
          (λ e. p.steps j o b ∙ ap (λ (x : Node). suc (length x.name)) (sym (moved_other ns k d name here j e)));
    }
      where
        put : (P : ℕ → ℕ → Type 0) → P k d → (j : ℕ) → ((j ≡ k → ⊥) → P j (get_or to j 0))
            → P j (get_or (set to k d) j 0)
        put P = set_ind P to k d (omega (arith, p.to_size, long, s.count))

    count : length moved ≡ n
    count = length_moved ns k d name here ∙ long

    lead : {i : ℕ} (v : Way moved 0 i) → Leads (set to k d) (set far k l) i (bytes v)
    lead = to_lead count (λ i h. refl) placed-moved (ground_moved ns k d name here first (ground w ns s))

    way : {i b : ℕ} → i < n → Leads (set to k d) (set far k l) i b → (v : Way moved 0 i) × (bytes v ≡ b)
    way = to_way count (λ i h. refl) placed-moved

    -- the climb from d: it ends exactly where d is not beneath node k
    pub climb_within : (r : Option ℕ) → Climbs (set to k d) (set far k l) d r → is_some r ≡ false
        → beneath ns k d ≡ true
    climb_within (Some b) c h = absurd (true≢false h)
    climb_within None c h = go (is (beneath ns k d))
      where
        go : Is (beneath ns k d) → beneath ns k d ≡ true
        go (is_t e) = e
        go (is_f e) =
            let (v, b) = s.ways d (directory_place ns d folder) in
            let (u, f) = way_away ns k d name here v (not_beneath ns (rooted w ns s) here e) in
            let z = c (bytes u) (lead u) in
            absurd (omega arith)

    pub climb_away : (r : Option ℕ) → Climbs (set to k d) (set far k l) d r → is_some r ≡ true
        → beneath ns k d ≡ false
    climb_away None c h = absurd (true≢false (sym h))
    climb_away (Some b) c h = go (is (beneath ns k d))
      where
        go : Is (beneath ns k d) → beneath ns k d ≡ false
        go (is_t e) =
            let (v, _) = way {i = d} (omega (arith, long, directory_place ns d folder)) c.1 in
            absurd (way_nowhere ns k d name here w s first folder e v)
        go (is_f e) = e

    -- all climbs: each is short enough exactly where none is too deep
    module _ (away : beneath ns k d ≡ false) (r : Bool) (c : Reach (set to k d) (set far k l) n r) where
      pub reach_shallow : r ≡ true → too_deep ns k d name ≡ false
      reach_shallow e =
          ways_shallow ns k d name here w s folder away first (λ i h. short i (omega (arith, long))
          (c.0 e i (omega (arith, long))))
        where
          short : (i : ℕ) → i < n → (b : ℕ) × (b ≤ PATH_BYTES) × Leads (set to k d) (set far k l) i b
              → (u : Way moved 0 i) × (bytes u ≤ PATH_BYTES)
          short i h (b, l, u) = let (v, q) = way h u in (v, omega arith)

      pub reach-deep : r ≡ false → too_deep ns k d name ≡ true
      reach-deep e = go (is (too_deep ns k d name))
        where
          go : Is (too_deep ns k d name) → too_deep ns k d name ≡ true
          go (is_t t) = t
          go (is_f t) =
              let (i, h, f) = c.1 e in
              let (u, b) = ways_moved ns k d name here w s folder away t i (omega (arith, long)) in
              let z = f (bytes u) (lead u) in
              absurd (omega arith)

-- nothing but a file itself lies beneath it
file-alone : (ns : List Node) (k : ℕ) → is_directory (node_at ns k) ≡ false → {i : ℕ} → Way ns k i → i ≡ k
file-alone ns k f top = refl
file-alone ns k f (up j h q v) =
    let e = file-alone ns k f v in
    absurd (true≢false (sym q.is_directory_lem ∙ (ap (λ i. is_directory (node_at ns i)) e ∙ f)))

module _ (w : ℕ) (ns : List Node) (k d : ℕ) (name : List ℕ) (s : Sound w ns) (known : k < length ns)
    (file : is_directory (node_at ns k) ≡ false) (folder : is_directory (node_at ns d) ≡ true) where
  pub file_away : beneath ns k d ≡ false
  file_away = go (is (beneath ns k d))
    where
      go : Is (beneath ns k d) → beneath ns k d ≡ false
      go (is_t e) =
          let z = file-alone ns k file (beneath_way ns (rooted w ns s) k d known (directory_place ns d folder) e) in
          absurd (true≢false (sym folder ∙ (ap (λ i. is_directory (node_at ns i)) z ∙ file)))
      go (is_f e) = e

  pub file_shallow : 0 < k → length_in ns d name ≤ PATH_BYTES → too_deep ns k d name ≡ false
  file_shallow p l =
      ways_shallow ns k d name known w s folder file_away p (λ i h. go i h (is (beneath ns k i)))
    where
      go : (i : ℕ) → i < length ns → Is (beneath ns k i)
          → (u : Way (renamed ns k (node_at ns d).id name) 0 i) × (bytes u ≤ PATH_BYTES)
      go i h (is_t e) =
          let z = file-alone ns k file (beneath_way ns (rooted w ns s) k i known h e) in
          let (u, f) = way_there ns k d name known w s folder file_away i h e in
          let g = ap (λ j. path_length ns (node_at ns j)) z in
          (u, omega (arith, f, g, l))
      go i h (is_f e) =
          let (v, b) = s.ways i h in
          let (u, f) = way_away ns k d name known v (not_beneath ns (rooted w ns s) known e) in
          (u, omega arith)
