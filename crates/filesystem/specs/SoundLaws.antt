-- Every change keeps nodes sound; a path's length found by climbing is that of the path walked.
-- Assumes nothing.
use Rattle.std.specs.Prelude.{◌≡◌, ◌⊎◌, true, ◌&&◌, ◌||◌, ℕ, zero, suc, ◌+◌, ◌-◌, ◌^◌, ◌≤◌, ◌<◌, eqb, leb, ltb, set}
use Rattle.std.proofs.Math.Path.{refl, ap, subst}
use Rattle.std.proofs.Common.{sym, ◌∙◌, inl, inr, pow-suc, length-set, get_or-set_same, get_or-set_other}
use Rattle.std.proofs.Math.Bool.{true≢false}
use mathlib.Core.List.{List, [], ◌∷◌, ◌++◌}
use native.Mathlib.Omega.{arith}
use Rattle.std.proofs.Math.Nat.{one-le-pow}
use Rattle.std.proofs.Math.ListN.{length, length-append}
use Rattle.std.proofs.Math.Seq.{get_or-append_seam}
use borrow.Author.Tests.{eqb-true, eq-eqb, eqb-false, ne_eqb, le-leb, ltb-true, ltb-false, lt-ltb, leb-false}
use Rattle.lists.specs.Pick.{pick}
use Rattle.lists.specs.Equal.{Is, is_t, is_f, is, equal, equal_true, equal_yes, and_fst, and_snd, and_both}
use Rattle.lists.specs.All.{both}
use Rattle.lists.specs.Checks.{Passed}
use Rattle.lists.specs.Search.{every, any, unique, place-passes, without}
use Rattle.lists.specs.Places.{none_place, select_none, none_select, skip, skip-before, skip_mono, skip_below, unskip, length_without, get_or-without}
use Rattle.filesystem.specs.Tables.{NODES, PAGES, FILE_BYTES, NAME_BYTES, PATH_BYTES, Node, no_node, root, new_node, with_mode, with_size, is_file, is_directory, has_id, is_child, node_at, find_id, find_child, has_parent, children, pages_for, page_total, set_mode, set_size}
use Rattle.filesystem.specs.Paths.{Path, joined, component_form, child_at, walk, walk_checks, parent_checks, parent_of, last_of}
use Rattle.filesystem.specs.Image.{climb, path_length, is_root, in_limits, is_named, lies, sound_nodes}
use Rattle.filesystem.specs.Ways.{Way, up, bytes}
use Rattle.filesystem.specs.Sound.{ParentAt, Sound, of_limits, node_at-append, to_sound, of_sound, limits_at}
use Rattle.filesystem.specs.Sound.{root_parent, has_parent_lem, parent_here}
use Rattle.filesystem.specs.Climb.{rooted, Same, Kept, apart, later, way_kept}
use Rattle.filesystem.specs.Climb.{path_length_way, path_length-root, path_length-step}

-- what a fresh guard has is sound
pub sound-root : (w : ℕ) → 1 ≤ w → sound_nodes w (root ∷ []) ≡ true
unfolding sound_nodes in_limits every unique any lies path_length climb page_total pages_for equal pick
sound-root zero h = absurd (omega arith)
sound-root (suc w) h =
    let z = one-le-pow w 256 (omega arith) in
    rw (lt-ltb 1 (256 ^ suc w) (rw pow-suc (omega arith)))

-- a node with another mode and size, perhaps its own
alike : (m size : ℕ) (n : Node) → Same (with_mode m (with_size size n)) n
alike m size n = record { same_id = refl; same_parent = refl; same_kind = refl; same_name = refl }

itself : (n : Node) → Same n n
itself n = alike n.mode n.size n

-- Nodes that stand for nodes of a sound list, each with its parent, are sound.
module _ (w : ℕ) {ns ms : List Node} {φ : ℕ → ℕ} (p : Kept ns ms (length ms) φ) (s : Sound w ns) (some : 0 < length ms) (limited : (i : ℕ) → i < length ms → in_limits w (node_at ms i) ≡ true) where
  own-kept : (i j : ℕ) → i < length ms → j < length ms → (node_at ms i).id ≡ (node_at ms j).id → i ≡ j
  own-kept i j h l e = apart p i j (s.ids (φ i) (φ j) (p.below i h) (p.below j l)
      (sym (p.same i h).same_id ∙ (e ∙ (p.same j l).same_id)))

  sound-kept : page_total ms ≤ PAGES → Sound w ms
  sound-kept pages =
      let z = p.same 0 some in
      record {
        has-root = some;
        count = let b = p.below (length ms - 1) (omega arith) in let l = later p (length ms - 1) in let c = s.count in omega arith;
        root-first = (λ x. eqb (z.same_id x) 1 && (eqb (z.same_kind x) 2 && (eqb (z.same_parent x) 0 && equal (z.same_name x) [])))
            ∙ (ap (λ k. is_root (node_at ns k)) p.first ∙ s.root-first);
        limits = limited;
        names = λ k l h. ap (λ c. component_form c && leb (length c) NAME_BYTES) (p.same k h).same_name ∙ s.names (φ k) (let m = p.mono 0 k l in omega arith) (p.below k h);
        ids = own-kept;
        siblings = λ i j h l e f. apart p i j (s.siblings (φ i) (φ j) (p.below i h) (p.below j l)
            (sym (p.same i h).same_parent ∙ (e ∙ (p.same j l).same_parent)) (sym (p.same i h).same_name ∙ (f ∙ (p.same j l).same_name)));
        ways = λ k h. let (v, b) = s.ways (φ k) (p.below k h) in let (u, e) = way_kept p v k h refl in
            (u, omega arith);
        pages = pages;
      }

-- A change of one node, in mode or size.
module _ (ns : List Node) (k : ℕ) (y : Node) where
  set_ind : (P : ℕ → Node → Type 0) → P k y → ((i : ℕ) → i < length ns → P i (node_at ns i)) → (i : ℕ) → i < length ns → P i (node_at (set ns k y) i)
  unfolding node_at
  set_ind P f g i h = go (is (eqb i k))
    where
      go : Is (eqb i k) → P i (node_at (set ns k y) i)
      go (is_t e) =
          let q = eqb-true i k e in
          subst (λ j. P j (node_at (set ns k y) j)) (sym q) (subst (P k) (sym (get_or-set_same ns k y no_node (omega arith))) f)
      go (is_f e) = subst (P i) (sym (get_or-set_other ns k i y no_node (eqb-false i k e))) (g i h)

  kept_set : Same y (node_at ns k) → Kept ns (set ns k y) (length (set ns k y)) (λ i. i)
  kept_set same =
      let n = length-set ns k y in
      record {
        fits = omega arith;
        first = refl;
        mono = λ i j l. l;
        below = λ i h. omega arith;
        same = λ i h. set_ind (λ j m. Same m (node_at ns j)) same (λ j l. itself (node_at ns j)) i (omega arith);
        closed = λ i j h l q. (j, omega arith, refl);
      }

  sound-set : (w : ℕ) → sound_nodes w ns ≡ true → Same y (node_at ns k) → in_limits w y ≡ true → page_total (set ns k y) ≤ PAGES → sound_nodes w (set ns k y) ≡ true
  sound-set w e same l pages =
      let s = to_sound w ns e in
      let n = length-set ns k y in
      let h = s.has-root in
      of_sound w (set ns k y)
      (sound-kept w (kept_set same) s (omega arith) (λ i b. set_ind (λ j m. in_limits w m ≡ true) l s.limits i (omega arith)) pages)

pub page_total-set : (ns : List Node) (k : ℕ) (y : Node) → y.size ≡ (node_at ns k).size
    → page_total (set ns k y) ≡ page_total ns
unfolding page_total node_at
page_total-set [] k y e = refl
page_total-set (n ∷ ns) zero y e = ap (λ z. pages_for z + page_total ns) e
page_total-set (n ∷ ns) (suc k) y e = ap (λ t. pages_for n.size + t) (page_total-set ns k y e)

pub sound-set_mode : (w : ℕ) (ns : List Node) (k m : ℕ) → sound_nodes w ns ≡ true → k < length ns → m ≤ 7 → sound_nodes w (set_mode ns k m) ≡ true
unfolding set_mode
sound-set_mode w ns k m e h l =
    let s = to_sound w ns e in
    let y = with_mode m (node_at ns k) in
    let b = limits_at w ns s k h in
    sound-set ns k y w e (alike m (node_at ns k).size (node_at ns k))
    (of_limits w y (record { id_some = b.id_some; id_fits = b.id_fits; mode_fits = l; kind_size = b.kind_size }))
    (rw (page_total-set ns k y refl) s.pages)

pub sound-set_size : (w : ℕ) (ns : List Node) (k size : ℕ) → sound_nodes w ns ≡ true → k < length ns → is_file (node_at ns k) ≡ true → size ≤ FILE_BYTES
    → page_total (set_size ns k size) ≤ PAGES
    → sound_nodes w (set_size ns k size) ≡ true
unfolding set_size
sound-set_size w ns k size e h f l pages =
    let y = with_size size (node_at ns k) in
    let b = limits_at w ns (to_sound w ns e) k h in
    sound-set ns k y w e (alike (node_at ns k).mode size (node_at ns k))
    (of_limits w y (record { id_some = b.id_some; id_fits = b.id_fits; mode_fits = b.mode_fits; kind_size = rw (f, le-leb size FILE_BYTES l) refl })) pages

-- A removal.
page_total-without : (k : ℕ) (ns : List Node) → k < length ns → page_total (without k ns) ≤ page_total ns
unfolding page_total without
page_total-without k [] h = absurd (omega arith)
page_total-without zero (n ∷ ns) h = omega arith
page_total-without (suc k) (n ∷ ns) h = let z = page_total-without k ns (omega arith) in omega arith

module _ (w : ℕ) (ns : List Node) (k : ℕ) (h : k < length ns) where
  kept-without : 0 < k → ((i : ℕ) → i < length ns → (node_at ns i).parent ≡ (node_at ns k).id → ⊥) → Kept ns (without k ns) (length (without k ns)) (skip k)
  unfolding node_at
  kept-without l childless =
      let n = length_without k ns h in
      record {
        fits = omega arith;
        first = skip-before k 0 l;
        mono = skip_mono k;
        below = λ i b. skip_below k i (length ns) (omega arith);
        same = λ i b. subst (λ m. Same m (node_at ns (skip k i))) (sym (get_or-without k ns i no_node h)) (itself (node_at ns (skip k i)));
        closed = λ i j b m q.
            let c = skip_below k i (length ns) (omega arith) in
            unskip k j (length (without k ns)) (λ e. childless (skip k i) c (sym q.is_parent ∙ ap (λ x. (node_at ns x).id) e)) (omega arith) (omega arith);
      }

  pub sound-without : sound_nodes w ns ≡ true → 0 < k → ((i : ℕ) → i < length ns → (node_at ns i).parent ≡ (node_at ns k).id → ⊥)
      → sound_nodes w (without k ns) ≡ true
  unfolding node_at
  sound-without e l childless =
      let s = to_sound w ns e in
      let n = length_without k ns h in
      of_sound w (without k ns)
      (sound-kept w (kept-without l childless) s (omega arith)
      (λ i b. subst (λ m. in_limits w m ≡ true) (sym (get_or-without k ns i no_node h)) (s.limits (skip k i) (skip_below k i (length ns) (omega arith))))
      (let p = s.pages in let z = page_total-without k ns h in omega arith))

  -- a file has no child
  pub file_childless : sound_nodes w ns ≡ true → is_file (node_at ns k) ≡ true → (i : ℕ) → i < length ns → (node_at ns i).parent ≡ (node_at ns k).id → ⊥
  file_childless e f zero b q =
      let s = to_sound w ns e in
      omega (arith, root_parent w ns s, (limits_at w ns s k h).id_some)
  file_childless e f (suc i) b q =
      let s = to_sound w ns e in
      let (j, l, d) = has_parent_lem w ns s (suc i) (omega arith) b in
      let a : j ≡ k = s.ids j k l h (d.is_parent ∙ q) in
      omega (arith, eqb-true (node_at ns k).kind 1 f, eqb-true (node_at ns k).kind 2 (ap (λ x. is_directory (node_at ns x)) (sym a) ∙ d.is_directory_lem))

  pub file-children : sound_nodes w ns ≡ true → is_file (node_at ns k) ≡ true → children ns (node_at ns k).id ≡ []
  unfolding children node_at
  file-children e f = none_select (has_parent (node_at ns k).id) no_node ns (λ i b. ne_eqb (node_at ns i).parent (node_at ns k).id (file_childless e f i b))

-- nor has a directory that is empty
pub empty_childless : (ns : List Node) (k : ℕ) → children ns (node_at ns k).id ≡ [] → (i : ℕ) → i < length ns → (node_at ns i).parent ≡ (node_at ns k).id → ⊥
unfolding children node_at
empty_childless ns k e i h = eqb-false (node_at ns i).parent (node_at ns k).id (select_none (has_parent (node_at ns k).id) no_node ns i e h)

-- A new last node.
module _ (ns : List Node) (x : Node) where
  node_at-last : node_at (ns ++ (x ∷ [])) (length ns) ≡ x
  unfolding node_at
  node_at-last = get_or-append_seam ns x [] no_node

  -- what holds of the nodes before and of the new one
  snoc_ind : (P : ℕ → Node → Type 0) → ((k : ℕ) → k < length ns → P k (node_at ns k)) → P (length ns) x → (k : ℕ) → k < length (ns ++ (x ∷ []))
      → P k (node_at (ns ++ (x ∷ [])) k)
  snoc_ind P f g k h = go (is (ltb k (length ns)))
    where
      go : Is (ltb k (length ns)) → P k (node_at (ns ++ (x ∷ [])) k)
      go (is_t l) = let m = ltb-true k (length ns) l in subst (P k) (sym (node_at-append ns (x ∷ []) k m)) (f k m)
      go (is_f l) =
          let q : k ≡ length ns = omega (arith, ltb-false k (length ns) l, length-append ns (x ∷ [])) in
          subst (λ j. P j (node_at (ns ++ (x ∷ [])) j)) (sym q) (subst (P (length ns)) (sym node_at-last) g)

  -- nodes apart, and the new one apart from each
  snoc_apart : (R : Node → Node → Type 0) → ((i j : ℕ) → i < length ns → j < length ns → R (node_at ns i) (node_at ns j) → i ≡ j)
      → ((i : ℕ) → i < length ns → R (node_at ns i) x → ⊥) → ((i : ℕ) → i < length ns → R x (node_at ns i) → ⊥)
      → (i j : ℕ) → i < length (ns ++ (x ∷ [])) → j < length (ns ++ (x ∷ [])) → R (node_at (ns ++ (x ∷ [])) i) (node_at (ns ++ (x ∷ [])) j) → i ≡ j
  snoc_apart R f g g' i j h l =
      snoc_ind (λ i n. R n (node_at (ns ++ (x ∷ [])) j) → i ≡ j)
      (λ i h. snoc_ind (λ j m. R (node_at ns i) m → i ≡ j) (λ j l r. f i j h l r) (λ r. absurd (g i h r)) j l)
      (snoc_ind (λ j m. R x m → length ns ≡ j) (λ j l r. absurd (g' j l r)) (λ r. refl) j l) i h

pub page_total-append : (ns ms : List Node) → page_total (ns ++ ms) ≡ page_total ns + page_total ms
unfolding page_total
page_total-append [] ms = omega arith
page_total-append (n ∷ ns) ms = rw (page_total-append ns ms) (omega arith)

-- what a new node must have
pub record Addable (w : ℕ) (ns : List Node) (d id kind mode : ℕ) (name : List ℕ) : Type 0 where
  pub place : d < length ns
  pub folder : is_directory (node_at ns d) ≡ true
  pub form : component_form name ≡ true
  pub short : length name ≤ NAME_BYTES
  pub new-name : length ns ≤ find_child ns (node_at ns d).id name
  pub some_id : 0 < id
  pub id_fits : id < 256 ^ w
  pub new_id_lem : length ns ≤ find_id ns id
  pub room : length ns < NODES
  pub kinds : (kind ≡ 1) ⊎ (kind ≡ 2)
  pub mode_fits : mode ≤ 7
  pub path : path_length ns (node_at ns d) + 1 + length name ≤ PATH_BYTES

module _ (w : ℕ) (ns : List Node) (d id kind mode : ℕ) (name : List ℕ) (a : Addable w ns d id kind mode name) (s : Sound w ns) where
  abbrev new : Node
  new = new_node id (node_at ns d).id kind mode name

  abbrev more : List Node
  more = ns ++ (new ∷ [])

  id_apart : (i : ℕ) → i < length ns → (node_at ns i).id ≡ id → ⊥
  unfolding node_at find_id
  id_apart i h = eqb-false (node_at ns i).id id (none_place (has_id id) no_node ns i a.new_id_lem h)

  child_apart : (i : ℕ) → i < length ns → (node_at ns i).parent ≡ (node_at ns d).id → (node_at ns i).name ≡ name → ⊥
  unfolding node_at find_child
  child_apart i h e f =
      true≢false (sym (and_both _ _ (eq-eqb (node_at ns i).parent (node_at ns d).id e) (equal_yes (node_at ns i).name name f))
      ∙ none_place (is_child (node_at ns d).id name) no_node ns i a.new-name h)

  kept-add : Kept ns more (length ns) (λ i. i)
  kept-add = record {
    fits = rw length-append (omega arith);
    first = refl;
    mono = λ i j l. l;
    below = λ i h. h;
    same = λ i h. subst (λ m. Same m (node_at ns i)) (sym (node_at-append ns (new ∷ []) i h)) (itself (node_at ns i));
    closed = λ i j h l q. (j, omega arith, refl);
  }

  kind_size_new : (kind ≡ 1) ⊎ (kind ≡ 2) → (eqb kind 1 && true || eqb kind 2 && true) ≡ true
  kind_size_new (inl e) = rw e
  kind_size_new (inr e) = rw e

  limits_add : (k : ℕ) → k < length more → in_limits w (node_at more k) ≡ true
  limits_add =
      snoc_ind ns new (λ k m. in_limits w m ≡ true) s.limits
      (of_limits w new (record { id_some = a.some_id; id_fits = a.id_fits; mode_fits = a.mode_fits; kind_size = kind_size_new a.kinds }))

  parent_new : ParentAt more new d
  parent_new =
      let e = node_at-append ns (new ∷ []) d a.place in
      record { is_parent = ap (λ n. n.id) e; is_directory_lem = ap is_directory e ∙ a.folder }

  -- the ways of the others stay, and the new node's goes on with its parent's
  ways_add : (k : ℕ) → k < length more → (v : Way more 0 k) × (bytes v ≤ PATH_BYTES)
  unfolding bytes
  ways_add = snoc_ind ns new (λ k m. (v : Way more 0 k) × (bytes v ≤ PATH_BYTES)) old last
    where
      old : (k : ℕ) → k < length ns → (v : Way more 0 k) × (bytes v ≤ PATH_BYTES)
      old k h = let (v, b) = s.ways k h in let (u, e) = way_kept kept-add v k h refl in (u, omega arith)

      last : (v : Way more 0 (length ns)) × (bytes v ≤ PATH_BYTES)
      last =
          let l : length ns < length more = rw length-append (omega arith) in
          let (v, b) = s.ways d a.place in
          let (u, e) = way_kept kept-add v d a.place refl in
          let z = path_length_way ns (rooted w ns s) a.place v in
          let n : length (node_at more (length ns)).name ≡ length name = ap (λ (m : Node). length m.name)
          (node_at-last ns new) in
          let y = a.path in
          (up d l (subst (λ n. ParentAt more n d) (sym (node_at-last ns new)) parent_new) u, omega arith)

  ids_add : (i j : ℕ) → i < length more → j < length more → (node_at more i).id ≡ (node_at more j).id → i ≡ j
  ids_add = snoc_apart ns new (λ n m. n.id ≡ m.id) s.ids id_apart (λ i h e. id_apart i h (sym e))

  sound_more : Sound w more
  sound_more =
      record {
        has-root = rw length-append (omega arith);
        count = let h = a.room in rw length-append (omega arith);
        root-first = ap is_root (node_at-append ns (new ∷ []) 0 s.has-root) ∙ s.root-first;
        limits = limits_add;
        names = λ k l h. snoc_ind ns new (λ k m. 0 < k → is_named m ≡ true) (λ k h l. s.names k l h) (λ l. and_both _ _ a.form (le-leb _ _ a.short)) k h l;
        ids = ids_add;
        siblings = λ i j h l e f.
            snoc_apart ns new (λ n m. (n.parent ≡ m.parent) × (n.name ≡ m.name)) (λ i j h l r. s.siblings i j h l r.0 r.1)
            (λ i h r. child_apart i h r.0 r.1) (λ i h r. child_apart i h (sym r.0) (sym r.1)) i j h l (e, f);
        ways = ways_add;
        pages = rw (page_total-append ns (new ∷ [])) (let h = s.pages in unfold page_total pages_for in omega arith);
      }

pub sound-add : (w : ℕ) (ns : List Node) (d id kind mode : ℕ) (name : List ℕ) → sound_nodes w ns ≡ true → Addable w ns d id kind mode name
    → sound_nodes w (ns ++ (new_node id (node_at ns d).id kind mode name ∷ [])) ≡ true
sound-add w ns d id kind mode name e a = of_sound w _ (sound_more w ns d id kind mode name a (to_sound w ns e))

-- The walk and the climb.

-- a child that is found has the parent's id and the name
pub child_found : (ns : List Node) (d : ℕ) (c : List ℕ) → child_at ns d c < length ns
    → ((node_at ns (child_at ns d c)).parent ≡ (node_at ns d).id) × ((node_at ns (child_at ns d c)).name ≡ c)
unfolding child_at find_child node_at
child_found ns d c l =
    let k = child_at ns d c in
    let t = place-passes (is_child (node_at ns d).id c) ns no_node l in
    (eqb-true (node_at ns k).parent (node_at ns d).id (and_fst _ _ t), equal_true (node_at ns k).name c (and_snd (eqb (node_at ns k).parent (node_at ns d).id) _ t))

module _ (w : ℕ) (ns : List Node) (sound : sound_nodes w ns ≡ true) where
  -- the path of a child
  path_child : (d : ℕ) (c : List ℕ) → d < length ns → child_at ns d c < length ns
      → path_length ns (node_at ns (child_at ns d c)) ≡ suc (length c) + path_length ns (node_at ns d)
  path_child d c h l =
      let s = to_sound w ns sound in
      let (e, f) = child_found ns d c l in
      path_length-step ns (rooted w ns s) (child_at ns d c) d l (parent_here w ns s (child_at ns d c) d l h e)
      ∙ ap (λ x. suc (length x) + path_length ns (node_at ns d)) f

  pub walk-length : (d : ℕ) (p : Path) → d < length ns → Passed (walk_checks ns d p)
      → path_length ns (node_at ns (walk ns d p)) ≡ path_length ns (node_at ns d) + length (joined p)
  unfolding walk walk_checks joined
  walk-length d [] h a = omega arith
  walk-length d (c ∷ cs) h (both dir (both bit (both there a))) =
      let l = leb-false _ _ there in
      walk-length (child_at ns d c) cs l a ∙ rw (path_child d c h l, length-append) (omega arith)

  -- the path of what a walk's last component names, present or not
  pub parent_length : (d : ℕ) (c : List ℕ) (cs : Path) → d < length ns → Passed (parent_checks ns d (c ∷ cs))
      → path_length ns (node_at ns (parent_of ns d (c ∷ cs))) + 1 + length (last_of (c ∷ cs)) ≡ path_length ns (node_at ns d) + length (joined (c ∷ cs))
  unfolding parent_of parent_checks last_of joined
  parent_length d c [] h a = rw length-append (omega arith)
  parent_length d c (x ∷ cs) h (both dir (both bit (both there a))) =
      let l = leb-false _ _ there in
      parent_length (child_at ns d c) x cs l a ∙ rw (path_child d c h l, length-append c (joined (x ∷ cs))) (omega arith)

  pub root-walk-length : (p : Path) → Passed (walk_checks ns 0 p) → path_length ns (node_at ns (walk ns 0 p)) ≡ length (joined p)
  root-walk-length p a =
      let s = to_sound w ns sound in
      walk-length 0 p s.has-root a ∙ rw (path_length-root ns (rooted w ns s) s.has-root) (omega arith)

  pub root_parent_length : (c : List ℕ) (cs : Path) → Passed (parent_checks ns 0 (c ∷ cs))
      → path_length ns (node_at ns (parent_of ns 0 (c ∷ cs))) + 1 + length (last_of (c ∷ cs)) ≡ length (joined (c ∷ cs))
  root_parent_length c cs a =
      let s = to_sound w ns sound in
      parent_length 0 c cs s.has-root a ∙ rw (path_length-root ns (rooted w ns s) s.has-root) (omega arith)
