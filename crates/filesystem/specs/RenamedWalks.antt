-- Where paths lead when a node gets another parent and name: its new path leads to it, paths beneath go on as before,
-- its old path leads nowhere, every other path leads where it did.
-- Assumes nothing.
use Rattle.std.specs.Prelude.{◌≡◌, not, eqb}
use Rattle.std.proofs.Math.Path.{refl, ap, sym, subst}
use Rattle.std.proofs.Common.{◌∙◌, arith}
use Rattle.std.proofs.Math.Bool.{true, false, false≢true}
use mathlib.Core.List.{List, [], ◌∷◌, ◌++◌, append-nil}
use Prim.Native.Nat.{ℕ, zero, suc, ◌/◌, ◌%◌, ◌≤◌, ◌<◌}
use Rattle.std.proofs.Math.Dec.{leb}
use Rattle.std.proofs.Math.ListN.{length, get_or-eq_default}
use Rattle.std.proofs.Math.Seq.{append_snoc}
use borrow.Author.Tests.{leb-true, leb-false, eqb-true, eqb-false, eq-eqb, not-false}
use Rattle.lists.specs.Equal.{Is, is_t, is_f, is, equal, equal_true, equal_yes, and_fst, and_snd, and_both}
use Rattle.lists.specs.All.{both, all_left}
use Rattle.lists.specs.Search.{every, place}
use Rattle.lists.specs.Places.{place_none, place_set_off, place_set_on}
use Rattle.lists.specs.Checks.{Passed}
use Rattle.filesystem.specs.Tables.{Node, no_node, node_at, is_directory, with_place, is_child, find_child, renamed}
use Rattle.filesystem.specs.Paths.{Path, component_form, child_at, walk, search_checks, walk_checks, parent_checks}
use Rattle.filesystem.specs.Paths.{parent_of, last_of}
use Rattle.filesystem.specs.PathLaws.{walk-last, walk_checks_parent}
use Rattle.filesystem.specs.Image.{beneath}
use Rattle.filesystem.specs.Ways.{ParentAt, directory_place, Way, top, up, names, onward, way_place, names_same}
use Rattle.filesystem.specs.Ways.{no_loop}
use Rattle.filesystem.specs.Sound.{Sound, limits_at, root_name_lem, has_parent_lem, parent_here, ground}
use Rattle.filesystem.specs.Climb.{rooted, not_beneath}
use Rattle.filesystem.specs.SoundLaws.{child_found}
use Rattle.filesystem.specs.RenamedWays.{length_moved, moved_here, moved_other, id_stays, kind_stays, mode_stays}
use Rattle.filesystem.specs.Renaming.{Movable, sound-moved}

pub walk-append : (ns : List Node) (i : ℕ) (p q : Path) → walk ns i (p ++ q) ≡ walk ns (walk ns i p) q
unfolding walk
walk-append ns i [] q = refl
walk-append ns i (c ∷ p) q = walk-append ns (child_at ns i c) p q

-- a walk goes down: a way leads up from where it ends
module _ (ns : List Node) where
  child_parent : (i : ℕ) (c : List ℕ) → is_directory (node_at ns i) ≡ true → child_at ns i c < length ns
      → ParentAt ns (node_at ns (child_at ns i c)) i
  child_parent i c dir l = record { is_parent = sym (child_found ns i c l).0; is_directory_lem = dir }

  pub walk_way : (i : ℕ) (p : Path) → Passed (walk_checks ns i p) → Way ns i (walk ns i p)
  unfolding walk walk_checks
  walk_way i [] a = top
  walk_way i (c ∷ cs) (both dir (both bit (both there a))) =
      let l = leb-false _ _ there in
      onward (walk_way (child_at ns i c) cs a) (up i l (child_parent i c (not-false _ dir) l) top)

  pub parent_way : (i : ℕ) (c : List ℕ) (cs : Path) → Passed (parent_checks ns i (c ∷ cs))
      → Way ns i (parent_of ns i (c ∷ cs))
  unfolding parent_of parent_checks
  parent_way i c [] a = top
  parent_way i c (x ∷ cs) (both dir (both bit (both there a))) =
      let l = leb-false _ _ there in
      onward (parent_way (child_at ns i c) x cs a) (up i l (child_parent i c (not-false _ dir) l) top)

-- and the names on it are the path
module _ (w : ℕ) (ns : List Node) (s : Sound w ns) where
  walk-names : (i : ℕ) (p : Path) (v : Way ns 0 i) → Passed (walk_checks ns i p) → (u : Way ns 0 (walk ns i p))
      × (names u ≡ names v ++ p)
  unfolding walk walk_checks names
  walk-names i [] v a = (v, sym (append-nil (names v)))
  walk-names i (c ∷ cs) v (both dir (both bit (both there a))) =
      let l = leb-false _ _ there in
      let (u, e) = walk-names (child_at ns i c) cs (up i l (child_parent ns i c (not-false _ dir) l) v) a in
      (u, e ∙ (ap (λ (x : List ℕ). (names v ++ (x ∷ [])) ++ cs) (child_found ns i c l).1 ∙ append_snoc (names v) c cs))

  -- so a node has one path
  pub one_path : (p q : Path) → Passed (walk_checks ns 0 p) → Passed (walk_checks ns 0 q) → walk ns 0 p ≡ walk ns 0 q
      → p ≡ q
  unfolding names
  one_path p q a b e =
      let (u, x) = walk-names 0 p top a in
      let (v, y) = walk-names 0 q top b in
      sym x ∙ (names_same (ground w ns s) u v e ∙ y)

-- past the end nothing is found
module _ (w : ℕ) (ns : List Node) (s : Sound w ns) where
  lost : (i : ℕ) (c : List ℕ) → length ns ≤ i → component_form c ≡ true → length ns ≤ child_at ns i c
  unfolding child_at find_child node_at
  lost i c l e =
      subst (λ (n : Node). length ns ≤ place (is_child n.id c) ns) (sym (get_or-eq_default ns no_node l))
      (place_none (is_child 0 c) no_node ns (λ j h. go j h (is (is_child 0 c (node_at ns j)))))
    where
      apart : (j : ℕ) → j < length ns → (node_at ns j).parent ≡ 0 → (node_at ns j).name ≡ c → ⊥
      apart zero h p q = false≢true (unfold component_form equal in (ap component_form (sym (root_name_lem w ns s) ∙ q) ∙ e))
      apart (suc j) h p q =
          let (i, l, t) = has_parent_lem w ns s (suc j) (omega arith) h in
          omega (arith, (limits_at w ns s i l).id_some, t.is_parent)

      go : (j : ℕ) → j < length ns → Is (is_child 0 c (node_at ns j)) → is_child 0 c (node_at ns j) ≡ false
      go j h (is_f t) = t
      go j h (is_t t) = absurd (apart j h (eqb-true _ _ (and_fst _ _ t))
          (equal_true _ _ (and_snd (eqb (node_at ns j).parent 0) _ t)))

  pub lost_walk : (i : ℕ) (p : Path) → length ns ≤ i → every component_form p ≡ true → length ns ≤ walk ns i p
  unfolding walk every
  lost_walk i [] l e = l
  lost_walk i (c ∷ cs) l e = lost_walk (child_at ns i c) cs (lost i c l (and_fst _ _ e)) (and_snd (component_form c) _ e)

module _ (w : ℕ) (ns : List Node) (k d : ℕ) (name : List ℕ) (m : Movable ns k d name) (s : Sound w ns) where
  abbrev new : Node
  new = with_place (node_at ns d).id name (node_at ns k)

  abbrev moved : List Node
  moved = renamed ns k (node_at ns d).id name

  -- One component. A child other than node k is found where it was, and none is where none was, but for the new name.
  child_stays : (i : ℕ) (c : List ℕ) → (child_at ns i c ≡ k → ⊥) → ((node_at ns i).id ≡ (node_at ns d).id → c ≡ name → ⊥)
      → child_at moved i c ≡ child_at ns i c
  unfolding child_at find_child renamed
  child_stays i c e n =
      ap (λ x. place (is_child x c) moved) (id_stays ns k d name m.known i)
      ∙ place_set_off (is_child (node_at ns i).id c) no_node ns k new (other (is (is_child (node_at ns i).id c new))) e
    where
      other : Is (is_child (node_at ns i).id c new) → is_child (node_at ns i).id c new ≡ false
      other (is_t t) = absurd (n (sym (eqb-true _ _ (and_fst _ _ t)))
          (sym (equal_true _ _ (and_snd (eqb (node_at ns d).id (node_at ns i).id) _ t))))
      other (is_f t) = t

  -- the new name
  child_here : child_at moved d name ≡ k
  unfolding child_at find_child renamed
  child_here =
      ap (λ x. place (is_child x name) moved) (id_stays ns k d name m.known d)
      ∙ place_set_on (is_child (node_at ns d).id name) no_node ns k new m.known m.new-name
      (and_both _ _ (eq-eqb (node_at ns d).id (node_at ns d).id refl) (equal_yes name name refl))

  -- it was free
  no_child : (i : ℕ) (c : List ℕ) → child_at ns i c < length ns → (node_at ns i).id ≡ (node_at ns d).id → c ≡ name → ⊥
  unfolding child_at
  no_child i c l e f =
      let z : find_child ns (node_at ns i).id c ≡ find_child ns (node_at ns d).id name = λ x. find_child ns (e x) (f x) in
      omega (arith, z, m.new-name)

  -- and the old one is free then
  child-left : (i : ℕ) (c : List ℕ) → child_at ns i c ≡ k → length moved ≤ child_at moved i c
  unfolding child_at find_child node_at
  child-left i c e =
      subst (λ x. length moved ≤ place (is_child x c) moved) (sym (id_stays ns k d name m.known i))
      (place_none (is_child (node_at ns i).id c) no_node moved
      (λ j h. go j h (is (is_child (node_at ns i).id c (node_at moved j)))))
    where
      l : child_at ns i c < length ns
      l = omega (arith, e, m.known)

      found : ((node_at ns k).parent ≡ (node_at ns i).id) × ((node_at ns k).name ≡ c)
      found = subst (λ x. ((node_at ns x).parent ≡ (node_at ns i).id) × ((node_at ns x).name ≡ c)) e (child_found ns i c l)

      apart : (j : ℕ) → j < length moved → (node_at moved j).parent ≡ (node_at ns i).id → (node_at moved j).name ≡ c
          → Is (eqb j k) → ⊥
      apart j h p q (is_t t) =
          let z : node_at moved j ≡ new = ap (node_at moved) (eqb-true j k t) ∙ moved_here ns k d name m.known in
          no_child i c l (sym p ∙ ap (λ (n : Node). n.parent) z) (sym q ∙ ap (λ (n : Node). n.name) z)
      apart j h p q (is_f t) =
          let n = eqb-false j k t in
          let z = moved_other ns k d name m.known j n in
          n (s.siblings j k (subst (λ x. j < x) (length_moved ns k d name m.known) h) m.known
          (ap (λ (n : Node). n.parent) (sym z) ∙ (p ∙ sym found.0))
          (ap (λ (n : Node). n.name) (sym z) ∙ (q ∙ sym found.1)))

      go : (j : ℕ) → j < length moved → Is (is_child (node_at ns i).id c (node_at moved j))
          → is_child (node_at ns i).id c (node_at moved j) ≡ false
      go j h (is_f t) = t
      go j h (is_t t) = absurd (apart j h (eqb-true _ _ (and_fst _ _ t))
          (equal_true _ _ (and_snd (eqb (node_at moved j).parent (node_at ns i).id) _ t)) (is (eqb j k)))

  -- Walks. A path leads where it did, and is checked as it was, where no component on it leads to node k or is the new
  -- name.
  abbrev Alike : ℕ → Path → Type 0
  Alike i p = (walk moved i p ≡ walk ns i p) × (walk_checks moved i p ≡ walk_checks ns i p)

  data Clear : ℕ → Path → Type 0 where
    end : {i : ℕ} → Clear i []
    on : {i : ℕ} {c : List ℕ} {cs : Path} → (child_at ns i c ≡ k → ⊥)
        → ((node_at ns i).id ≡ (node_at ns d).id → c ≡ name → ⊥) → Clear (child_at ns i c) cs
        → Clear i (c ∷ cs)

  search_alike : (i : ℕ) → search_checks moved i ≡ search_checks ns i
  search_alike i =
      let K = kind_stays ns k d name m.known i in
      let M = mode_stays ns k d name m.known i in
      λ x. (20, not (eqb (K x) 2)) ∷ (13, not (eqb (M x / 1 % 2) 1)) ∷ []

  clear_alike : {i : ℕ} {p : Path} → Clear i p → Alike i p
  unfolding walk walk_checks
  clear_alike end = (refl, refl)
  clear_alike (on {i = i} {c = c} {cs = cs} e n t) =
      let (f, g) = clear_alike t in
      let z = child_stays i c e n in
      let L = length_moved ns k d name m.known in (
        ap (λ j. walk moved j cs) z ∙ f,
        λ x. search_alike i x ++ ((2, leb (L x) (z x)) ∷ (ap (λ j. walk_checks moved j cs) z ∙ g) x),
      )

  -- a path that led to a node neither node k nor beneath it
  away_clear : (i : ℕ) (p : Path) → Passed (walk_checks ns i p) → (Way ns k (walk ns i p) → ⊥) → Clear i p
  unfolding walk walk_checks
  away_clear i [] a n = end
  away_clear i (c ∷ cs) (both dir (both bit (both there a))) n =
      on (λ e. n (subst (λ x. Way ns x (walk ns (child_at ns i c) cs)) e (walk_way ns (child_at ns i c) cs a)))
      (no_child i c (leb-false _ _ there))
      (away_clear (child_at ns i c) cs a n)

  d_some : 0 < (node_at ns d).id
  d_some = (limits_at w ns s d (directory_place ns d m.folder)).id_some

  past : (i : ℕ) → length ns ≤ i → (node_at ns i).id ≡ 0
  unfolding node_at
  past i l = ap (λ (n : Node). n.id) (get_or-eq_default ns no_node l)

  lost_clear : (i : ℕ) (p : Path) → length ns ≤ i → every component_form p ≡ true → Clear i p
  unfolding every
  lost_clear i [] l e = end
  lost_clear i (c ∷ cs) l e =
      let t = lost w ns s i c l (and_fst _ _ e) in
      on (λ (q : child_at ns i c ≡ k). omega (arith, m.known))
      (λ (q : (node_at ns i).id ≡ (node_at ns d).id) _. omega (arith, d_some, past i l))
      (lost_clear (child_at ns i c) cs t (and_snd (component_form c) _ e))

  -- the node in a place is the new parent
  is_parent_place : (i : ℕ) → (node_at ns i).id ≡ (node_at ns d).id → i ≡ d
  is_parent_place i e = go (is (leb (length ns) i))
    where
      go : Is (leb (length ns) i) → i ≡ d
      go (is_t l) = absurd (omega (arith, d_some, past i (leb-true _ _ l)))
      go (is_f l) = s.ids i d (leb-false _ _ l) (directory_place ns d m.folder) e

  -- no directory at or beneath node k holds it
  child_within : (i : ℕ) (c : List ℕ) → Way ns k i → child_at ns i c ≡ k → ⊥
  child_within i c v e =
      let l = way_place m.known v in
      let (j, h, q) = has_parent_lem w ns s k m.not_root m.known in
      let f = (child_found ns i c (omega (arith, e, m.known))).0 in
      let z : j ≡ i = s.ids j i h l (q.is_parent ∙ (ap (λ x. (node_at ns x).parent) (sym e) ∙ f)) in
      no_loop (ground w ns s) i (s.ways k m.known).0 m.known (subst (ParentAt ns (node_at ns k)) z q) v

  -- a path on from a node at or beneath node k
  within_clear : (i : ℕ) (p : Path) → Way ns k i → every component_form p ≡ true → Clear i p
  unfolding every
  within_clear i [] v e = end
  within_clear i (c ∷ cs) v e =
      on (child_within i c v) (λ q _. not_beneath ns (rooted w ns s) m.known m.not_within
      (subst (Way ns k) (is_parent_place i q) v))
      (go (is (leb (length ns) (child_at ns i c))) (within_clear (child_at ns i c) cs))
    where
      forms : every component_form cs ≡ true
      forms = and_snd (component_form c) _ e

      go : Is (leb (length ns) (child_at ns i c)) → (Way ns k (child_at ns i c) → every component_form cs ≡ true
          → Clear (child_at ns i c) cs)
          → Clear (child_at ns i c) cs
      go (is_t l) ih = lost_clear (child_at ns i c) cs (leb-true _ _ l) forms
      go (is_f l) ih =
          let h = leb-false _ _ l in
          ih (up i h (parent_here w ns s (child_at ns i c) i h (way_place m.known v)
          (child_found ns i c h).0) v) forms

  -- a path on which no part leads to node k, and none is the new path
  other_clear : (i : ℕ) (p : Path) → ((q t : Path) → p ≡ q ++ t → walk ns i q ≡ k → ⊥)
      → ((q t : Path) → p ≡ q ++ (name ∷ t) → walk ns i q ≡ d → ⊥) → Clear i p
  unfolding walk
  other_clear i [] f g = end
  other_clear i (c ∷ cs) f g =
      on (λ e. f (c ∷ []) cs refl e) (λ e y. g [] cs (ap (λ x. x ∷ cs) y) (is_parent_place i e))
      (other_clear (child_at ns i c) cs (λ q t e z. f (c ∷ q) t (ap (λ (x : Path). c ∷ x) e) z)
      (λ q t e z. g (c ∷ q) t (ap (λ (x : Path). c ∷ x) e) z))

  -- the way to the last component's directory, where that is neither node k nor beneath it
  parent_away : (i : ℕ) (c : List ℕ) (cs : Path) → Passed (parent_checks ns i (c ∷ cs))
      → (Way ns k (parent_of ns i (c ∷ cs)) → ⊥)
      → (parent_of moved i (c ∷ cs) ≡ parent_of ns i (c ∷ cs))
      × (parent_checks moved i (c ∷ cs) ≡ parent_checks ns i (c ∷ cs))
  unfolding parent_of parent_checks
  parent_away i c [] a n = (refl, search_alike i)
  parent_away i c (x ∷ cs) (both dir (both bit (both there a))) n =
      let z = child_stays i c
      (λ e. n (subst (λ y. Way ns y (parent_of ns (child_at ns i c) (x ∷ cs))) e
      (parent_way ns (child_at ns i c) x cs a))) (no_child i c (leb-false _ _ there)) in
      let (f, g) = parent_away (child_at ns i c) x cs a n in
      let L = length_moved ns k d name m.known in (
        ap (λ j. parent_of moved j (x ∷ cs)) z ∙ f,
        λ y. search_alike i y ++ ((2, leb (L y) (z y)) ∷ (ap (λ j. parent_checks moved j (x ∷ cs)) z ∙ g) y),
      )

  -- What is meant.

  -- every path that led to a node neither node k nor beneath it leads there still
  pub path_stays : (p : Path) → Passed (walk_checks ns 0 p) → beneath ns k (walk ns 0 p) ≡ false → Alike 0 p
  path_stays p a e = clear_alike (away_clear 0 p a (not_beneath ns (rooted w ns s) m.known e))

  -- every path that neither passes node k nor begins with the new path leads where it did, or nowhere as it did
  pub other_path : (p : Path) → ((q t : Path) → p ≡ q ++ t → walk ns 0 q ≡ k → ⊥)
      → ((q t : Path) → p ≡ q ++ (name ∷ t) → walk ns 0 q ≡ d → ⊥) → Alike 0 p
  other_path p f g = clear_alike (other_clear 0 p f g)

  -- the new path leads to node k
  pub renamed_found : (c : List ℕ) (cs : Path) → Passed (parent_checks ns 0 (c ∷ cs)) → parent_of ns 0 (c ∷ cs) ≡ d
      → last_of (c ∷ cs) ≡ name
      → walk moved 0 (c ∷ cs) ≡ k
  renamed_found c cs a e f =
      let n = not_beneath ns (rooted w ns s) m.known m.not_within in
      let (z, _) = parent_away 0 c cs a (λ v. n (subst (Way ns k) e v)) in
      walk-last moved 0 c cs ∙ ((λ x. child_at moved ((z ∙ e) x) (f x)) ∙ child_here)

  -- from node k on, each path leads where it did and is checked as it was
  pub beneath-alike : (rest : Path) → every component_form rest ≡ true → Alike k rest
  beneath-alike rest forms = clear_alike (within_clear k rest top forms)

  -- what lies beneath goes with it: behind the new path each path leads where it led behind the old one
  pub renamed-walk : (first : Path) (c : List ℕ) (cs rest : Path) → walk ns 0 first ≡ k
      → Passed (parent_checks ns 0 (c ∷ cs)) → parent_of ns 0 (c ∷ cs) ≡ d
      → last_of (c ∷ cs) ≡ name → every component_form rest ≡ true
      → walk moved 0 ((c ∷ cs) ++ rest) ≡ walk ns 0 (first ++ rest)
  renamed-walk first c cs rest o a e f forms =
      walk-append moved 0 (c ∷ cs) rest
      ∙ (ap (λ i. walk moved i rest) (renamed_found c cs a e f)
      ∙ ((beneath-alike rest forms).0
      ∙ (ap (λ i. walk ns i rest) (sym o) ∙ sym (walk-append ns 0 first rest))))

  -- the old path, and each behind it, leads nowhere
  pub left-absent : (c : List ℕ) (cs rest : Path) → Passed (walk_checks ns 0 (c ∷ cs)) → walk ns 0 (c ∷ cs) ≡ k
      → every component_form rest ≡ true
      → length moved ≤ walk moved 0 ((c ∷ cs) ++ rest)
  left-absent c cs rest a e forms =
      let b = all_left (parent_checks ns 0 (c ∷ cs)) _ (subst Passed (walk_checks_parent ns 0 c cs) a) in
      let t = sym (walk-last ns 0 c cs) ∙ e in
      let (z, _) = parent_away 0 c cs b (λ v. child_within (parent_of ns 0 (c ∷ cs)) (last_of (c ∷ cs)) v t) in
      let y : length moved ≤ walk moved 0 (c ∷ cs) =
      subst (λ x. length moved ≤ x) (sym (walk-last moved 0 c cs ∙ ap (λ x. child_at moved x (last_of (c ∷ cs))) z))
      (child-left (parent_of ns 0 (c ∷ cs)) (last_of (c ∷ cs)) t) in
      subst (λ x. length moved ≤ x) (sym (walk-append moved 0 (c ∷ cs) rest))
      (lost_walk w moved (sound-moved w ns k d name m s) (walk moved 0 (c ∷ cs)) rest y forms)
