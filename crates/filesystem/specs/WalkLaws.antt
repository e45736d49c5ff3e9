-- Where paths lead when a node is added or taken out: the new one is found, a removed one is absent, every other path leads where it did.
-- Assumes nothing.
use Rattle.std.specs.Prelude.{◌≡◌, true, ℕ, ◌≤◌, ◌<◌, eqb, get_or}
use Rattle.std.proofs.Math.Path.{refl, ap, sym, subst}
use Rattle.std.proofs.Common.{◌∙◌, arith}
use Rattle.std.proofs.Math.Bool.{false}
use mathlib.Core.List.{List, [], ◌∷◌, ◌++◌}
use Rattle.std.proofs.Math.ListN.{length}
use borrow.Author.Tests.{leb-false, eqb-true, eqb-false, eq-eqb}
use Rattle.lists.specs.Equal.{Is, is_t, is_f, is, equal_true, equal_yes, and_fst, and_snd, and_both}
use Rattle.lists.specs.All.{both}
use Rattle.lists.specs.Search.{place, without}
use Rattle.lists.specs.Places.{place_only, place_none, place-front, place-behind, skip, skip-other, skip_same, skip_below, unskip, length_without, get_or-without}
use Rattle.lists.specs.Checks.{Passed}
use Rattle.filesystem.specs.Tables.{Node, no_node, node_at, is_child, find_child}
use Rattle.filesystem.specs.Paths.{Path, child_at, walk, walk_checks, parent_checks, parent_of, last_of}
use Rattle.filesystem.specs.Sound.{Sound, node_at-append}
use Rattle.filesystem.specs.SoundLaws.{child_found}

-- a node more, behind the others
module _ (ns : List Node) (n : Node) where
  abbrev more : List Node
  more = ns ++ (n ∷ [])

  child_kept : (d : ℕ) (c : List ℕ) → d < length ns → child_at ns d c < length ns → child_at more d c ≡ child_at ns d c
  unfolding child_at find_child
  child_kept d c h l =
      ap (λ (x : Node). place (is_child x.id c) more) (node_at-append ns (n ∷ []) d h)
      ∙ place-front (is_child (node_at ns d).id c) no_node ns (n ∷ []) l

  -- a path that led somewhere leads there still
  pub walk_kept : (d : ℕ) (p : Path) → d < length ns → Passed (walk_checks ns d p) → walk more d p ≡ walk ns d p
  unfolding walk walk_checks
  walk_kept d [] h a = refl
  walk_kept d (c ∷ cs) h (both dir (both bit (both there a))) =
      let l = leb-false _ _ there in
      ap (λ i. walk more i cs) (child_kept d c h l) ∙ walk_kept (child_at ns d c) cs l a

  -- the path of the new one, which led nowhere, leads to it
  pub created_found : (d : ℕ) (c : List ℕ) (cs : Path) → d < length ns → Passed (parent_checks ns d (c ∷ cs)) → length ns ≤ walk ns d (c ∷ cs)
      → n.parent ≡ (node_at ns (parent_of ns d (c ∷ cs))).id → n.name ≡ last_of (c ∷ cs) → walk more d (c ∷ cs) ≡ length ns
  unfolding walk parent_checks parent_of last_of child_at find_child
  created_found d c [] h a l e f =
      ap (λ (x : Node). place (is_child x.id c) more) (node_at-append ns (n ∷ []) d h)
      ∙ place-behind (is_child (node_at ns d).id c) no_node ns n [] l (and_both _ _ (eq-eqb _ _ e) (equal_yes _ _ f))
  created_found d c (x ∷ cs) h (both dir (both bit (both there a))) l e f =
      let m = leb-false _ _ there in
      ap (λ i. walk more i (x ∷ cs)) (child_kept d c h m) ∙ created_found (child_at ns d c) x cs m a l e f

-- node k, which has no child, taken out
module _ (w : ℕ) (ns : List Node) (s : Sound w ns) (k : ℕ) (known : k < length ns) (childless : (i : ℕ) → i < length ns → (node_at ns i).parent ≡ (node_at ns k).id → ⊥) where
  abbrev less : List Node
  less = without k ns

  there : (i : ℕ) → node_at less i ≡ node_at ns (skip k i)
  unfolding node_at
  there i = get_or-without k ns i no_node known

  within : (i : ℕ) → i < length less → skip k i < length ns
  within i h = skip_below k i (length ns) (omega (arith, length_without k ns known))

  -- a child other than k is found where it was
  child_stays : (d j : ℕ) (c : List ℕ) → j < length less → child_at ns (skip k d) c ≡ skip k j → child_at less d c ≡ j
  unfolding child_at find_child node_at
  child_stays d j c h e =
      let l = within j h in
      let (p, q) = found l in
      ap (λ (x : Node). place (is_child x.id c) less) (there d)
      ∙ place_only (is_child (node_at ns (skip k d)).id c) no_node less j h
      (subst (λ (x : Node). is_child (node_at ns (skip k d)).id c x ≡ true) (sym (there j)) (and_both _ _ (eq-eqb _ _ p) (equal_yes _ _ q)))
      (λ i m t. alone i m (subst (λ (x : Node). is_child (node_at ns (skip k d)).id c x ≡ true) (there i) t) p q)
    where
      found : skip k j < length ns → ((node_at ns (skip k j)).parent ≡ (node_at ns (skip k d)).id) × ((node_at ns (skip k j)).name ≡ c)
      found l = subst (λ i. ((node_at ns i).parent ≡ (node_at ns (skip k d)).id) × ((node_at ns i).name ≡ c)) e (child_found ns (skip k d) c (omega (arith, e)))

      alone : (i : ℕ) → i < length less → is_child (node_at ns (skip k d)).id c (node_at ns (skip k i)) ≡ true
          → (node_at ns (skip k j)).parent ≡ (node_at ns (skip k d)).id → (node_at ns (skip k j)).name ≡ c → i ≡ j
      alone i m t p q =
          let z = s.siblings (skip k i) (skip k j) (within i m) (within j h)
          (eqb-true _ _ (and_fst _ _ t) ∙ sym p) (equal_true _ _ (and_snd (eqb (node_at ns (skip k i)).parent (node_at ns (skip k d)).id) _ t) ∙ sym q) in
          skip_same k i j z

  -- every other path leads to the node that it led to
  pub path_stays : (d : ℕ) (p : Path) → d < length less → Passed (walk_checks ns (skip k d) p) → (walk ns (skip k d) p ≡ k → ⊥)
      → (walk less d p < length less) × (skip k (walk less d p) ≡ walk ns (skip k d) p)
  unfolding walk walk_checks
  path_stays d [] h a other = (h, refl)
  path_stays d (c ∷ cs) h (both dir (both bit (both found a))) other = go (is (eqb (child_at ns (skip k d) c) k)) (λ i. path_stays i cs)
    where
      l : child_at ns (skip k d) c < length ns
      l = leb-false _ _ found

      dead : (cs : Path) → child_at ns (skip k d) c ≡ k → Passed (walk_checks ns (child_at ns (skip k d) c) cs) → (walk ns (child_at ns (skip k d) c) cs ≡ k → ⊥)
          → ⊥
      dead [] e a o = o e
      dead (x ∷ cs) e (both _ (both _ (both f _))) o =
          let m = leb-false _ _ f in
          childless (child_at ns (child_at ns (skip k d) c) x) m ((child_found ns (child_at ns (skip k d) c) x m).0 ∙ ap (λ i. (node_at ns i).id) e)

      go : Is (eqb (child_at ns (skip k d) c) k)
          → ((i : ℕ) → i < length less → Passed (walk_checks ns (skip k i) cs) → (walk ns (skip k i) cs ≡ k → ⊥) → (walk less i cs < length less) × (skip k (walk less i cs) ≡ walk ns (skip k i) cs))
          → (walk less (child_at less d c) cs < length less) × (skip k (walk less (child_at less d c) cs) ≡ walk ns (child_at ns (skip k d) c) cs)
      go (is_t e) ih = absurd (dead cs (eqb-true _ _ e) a other)
      go (is_f e) ih =
          let z = length_without k ns known in
          let (i, b, q) = unskip k (child_at ns (skip k d) c) (length less) (eqb-false _ _ e) (omega (arith, l, z)) (omega (arith, z, known)) in
          let (u, v) = ih i b (subst (λ j. Passed (walk_checks ns j cs)) (sym q) a) (subst (λ j. walk ns j cs ≡ k → ⊥) (sym q) other) in
          subst (λ j. (walk less j cs < length less) × (skip k (walk less j cs) ≡ walk ns (child_at ns (skip k d) c) cs)) (sym (child_stays d i c b (sym q))) (u, v ∙ ap (λ j. walk ns j cs) q)

  -- the path of node k leads nowhere
  pub removed_absent : (d : ℕ) (c : List ℕ) (cs : Path) → d < length less → Passed (walk_checks ns (skip k d) (c ∷ cs)) → walk ns (skip k d) (c ∷ cs) ≡ k
      → length less ≤ walk less d (c ∷ cs)
  unfolding walk walk_checks node_at
  removed_absent d c [] h (both dir (both bit (both found a))) e =
      let (p, q) = child_found ns (skip k d) c (leb-false _ _ found) in
      unfold child_at find_child in
      subst (λ (x : Node). length less ≤ place (is_child x.id c) less) (sym (there d))
      (place_none (is_child (node_at ns (skip k d)).id c) no_node less (λ i m. no_other i m p q (is (is_child (node_at ns (skip k d)).id c (get_or less i no_node)))))
    where
      no_other : (i : ℕ) → i < length less → (node_at ns (child_at ns (skip k d) c)).parent ≡ (node_at ns (skip k d)).id
          → (node_at ns (child_at ns (skip k d) c)).name ≡ c
          → Is (is_child (node_at ns (skip k d)).id c (get_or less i no_node)) → is_child (node_at ns (skip k d)).id c (get_or less i no_node) ≡ false
      no_other i m p q (is_f t) = t
      no_other i m p q (is_t t) =
          let u = subst (λ (x : Node). is_child (node_at ns (skip k d)).id c x ≡ true) (get_or-without k ns i no_node known) t in
          absurd (skip-other k i (clash i m p q (eqb-true _ _ (and_fst _ _ u)) (equal_true _ _ (and_snd (eqb (get_or ns (skip k i) no_node).parent (node_at ns (skip k d)).id) _ u))))
        where
          clash : (i : ℕ) → i < length less → (node_at ns (child_at ns (skip k d) c)).parent ≡ (node_at ns (skip k d)).id
              → (node_at ns (child_at ns (skip k d) c)).name ≡ c
              → (get_or ns (skip k i) no_node).parent ≡ (node_at ns (skip k d)).id → (get_or ns (skip k i) no_node).name ≡ c → skip k i ≡ k
          clash i m p q x y = s.siblings (skip k i) (child_at ns (skip k d) c) (within i m) (omega (arith, e, known)) (x ∙ sym p) (y ∙ sym q) ∙ e
  removed_absent d c (x ∷ cs) h (both dir (both bit (both found a))) e = go (is (eqb (child_at ns (skip k d) c) k)) (λ i. removed_absent i x cs)
    where
      go : Is (eqb (child_at ns (skip k d) c) k)
          → ((i : ℕ) → i < length less → Passed (walk_checks ns (skip k i) (x ∷ cs)) → walk ns (skip k i) (x ∷ cs) ≡ k → length less ≤ walk less i (x ∷ cs))
          → length less ≤ walk less (child_at less d c) (x ∷ cs)
      go (is_t t) ih = absurd (no_child (eqb-true _ _ t) a)
        where
          no_child : child_at ns (skip k d) c ≡ k → Passed (walk_checks ns (child_at ns (skip k d) c) (x ∷ cs)) → ⊥
          no_child t (both _ (both _ (both f _))) =
              let m = leb-false _ _ f in
              childless (child_at ns (child_at ns (skip k d) c) x) m ((child_found ns (child_at ns (skip k d) c) x m).0 ∙ ap (λ i. (node_at ns i).id) t)
      go (is_f t) ih =
          let z = length_without k ns known in
          let l : child_at ns (skip k d) c < length ns = leb-false _ _ found in
          let (i, b, q) = unskip k (child_at ns (skip k d) c) (length less) (eqb-false _ _ t) (omega (arith, l, z)) (omega (arith, z, known)) in
          subst (λ j. length less ≤ walk less j (x ∷ cs)) (sym (child_stays d i c b (sym q)))
          (ih i b (subst (λ j. Passed (walk_checks ns j (x ∷ cs))) (sym q) a) (ap (λ j. walk ns j (x ∷ cs)) q ∙ e))
