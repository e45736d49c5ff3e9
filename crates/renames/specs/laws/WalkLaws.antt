-- A rename is judged by both forms, then by the first walk, then by the second, then by its own numbers.
-- Assumes nothing.
use Rattle.std.proofs.Math.Path.{◌≡◌, refl, ap, sym, subst}
use Rattle.std.proofs.Common.{◌∙◌, inl, inr, arith}
use Rattle.std.specs.Prelude.{true, false, ◌&&◌, ◌⊎◌, ℕ, ◌-◌, ◌<◌, ◌≤◌, eqb, drop}
use Rattle.std.proofs.Math.Bool.{not}
use mathlib.Core.List.{List, [], ◌∷◌, ◌++◌}
use Rattle.std.proofs.Math.Option.{Option, some, none}
use Rattle.std.proofs.Math.ListN.{length, length-drop}
use borrow.Author.Tests.{ne_eqb, eqb-false, lt-leb}
use Rattle.lists.specs.Pick.{pick, pick_ind, pick_true, pick-false}
use Rattle.lists.specs.Equal.{Is, is_t, is_f, is, or_fst}
use Rattle.lists.specs.Checks.{Check, decide, Passed, decide_passed, decide-first, decide-append, check_passes}
use Rattle.lists.specs.Checks.{check_stops}
use Rattle.filesystem.specs.Tables.{NAME_BYTES, PATH_BYTES, Node, Tables, is_directory, node_at, present}
use Rattle.filesystem.specs.Paths.{Path, read_path, path_bytes, too_long, child_at, walk, walk_checks, parent_checks}
use Rattle.filesystem.specs.Paths.{parent_of}
use Rattle.filesystem.specs.Paths.{last_of, joined}
use Rattle.filesystem.specs.PathLaws.{walk-last, parent_place, read_path-was-bytes}
use Rattle.filesystem.specs.Image.{length_in, sound_nodes}
use Rattle.filesystem.specs.SoundLaws.{root_parent_length}
use Rattle.rules.specs.Calls.{rename}
use Rattle.rules.specs.Rules.{call_checks, is_none}
use Rattle.rules.proofs.Lengths.{path_short}
use Rattle.paths.specs.Parts.{components_of}
use Rattle.paths.specs.PathForms.{forms_of, refusal_for}
use Rattle.paths.specs.Walks.{walked, placed}
use Rattle.paths.specs.laws.PartsLaws.{Some, some as more}
use Rattle.paths.specs.laws.FormAnswers.{read_components, forms_malformed, forms_long, forms_good}
use Rattle.paths.specs.laws.WalkAnswers.{Holds, placed_none, placed-stops, placed_goes, walked_refused, walked-node}
use Rattle.paths.specs.declared.PathFault.{PathFault}
use Rattle.paths.specs.declared.PathFault.TheVariants.{Malformed, TooLong}
use Rattle.std.specs.Prelude.{Err}
use Rattle.path_calls.specs.Ways.{at_way}
use Rattle.path_calls.specs.Judged.{judged}
use Rattle.path_calls.specs.Ways.{walked_both}
use Rattle.path_calls.specs.laws.ReachedLaws.{form_check, judged-decide, way_at, way_refused, holder-place, last-short}
use Rattle.renames.specs.Judged.{moved, judged_both, renaming_for, own_checks, own_answer, name_own, root_name}
use Rattle.renames.specs.Judged.{second_own}
use Rattle.renames.specs.Judged.{walks_own, Short}
use Rattle.refusals.specs.Numbers.{Judged, number_of}
use Rattle.renames.specs.declared.Move.{Move}
use Rattle.std.specs.Prelude.{Option as Maybe, None, Ok, Err}

-- the second walk
module _ (ns : List Node) (k from : ℕ) (t : List ℕ) where
  pub second_stops : (b : ℕ) → placed ns t ≡ Err b → second_own ns k from t ≡ Err b
  unfolding second_own
  second_stops b e = placed-stops ns t Err _ _ b e

  pub second_root : 0 < length ns → placed ns t ≡ Ok None → second_own ns k from t ≡ root_name k
  unfolding second_own root_name
  second_root h e = go (components_of t) (placed_none ns t e) (is (eqb k 0))
    where
      go : (q : Path) → q ≡ [] → Is (eqb k 0)
          → decide Err (parent_checks ns 0 q ++ own_checks ns k from (parent_of ns 0 q) (walk ns 0 q) (last_of q))
          (own_answer ns k from (parent_of ns 0 q) (walk ns 0 q) (last_of q) (length t - length (last_of q)))
          ≡ pick (eqb k 0) (Err 16) (Err 17)
      go [] q (is_t r) =
          unfold parent_checks in check_stops Err 16 _ _ _ r ∙ sym (pick_true (eqb k 0) _ _ r)
      go [] q (is_f r) =
          unfold parent_checks walk in
          check_passes Err 16 _ _ _ r
          ∙ check_stops Err 17 _ _ _
          (ap (λ x. not x && present ns 0) (ne_eqb 0 k (λ z. eqb-false k 0 r (sym z)))
          ∙ ap not (lt-leb (length ns) 0 h))
          ∙ sym (pick-false (eqb k 0) _ _ r)
      go (c ∷ cs) q r = let z : ◌≡◌ {A = ℕ} 0 1 = cc in absurd (omega arith)

  child_last : (p : Path) → Some p → walk ns 0 p ≡ child_at ns (parent_of ns 0 p) (last_of p)
  child_last (c ∷ cs) more = walk-last ns 0 c cs
  child_last [] x' = elim x' [ ]

  pub second_goes : (d at : ℕ) → Holds ns t d at → second_own ns k from t ≡ name_own ns k from d at (drop at t)
  unfolding second_own name_own
  second_goes d at h =
      let q = components_of t in
      let e : walk ns 0 q ≡ child_at ns d (drop at t) = child_last q h.components
      ∙ (λ i. child_at ns (h.parent i) (h.last i)) in
      let j : length t - length (last_of q) ≡ at = ap (λ (c : List ℕ). length t - length c) h.last
      ∙ omega (arith, length-drop at t, h.start_within) in
      placed_goes ns t Err _ _ d at h
      ∙ (λ i. decide Err (own_checks ns k from (h.parent i) (e i) (h.last i))
      (own_answer ns k from (h.parent i) (e i) (h.last i) (j i)))

  -- what is known of the directory and the name
  pub name-short : (d at : ℕ) → Holds ns t d at → Short t → length (drop at t) ≤ NAME_BYTES
  unfolding too_long
  name-short d at h s = subst (λ (c : List ℕ). length c ≤ NAME_BYTES) h.last
      (last-short (components_of t) (or_fst _ _ s.2))

  pub folder : (d at : ℕ) → 0 < length ns → Holds ns t d at → is_directory (node_at ns d) ≡ true
  folder d at l h = go (components_of t) h.components h.passed h.parent
    where
      go : (p : Path) → Some p → Passed (parent_checks ns 0 p) → parent_of ns 0 p ≡ d → is_directory (node_at ns d) ≡ true
      go (c ∷ cs) more a e = subst (λ i. is_directory (node_at ns i) ≡ true) e (parent_place ns 0 c cs a l).1
      go [] x3 a e = elim x3 [ ]

  pub path_fits : (w d at : ℕ) → sound_nodes w ns ≡ true → Holds ns t d at → Short t
      → length_in ns d (drop at t) ≤ PATH_BYTES
  path_fits w d at s h f = go (components_of t) h.components h.passed h.parent h.last f.2
    where
      go : (p : Path) → Some p → Passed (parent_checks ns 0 p) → parent_of ns 0 p ≡ d → last_of p ≡ drop at t
          → too_long p ≡ false → length_in ns d (drop at t) ≤ PATH_BYTES
      go (c ∷ cs) more a e l b =
          let x = root_parent_length w ns s c cs a in
          let y : length (joined (c ∷ cs)) ≤ PATH_BYTES = unfold path_bytes in path_short (c ∷ cs) b in
          subst (λ i. length_in ns i (drop at t) ≤ PATH_BYTES) e
          (subst (λ (n : List ℕ). length_in ns (parent_of ns 0 (c ∷ cs)) n ≤ PATH_BYTES) l (omega arith))
      go [] x5 a e l b = elim x5 [ ]

pub root_refuses : (k i j x : ℕ) → root_name k ≡ moved i j x → ⊥
unfolding root_name pick
root_refuses k i j x = pick_ind (λ (r : Judged (Maybe Move)). r ≡ moved i j x → ⊥) (eqb k 0)
    (λ _ e. let z : ◌≡◌ {A = ℕ} 0 1 = cc in omega arith) (λ _ e. let z : ◌≡◌ {A = ℕ} 0 1 = cc in omega arith)

-- the first walk
module _ (ns : List Node) (s t : List ℕ) where
  pub walks_stop : (b : ℕ) → walked_both ns (components_of s) ≡ Err b → walks_own ns s t ≡ Err b
  unfolding walked_both walks_own
  walks_stop b e =
      decide-first Err _ (walked_refused ns (components_of s) b
      (way_refused (parent_of ns 0 (components_of s)) (walked ns (components_of s)) b e))

  pub walks_go : (k d : ℕ) → 0 < length ns → walked_both ns (components_of s) ≡ at_way k d
      → (walks_own ns s t ≡ second_own ns k d t) × (k < length ns) × (d < length ns)
  unfolding walked_both walks_own
  walks_go k d h e =
      let p = components_of s in
      let (x, y) = way_at (parent_of ns 0 p) (walked ns p) k d e in
      let r = walked-node ns p k h x in (
        decide_passed Err (walk_checks ns 0 p) _ r.passed ∙ (λ i. second_own ns (r.node-place i) (y i) t),
        r.node_within,
        subst (λ i. i < length ns) y (holder-place ns p r.passed h),
      )

-- both forms
module _ {A : Type 0} (stop : ℕ → A) (checks : Path → Path → List Check) (answer : Path → Path → A) (s t : List ℕ) where
  both-decide : judged_both stop checks answer s t
      ≡ decide stop (form_check s ∷ form_check t ∷ checks (components_of s) (components_of t))
      (answer (components_of s) (components_of t))
  unfolding judged_both is_none decide pick
  both-decide = go (read_path s) refl
    where
      go : (o : Option Path) → read_path s ≡ o
          → elim o [ none ↦ stop 22 | some p ↦ judged stop (checks p) (answer p) t ]
          ≡ decide stop ((22, is_none o) ∷ form_check t ∷ checks (components_of s) (components_of t))
          (answer (components_of s) (components_of t))
      go none r = refl
      go (some p) r =
          judged-decide stop t (checks p) (answer p)
          ∙ ap (λ (q : Path). decide stop (form_check t ∷ checks q (components_of t)) (answer q (components_of t)))
          (sym (read_components s p r))

module _ (x : Tables) (s t : List ℕ) where
  pub renaming_malformed : forms_of s t ≡ Err Malformed → renaming_for x s t ≡ Err 22
  unfolding renaming_for is_none
  renaming_malformed e = both-decide Err _ _ s t ∙ go _ (forms_malformed s t e) (is (is_none (read_path s)))
    where
      go : (a : Judged (Maybe Move)) → (read_path s ≡ none) ⊎ (read_path t ≡ none) → Is (is_none (read_path s))
          → decide Err (form_check s ∷ form_check t ∷ call_checks x (rename (components_of s) (components_of t))) a
          ≡ Err 22
      go a o (is_t r) = check_stops Err 22 _ _ _ r
      go a (inl o) (is_f r) = check_stops Err 22 _ _ _ (ap is_none o)
      go a (inr o) (is_f r) = check_passes Err 22 _ _ _ r ∙ check_stops Err 22 _ _ _ (ap is_none o)

  pub renaming-long : forms_of s t ≡ Err TooLong → renaming_for x s t ≡ Err 36
  unfolding renaming_for is_none call_checks
  renaming-long e =
      let (a, b, c) = forms_long s t e in
      both-decide Err _ _ s t ∙ check_passes Err 22 _ _ _ (ap is_none a)
      ∙ check_passes Err 22 _ _ _ (ap is_none b) ∙ go _ c
    where
      go : (a : Judged (Maybe Move)) → (too_long (components_of s) ≡ true) ⊎ ((too_long (components_of s) ≡ false)
          × (too_long (components_of t) ≡ true))
          → decide Err (call_checks x (rename (components_of s) (components_of t))) a ≡ Err 36
      go a (inl o) = check_stops Err 36 _ _ _ o
      go a (inr (o, u)) = check_passes Err 36 _ _ _ o ∙ check_stops Err 36 _ _ _ u

  pub renaming_fault : (f : PathFault) → forms_of s t ≡ Err f → renaming_for x s t ≡ Err (number_of (refusal_for f))
  renaming_fault Malformed e = renaming_malformed e
  renaming_fault TooLong e = renaming-long e

  pub renaming_good : forms_of s t ≡ Ok tt → renaming_for x s t ≡ walks_own x.nodes s t
  unfolding renaming_for is_none call_checks walks_own second_own
  renaming_good e =
      let (a, b, c, d) = forms_good s t e in
      both-decide Err _ _ s t ∙ check_passes Err 22 _ _ _ (ap is_none a)
      ∙ check_passes Err 22 _ _ _ (ap is_none b)
      ∙ check_passes Err 36 _ _ _ c ∙ check_passes Err 36 _ _ _ d
      ∙ decide-append Err (walk_checks x.nodes 0 (components_of s)) _ _

  pub both-short : forms_of s t ≡ Ok tt → Short s × Short t
  both-short e =
      let (a, b, c, d) = forms_good s t e in
      ((short s a c, a, c), (short t b d, b, d))
    where
      short : (s : List ℕ) → read_path s ≡ some (components_of s) → too_long (components_of s) ≡ false
          → length s ≤ PATH_BYTES
      short s a c = subst (λ (l : List ℕ). length l ≤ PATH_BYTES) (sym (read_path-was-bytes s (components_of s) a).0)
          (path_short (components_of s) c)
