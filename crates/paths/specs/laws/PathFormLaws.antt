-- The form of a path, part by part.
-- Assumes nothing.
use Rattle.std.specs.Prelude.{◌≡◌, refl, Bool, true, false, ◌&&◌, ◌||◌, not, List, [], ◌∷◌, ℕ, zero, suc, ◌+◌, ◌-◌, ◌≤◌}
use Rattle.std.specs.Prelude.{◌<◌, eqb, ltb, length, get_or, take, drop, Ok, Err}
use Rattle.std.proofs.Common.{ap, sym, ◌∙◌, arith, length-drop, length-take-le, take_all, get_or-drop, eq-eqb, ne_eqb}
use Rattle.std.proofs.Common.{eqb-true}
use Rattle.std.proofs.Math.Option.{some, none}
use Rattle.std.proofs.lemmas.Bool.{eqb-false, not-true}
use Rattle.lists.specs.Pick.{pick, pick_true, pick-false, pick_ind}
use Rattle.lists.specs.Equal.{Is, is, is_t, is_f, equal, and_fst, and_snd, and_both, and-false, or_fst}
use Rattle.lists.specs.Search.{every, any, place, place_most}
use Rattle.filesystem.specs.Tables.{NAME_BYTES, PATH_BYTES}
use Rattle.filesystem.specs.Paths.{Path, slash, dot, joined, path_bytes, component_form, onto, split, after_slash}
use Rattle.filesystem.specs.Paths.{read_path, too_long}
use Rattle.filesystem.specs.PathLaws.{joined-split}
use Rattle.paths.specs.Parts.{is_end}
use Rattle.paths.specs.laws.PartsLaws.{or_comm, or_assoc, end-other, end_none, before-end, end-passes, part-slash}
use Rattle.paths.specs.laws.PartsLaws.{part-last}
use Rattle.paths.specs.declared.PathFault.TheVariants.{Malformed}
use Rattle.paths.specs.PathForms.{form_of, is_long, is_name, length_form, parts_form, path_form}

-- A name by its first bytes.
pub name-empty : (c : List ℕ) → length c ≡ 0 → false ≡ is_name c
unfolding is_name equal
name-empty [] h = refl
name-empty (x ∷ c) h = absurd (omega arith)

pub name-first : (c : List ℕ) → 0 < length c → (get_or c 0 0 ≡ dot → ⊥) → true ≡ is_name c
unfolding is_name equal
name-first [] h d = absurd (omega arith)
name-first (x ∷ c) h d = rw (ne_eqb x dot d)

pub name-dot : (c : List ℕ) → length c ≡ 1 → get_or c 0 0 ≡ dot → false ≡ is_name c
unfolding is_name equal
name-dot [] h d = absurd (omega arith)
name-dot (x ∷ []) h d = rw (eq-eqb x dot d)
name-dot (x ∷ y ∷ c) h d = absurd (omega arith)

pub name_second : (c : List ℕ) → 1 < length c → (get_or c 1 0 ≡ dot → ⊥) → true ≡ is_name c
unfolding is_name equal
name_second [] h d = absurd (omega arith)
name_second (x ∷ []) h d = absurd (omega arith)
name_second (x ∷ y ∷ c) h d = rw (ne_eqb y dot d, and-false (eqb x dot))

pub name_dots : (c : List ℕ) → 1 < length c → get_or c 0 0 ≡ dot → get_or c 1 0 ≡ dot → not (eqb (length c) 2) ≡ is_name c
unfolding is_name equal
name_dots [] h d e = absurd (omega arith)
name_dots (x ∷ []) h d e = absurd (omega arith)
name_dots (x ∷ y ∷ []) h d e = rw (eq-eqb x dot d, eq-eqb y dot e)
name_dots (x ∷ y ∷ z ∷ c) h d e = rw (
  eq-eqb x dot d,
  eq-eqb y dot e,
  ne_eqb (length (x ∷ y ∷ z ∷ c)) 2
      (λ q. omega arith),
)

-- Bytes that begin with a slash and have more: their parts decide.
-- the parts have the path's bytes
path_bytes-split : (s : List ℕ) → path_bytes (split s) ≡ slash ∷ s
unfolding path_bytes joined
path_bytes-split s = go (split s) (joined-split s)
  where
    go : (p : Path) → joined p ≡ slash ∷ s → path_bytes p ≡ slash ∷ s
    go [] e = let z : ◌≡◌ {A = ℕ} 0 1 = cc in absurd (omega arith)
    go (c ∷ cs) e = e

long_parts : (s : List ℕ) → too_long (split s) ≡ (ltb PATH_BYTES (length (slash ∷ s)) || any is_long (split s))
unfolding too_long
long_parts s = ap (λ (l : List ℕ). any is_long (split s) || ltb PATH_BYTES (length l)) (path_bytes-split s)
    ∙ or_comm (any is_long (split s)) _

after_slash_lem : (x : ℕ) (s : List ℕ) → path_form (after_slash (x ∷ s)) ≡ parts_form (ltb PATH_BYTES (length (slash ∷ x ∷ s)))
    (split (x ∷ s))
unfolding after_slash parts_form path_form pick
after_slash_lem x s = go (every component_form (split (x ∷ s)))
  where
    go : (b : Bool)
        → path_form (pick b (some (split (x ∷ s))) none) ≡ pick b
        (length_form (ltb PATH_BYTES (length (slash ∷ x ∷ s)) || any is_long (split (x ∷ s)))) (Err Malformed)
    go true = ap length_form (long_parts (x ∷ s))
    go false = refl

-- The form by the first bytes.
pub form-empty : (s : List ℕ) → length s ≡ 0 → form_of s ≡ Err Malformed
unfolding form_of read_path path_form
form-empty [] h = refl
form-empty (b ∷ s) h = absurd (omega arith)

pub form-no-slash : (s : List ℕ) → (get_or s 0 0 ≡ slash → ⊥) → form_of s ≡ Err Malformed
unfolding form_of read_path path_form
form-no-slash [] h = refl
form-no-slash (b ∷ s) h = ap path_form (pick-false _ _ _ (ne_eqb b slash h))

pub form-root : (s : List ℕ) → length s ≡ 1 → get_or s 0 0 ≡ slash → form_of s ≡ Ok tt
unfolding form_of read_path path_form after_slash length_form too_long any path_bytes pick
form-root [] h e = absurd (omega arith)
form-root (b ∷ []) h e = ap path_form (pick_true _ _ _ (eq-eqb b slash e))
form-root (b ∷ x ∷ s) h e = absurd (omega arith)

pub form_parts : (s : List ℕ) → 2 ≤ length s → get_or s 0 0 ≡ slash → form_of s ≡ parts_form (ltb PATH_BYTES (length s))
    (split (drop 1 s))
unfolding form_of read_path
form_parts [] h e = absurd (omega arith)
form_parts (b ∷ []) h e = absurd (omega arith)
form_parts (b ∷ x ∷ s) h e = ap path_form (pick_true _ _ _ (eq-eqb b slash e)) ∙ after_slash_lem x s

-- The form by the first part.
module _ (long : Bool) (c : List ℕ) where
  pub parts_bad : (cs : Path) → component_form c ≡ false → parts_form long (c ∷ cs) ≡ Err Malformed
  unfolding parts_form every
  parts_bad cs e = rw e (pick-false _ _ _ refl)

  pub parts_on : (cs : Path) → component_form c ≡ true → parts_form long (c ∷ cs) ≡ parts_form (long || is_long c) cs
  unfolding parts_form every any
  parts_on cs e = rw (e, or_assoc long (is_long c) (any is_long cs))

  pub parts_last : component_form c ≡ true → parts_form long (c ∷ []) ≡ length_form (long || is_long c)
  unfolding parts_form every any pick
  parts_last e = rw (e, or_comm (is_long c) false)

-- a part without 0 and slash is a component where it is a name
pub component_name : (c : List ℕ) → every (λ b. not (is_end b)) c ≡ true → component_form c ≡ is_name c
unfolding component_form is_name
component_name c e = rw e (go (equal c []) (equal c (dot ∷ [])) (equal c (dot ∷ dot ∷ [])))
  where
    go : (x y z : Bool) → (not x && (not y && (not z && true))) ≡ (not x && (not y && not z))
    go x y true = refl
    go x y false = refl

-- A 0 byte anywhere.
name-bytes : (c : List ℕ) → component_form c ≡ true → every (λ b. not (is_end b)) c ≡ true
unfolding component_form
name-bytes c e = and_snd (not (equal c (dot ∷ dot ∷ []))) _ (and_snd (not (equal c (dot ∷ []))) _
    (and_snd (not (equal c [])) _ e))

unfoldable clean : Path → Bool
clean cs = every (every (λ b. not (is_end b))) cs

clean-names : (cs : Path) → every component_form cs ≡ true → clean cs ≡ true
unfolding every clean
clean-names [] e = refl
clean-names (c ∷ cs) e = and_both _ _ (name-bytes c (and_fst _ _ e)) (clean-names cs (and_snd (component_form c) _ e))

clean_after : (cs : Path) → clean ([] ∷ cs) ≡ true → clean cs ≡ true
unfolding every clean
clean_after cs e = e

clean-onto : (b : ℕ) (cs : Path) → clean (onto b cs) ≡ true → (is_end b ≡ false) × (clean cs ≡ true)
unfolding every clean onto
clean-onto b [] e = (not-true _ (and_fst _ _ (and_fst _ _ e)), refl)
clean-onto b (c ∷ cs) e =
    let h = and_fst (every (λ b. not (is_end b)) (b ∷ c)) _ e in (
      not-true _ (and_fst _ _ h),
      and_both _ _ (and_snd (not (is_end b)) _ h)
          (and_snd (every (λ b. not (is_end b)) (b ∷ c)) _ e),
    )

-- no byte is 0
abbrev Whole : List ℕ → Type 0
Whole s = (k : ℕ) → k < length s → get_or s k 0 ≡ 0 → ⊥

whole-cons : (b : ℕ) (s : List ℕ) → (b ≡ 0 → ⊥) → Whole s → Whole (b ∷ s)
whole-cons b s n w zero h e = n e
whole-cons b s n w (suc k) h e = w k (omega arith) e

clean-whole : (s : List ℕ) → clean (split s) ≡ true → Whole s
unfolding split
clean-whole [] = λ e k h z. absurd (omega arith)
clean-whole (b ∷ s) =
    pick_ind (λ cs. clean cs ≡ true → Whole (b ∷ s)) (eqb b slash)
    (λ q e. let n : b ≡ slash = eqb-true b slash q in whole-cons b s (λ z. omega arith)
    (clean-whole s (clean_after (split s) e)))
    (λ q e. let (n, r) = clean-onto b (split s) e in whole-cons b s (eqb-false b 0 (or_fst _ _ n)) (clean-whole s r))

pub zero_bad : (s : List ℕ) (k : ℕ) → k < length s → get_or s k 0 ≡ 0 → every component_form (split s) ≡ false
zero_bad s k h e = go (is (every component_form (split s)))
  where
    go : Is (every component_form (split s)) → every component_form (split s) ≡ false
    go (is_t t) = absurd (clean-whole s (clean-names (split s) t) k h e)
    go (is_f t) = t

pub parts_zero : (long : Bool) (s : List ℕ) (k : ℕ) → k < length s → get_or s k 0 ≡ 0
    → parts_form long (split s) ≡ Err Malformed
unfolding parts_form
parts_zero long s k h e = pick-false _ _ _ (zero_bad s k h e)

-- The form of what stands from `at` on, whose first part ends at `end`.
module _ (s : List ℕ) (at end : ℕ) (reach : end ≡ at + place is_end (drop at s)) (within : at ≤ length s) (long : Bool)
  where
    part-form : component_form (take (end - at) (drop at s)) ≡ is_name (take (end - at) (drop at s))
    part-form = component_name _ (before-end is_end end_none s at end reach)

    module _ (more : end < length s) where
      pub from_zero : get_or s end 0 ≡ 0 → parts_form long (split (drop at s)) ≡ Err Malformed
      from_zero e =
          let n : at + (end - at) ≡ end = omega arith in
          parts_zero long (drop at s) (end - at) (omega (arith, length-drop at s)) (get_or-drop at s (end - at) 0
          ∙ ap (λ (k : ℕ). get_or s k 0) n ∙ e)

      first_part : (get_or s end 0 ≡ 0 → ⊥) → split (drop at s) ≡ take (end - at) (drop at s) ∷ split (drop (end + 1) s)
      first_part z = part-slash is_end end_none s at end reach more
          (end-other (get_or s end 0) (end-passes is_end end_none s at end reach more) z)

      pub from_bad : (get_or s end 0 ≡ 0 → ⊥) → is_name (take (end - at) (drop at s)) ≡ false
          → parts_form long (split (drop at s)) ≡ Err Malformed
      from_bad z e = ap (parts_form long) (first_part z) ∙ parts_bad long _ _ (part-form ∙ e)

      pub from_on : (get_or s end 0 ≡ 0 → ⊥) → is_name (take (end - at) (drop at s)) ≡ true
          → parts_form long (split (drop at s)) ≡ parts_form (long || ltb NAME_BYTES (end - at))
          (split (drop (end + 1) s))
      from_on z e =
          let n : length (take (end - at) (drop at s)) ≡ end - at = length-take-le (end - at) (drop at s)
          (omega (arith, length-drop at s)) in
          ap (parts_form long) (first_part z) ∙ parts_on long _ _ (part-form ∙ e)
          ∙ ap (λ (k : ℕ). parts_form (long || ltb NAME_BYTES k) (split (drop (end + 1) s))) n

    module _ (last : length s ≤ end) where
      last-part : split (drop at s) ≡ take (end - at) (drop at s) ∷ []
      last-part =
          part-last is_end end_none s at end reach last
          ∙ ap (λ (q : List ℕ). q ∷ []) (sym (take_all (end - at) (drop at s) (omega (arith, length-drop at s))))

      pub last_bad : is_name (take (end - at) (drop at s)) ≡ false → parts_form long (split (drop at s)) ≡ Err Malformed
      last_bad e = ap (parts_form long) last-part ∙ parts_bad long _ [] (part-form ∙ e)

      pub last_good : is_name (take (end - at) (drop at s)) ≡ true → parts_form long (split (drop at s)) ≡ length_form
          (long || ltb NAME_BYTES (end - at))
      last_good e =
          let m = place_most is_end (drop at s) in
          let n : length (take (end - at) (drop at s)) ≡ end - at = length-take-le (end - at) (drop at s)
          (omega (arith, length-drop at s)) in
          ap (parts_form long) last-part ∙ parts_last long _ (part-form ∙ e)
          ∙ ap (λ (k : ℕ). length_form (long || ltb NAME_BYTES k)) n
