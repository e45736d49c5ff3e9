-- The bytes of a path are read back as that path, and only they; what a passed walk says of the nodes on it.
-- Assumes nothing.
use Rattle.std.specs.Prelude.{◌≡◌, Bool, true, false, ◌||◌, not, ℕ, ◌<◌, eqb, length}
use Rattle.std.proofs.Math.Path.{refl, ap, subst}
use Rattle.std.proofs.Common.{sym, ◌∙◌}
use Rattle.std.proofs.lemmas.Bool.{false≢true}
use mathlib.Core.List.{List, [], ◌∷◌, ◌++◌, append-nil, nil≢cons, tail-eq_of_cons-eq}
use Rattle.std.proofs.Math.Option.{Option, some, none}
use borrow.Author.Tests.{eqb-true, leb-false, not-true, not-false}
use Rattle.lists.specs.Pick.{pick, pick-false, pick_ind}
use Rattle.lists.specs.Equal.{equal, and_fst, and_snd, or_snd}
use Rattle.lists.specs.All.{both}
use Rattle.lists.specs.Search.{every}
use Rattle.lists.specs.FormLaws.{pick_some, some≢none}
use Rattle.lists.specs.Checks.{Passed}
use Rattle.filesystem.specs.Tables.{Node, node_at, is_directory, has_bit, absent}
use Rattle.filesystem.specs.Paths.{Path, slash, dot, joined, path_bytes, component_form, onto, split, after_slash, read_path, child_at, walk, search_checks, walk_checks, parent_checks, parent_of, last_of}

-- the parts between slashes, joined again
pub joined-split : (s : List ℕ) → joined (split s) ≡ slash ∷ s
unfolding joined split
joined-split [] = refl
joined-split (b ∷ s) =
    pick_ind (λ cs. joined cs ≡ slash ∷ b ∷ s) (eqb b slash)
    (λ e. ap (λ t. slash ∷ t) (joined-split s ∙ ap (λ x. x ∷ s) (sym (eqb-true b slash e))))
    (λ _. put (split s) (joined-split s))
  where
    put : (cs : Path) → joined cs ≡ slash ∷ s → joined (onto b cs) ≡ slash ∷ b ∷ s
    put [] e = absurd (nil≢cons {x = slash} {xs = s} (unfold joined in e))
    put (c ∷ cs) e = unfold joined onto in ap (λ t. slash ∷ b ∷ t) (tail-eq_of_cons-eq e)

-- bytes without a slash in front of others stand in front of their first part
split-front : (c t d : List ℕ) (ds : Path) → every (λ b. not (eqb b 0 || eqb b slash)) c ≡ true → split t ≡ d ∷ ds → split (c ++ t) ≡ (c ++ d) ∷ ds
unfolding split onto every
split-front [] t d ds h e = e
split-front (b ∷ c) t d ds h e =
    pick-false _ _ _ (or_snd (eqb b 0) _ (not-true _ (and_fst _ _ h)))
    ∙ ap (onto b) (split-front c t d ds (and_snd (not (eqb b 0 || eqb b slash)) _ h) e)

no_slash : (c : List ℕ) → component_form c ≡ true → every (λ b. not (eqb b 0 || eqb b slash)) c ≡ true
unfolding component_form
no_slash c e = and_snd (not (equal c (dot ∷ dot ∷ []))) _ (and_snd (not (equal c (dot ∷ []))) _ (and_snd (not (equal c [])) _ e))

split-joined : (p : Path) → every component_form p ≡ true → split (joined p) ≡ [] ∷ p
unfolding split joined every pick
split-joined [] h = refl
split-joined (c ∷ cs) h =
    ap (λ (q : Path). [] ∷ q) (split-front c (joined cs) [] cs (no_slash c (and_fst _ _ h)) (split-joined cs (and_snd (component_form c) _ h))
    ∙ ap (λ x. x ∷ cs) (append-nil c))

split_parts : (c : List ℕ) (cs : Path) → every component_form (c ∷ cs) ≡ true → split (c ++ joined cs) ≡ c ∷ cs
unfolding split joined pick
split_parts c cs h = tail-eq_of_cons-eq (split-joined (c ∷ cs) h)

pub read_path-path_bytes : (p : Path) → every component_form p ≡ true → read_path (path_bytes p) ≡ some p
unfolding read_path path_bytes joined after_slash pick
read_path-path_bytes [] h = refl
read_path-path_bytes ([] ∷ cs) h = absurd (false≢true (unfold every component_form equal in h))
read_path-path_bytes ((b ∷ c) ∷ cs) h = rw (split_parts (b ∷ c) cs h, h)

else_none : {A : Type 0} (t : Bool) (o : Option A) (y : A) → pick t o none ≡ some y → (t ≡ true) × (o ≡ some y)
unfolding pick
else_none true o y e = (refl, e)
else_none false o y e = absurd (some≢none y (sym e))

bytes-joined : (p : Path) (s : List ℕ) → joined p ≡ slash ∷ s → slash ∷ s ≡ path_bytes p
unfolding joined path_bytes
bytes-joined [] s e = absurd (nil≢cons e)
bytes-joined (c ∷ cs) s e = sym e

pub read_path-was-bytes : (s : List ℕ) (p : Path) → read_path s ≡ some p → (s ≡ path_bytes p) × (every component_form p ≡ true)
unfolding read_path
read_path-was-bytes [] p e = absurd (some≢none p (sym e))
read_path-was-bytes (b ∷ s) p e =
    let (t, q) = else_none (eqb b slash) (after_slash s) p e in
    let (u, v) = after s q in
    (ap (λ x. x ∷ s) (eqb-true b slash t) ∙ u, v)
  where
    after : (s : List ℕ) → after_slash s ≡ some p → (slash ∷ s ≡ path_bytes p) × (every component_form p ≡ true)
    after [] e = let z : [] ≡ p = unfold after_slash in cc in subst (λ p. (slash ∷ [] ≡ path_bytes p) × (every component_form p ≡ true)) z (unfold path_bytes every in (refl, refl))
    after (x ∷ s) e =
        let (h, z) = pick_some (every component_form (split (x ∷ s))) (split (x ∷ s)) p (unfold after_slash in e) in
        subst (λ p. (slash ∷ x ∷ s ≡ path_bytes p) × (every component_form p ≡ true)) z (bytes-joined (split (x ∷ s)) (x ∷ s) (joined-split (x ∷ s)), h)

-- The walk, from the node in place d.
module _ (ns : List Node) where
  pub walk-place : (d : ℕ) (p : Path) → Passed (walk_checks ns d p) → d < length ns → walk ns d p < length ns
  unfolding walk walk_checks
  walk-place d [] a h = h
  walk-place d (c ∷ cs) (both dir (both bit (both there a))) h = walk-place (child_at ns d c) cs a (leb-false _ _ there)

  -- each node that is walked through is a directory that may be searched, and holds the next
  pub walk_through : (d : ℕ) (p : Path) (c : List ℕ) (q : Path) → Passed (walk_checks ns d (p ++ (c ∷ q)))
      → (is_directory (node_at ns (walk ns d p)) ≡ true) × (has_bit 1 (node_at ns (walk ns d p)) ≡ true) × (child_at ns (walk ns d p) c < length ns)
  unfolding walk walk_checks
  walk_through d [] c q (both dir (both bit (both there a))) = (not-false _ dir, not-false _ bit, leb-false _ _ there)
  walk_through d (x ∷ p) c q (both dir (both bit (both there a))) = walk_through (child_at ns d x) p c q a

  -- the checks of a walk are those on the way to the last component's directory, and then that it holds that component
  pub walk_checks_parent : (d : ℕ) (c : List ℕ) (cs : Path) → walk_checks ns d (c ∷ cs) ≡ parent_checks ns d (c ∷ cs) ++ ((2, absent ns (walk ns d (c ∷ cs))) ∷ [])
  unfolding walk walk_checks parent_checks
  walk_checks_parent d c [] = refl
  walk_checks_parent d c (x ∷ cs) = ap (λ l. search_checks ns d ++ ((2, absent ns (child_at ns d c)) ∷ l)) (walk_checks_parent (child_at ns d c) x cs)

  pub walk-last : (d : ℕ) (c : List ℕ) (cs : Path) → walk ns d (c ∷ cs) ≡ child_at ns (parent_of ns d (c ∷ cs)) (last_of (c ∷ cs))
  unfolding walk parent_of last_of
  walk-last d c [] = refl
  walk-last d c (x ∷ cs) = walk-last (child_at ns d c) x cs

  pub parent_place : (d : ℕ) (c : List ℕ) (cs : Path) → Passed (parent_checks ns d (c ∷ cs)) → d < length ns
      → (parent_of ns d (c ∷ cs) < length ns) × (is_directory (node_at ns (parent_of ns d (c ∷ cs))) ≡ true) × (has_bit 1 (node_at ns (parent_of ns d (c ∷ cs))) ≡ true)
  unfolding parent_of parent_checks
  parent_place d c [] (both dir (both bit a)) h = (h, not-false _ dir, not-false _ bit)
  parent_place d c (x ∷ cs) (both dir (both bit (both there a))) h = parent_place (child_at ns d c) x cs a (leb-false _ _ there)
