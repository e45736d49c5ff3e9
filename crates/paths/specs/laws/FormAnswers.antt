-- What each form of a path's bytes says of the path that is read from them.
-- Assumes nothing.
use Rattle.std.specs.Result.{result_and}
use Rattle.std.proofs.Math.Path.{◌≡◌, refl, ap}
use Rattle.std.proofs.Common.{sym, ◌∙◌, inl, inr, arith}
use Rattle.std.specs.Prelude.{Bool, true, false, List, [], ◌∷◌, ◌⊎◌, ℕ, eqb}
use Rattle.std.proofs.Math.Option.{Option, some, none}
use Rattle.lists.specs.Pick.{pick, pick_ind}
use Rattle.lists.specs.Search.{every}
use Rattle.lists.specs.FormLaws.{pick_some, some≢none}
use Rattle.filesystem.specs.Paths.{Path, slash, component_form, split, after_slash, read_path, too_long}
use Rattle.paths.specs.Parts.{components_of}
use Rattle.paths.specs.PathForms.{length_form, path_form, form_of, worse, forms_of}
use Rattle.std.specs.Prelude.{Result, Ok, Err}
use Rattle.paths.specs.declared.PathFault.{PathFault}
use Rattle.paths.specs.declared.PathFault.TheVariants.{Malformed, TooLong}

-- the path that is read, where one is, has the components of the bytes
after_components : (b : ℕ) (s : List ℕ) (p : Path) → after_slash s ≡ some p → components_of (b ∷ s) ≡ p
unfolding after_slash components_of
after_components b [] p e = cc
after_components b (x ∷ s) p e = (pick_some (every component_form (split (x ∷ s))) (split (x ∷ s)) p e).1

pub read_components : (s : List ℕ) (p : Path) → read_path s ≡ some p → components_of s ≡ p
unfolding read_path
read_components [] = λ p e. absurd (some≢none p (sym e))
read_components (b ∷ s) =
    λ p. pick_ind (λ o. o ≡ some p → components_of (b ∷ s) ≡ p) (eqb b slash) (λ q e. after_components b s p e)
    (λ q e. absurd (some≢none p (sym e)))

length_good : (b : Bool) → length_form b ≡ Ok tt → b ≡ false
unfolding length_form pick
length_good true e = let z : ◌≡◌ {A = ℕ} 0 1 = cc in absurd (omega arith)
length_good false e = refl

length-long : (b : Bool) → length_form b ≡ Err TooLong → b ≡ true
unfolding length_form pick
length-long true e = refl
length-long false e = let z : ◌≡◌ {A = ℕ} 0 1 = cc in absurd (omega arith)

length-formed : (b : Bool) → length_form b ≡ Err Malformed → ⊥
unfolding length_form pick
length-formed true e = let z : ◌≡◌ {A = ℕ} 0 1 = cc in omega arith
length-formed false e = let z : ◌≡◌ {A = ℕ} 0 1 = cc in omega arith

module _ (s : List ℕ) where
  pub form_malformed : form_of s ≡ Err Malformed → read_path s ≡ none
  unfolding form_of path_form
  form_malformed = go (read_path s)
    where
      go : (o : Option Path) → path_form o ≡ Err Malformed → o ≡ none
      go none e = refl
      go (some p) e = absurd (length-formed (too_long p) e)

  pub form-long : form_of s ≡ Err TooLong → (read_path s ≡ some (components_of s)) × (too_long (components_of s) ≡ true)
  unfolding form_of path_form
  form-long = go (read_path s) refl
    where
      go : (o : Option Path) → read_path s ≡ o → path_form o ≡ Err TooLong → (read_path s ≡ some (components_of s))
          × (too_long (components_of s) ≡ true)
      go none r e = let z : ◌≡◌ {A = ℕ} 0 1 = cc in absurd (omega arith)
      go (some p) r e =
          let q = read_components s p r in
          (r ∙ ap some (sym q), ap too_long q ∙ length-long (too_long p) e)

  pub form_good : form_of s ≡ Ok tt → (read_path s ≡ some (components_of s)) × (too_long (components_of s) ≡ false)
  unfolding form_of path_form
  form_good = go (read_path s) refl
    where
      go : (o : Option Path) → read_path s ≡ o → path_form o ≡ Ok tt → (read_path s ≡ some (components_of s))
          × (too_long (components_of s) ≡ false)
      go none r e = let z : ◌≡◌ {A = ℕ} 0 1 = cc in absurd (omega arith)
      go (some p) r e =
          let q = read_components s p r in
          (r ∙ ap some (sym q), ap too_long q ∙ length_good (too_long p) e)

-- the same of two paths
worse_malformed : (f g : Result (Unit {0}) PathFault) → worse f g ≡ Err Malformed
    → (f ≡ Err Malformed) ⊎ (g ≡ Err Malformed)
unfolding worse
worse_malformed (Err Malformed) g e = inl refl
worse_malformed (Err TooLong) (Err Malformed) e = inr refl
worse_malformed (Err TooLong) (Err TooLong) e = let z : ◌≡◌ {A = ℕ} 0 1 = cc in absurd (omega arith)
worse_malformed (Err TooLong) (Ok tt) e = let z : ◌≡◌ {A = ℕ} 0 1 = cc in absurd (omega arith)
worse_malformed (Ok tt) g e = inr e

worse-long : (f g : Result (Unit {0}) PathFault) → worse f g ≡ Err TooLong
    → ((f ≡ Err TooLong) × ((g ≡ Err TooLong) ⊎ (g ≡ Ok tt))) ⊎ ((f ≡ Ok tt) × (g ≡ Err TooLong))
unfolding worse
worse-long (Err Malformed) g e = let z : ◌≡◌ {A = ℕ} 0 1 = cc in absurd (omega arith)
worse-long (Err TooLong) (Err Malformed) e = let z : ◌≡◌ {A = ℕ} 0 1 = cc in absurd (omega arith)
worse-long (Err TooLong) (Err TooLong) e = inl (refl, inl refl)
worse-long (Err TooLong) (Ok tt) e = inl (refl, inr refl)
worse-long (Ok tt) g e = inr (refl, e)

worse_good : (f g : Result (Unit {0}) PathFault) → worse f g ≡ Ok tt → (f ≡ Ok tt) × (g ≡ Ok tt)
unfolding worse
worse_good (Err Malformed) g e = let z : ◌≡◌ {A = ℕ} 0 1 = cc in absurd (omega arith)
worse_good (Err TooLong) (Err Malformed) e = let z : ◌≡◌ {A = ℕ} 0 1 = cc in absurd (omega arith)
worse_good (Err TooLong) (Err TooLong) e = let z : ◌≡◌ {A = ℕ} 0 1 = cc in absurd (omega arith)
worse_good (Err TooLong) (Ok tt) e = let z : ◌≡◌ {A = ℕ} 0 1 = cc in absurd (omega arith)
worse_good (Ok tt) g e = (refl, e)

module _ (s t : List ℕ) where
  pub forms_malformed : forms_of s t ≡ Err Malformed → (read_path s ≡ none) ⊎ (read_path t ≡ none)
  forms_malformed e = go (worse_malformed (form_of s) (form_of t) e)
    where
      go : (form_of s ≡ Err Malformed) ⊎ (form_of t ≡ Err Malformed) → (read_path s ≡ none) ⊎ (read_path t ≡ none)
      go (inl f) = inl (form_malformed s f)
      go (inr g) = inr (form_malformed t g)

  pub forms_long : forms_of s t ≡ Err TooLong
      → (read_path s ≡ some (components_of s)) × (read_path t ≡ some (components_of t))
      × ((too_long (components_of s) ≡ true) ⊎ ((too_long (components_of s) ≡ false) × (too_long (components_of t) ≡ true)))
  forms_long e = go (worse-long (form_of s) (form_of t) e)
    where
      go : ((form_of s ≡ Err TooLong) × ((form_of t ≡ Err TooLong) ⊎ (form_of t ≡ Ok tt))) ⊎
          ((form_of s ≡ Ok tt) × (form_of t ≡ Err TooLong))
          → (read_path s ≡ some (components_of s)) × (read_path t ≡ some (components_of t))
          × ((too_long (components_of s) ≡ true)
          ⊎ ((too_long (components_of s) ≡ false) × (too_long (components_of t) ≡ true)))
      go (inl (f, inl g)) = ((form-long s f).0, (form-long t g).0, inl (form-long s f).1)
      go (inl (f, inr g)) = ((form-long s f).0, (form_good t g).0, inl (form-long s f).1)
      go (inr (f, g)) = ((form_good s f).0, (form-long t g).0, inr ((form_good s f).1, (form-long t g).1))

  pub forms_good : forms_of s t ≡ Ok tt
      → (read_path s ≡ some (components_of s)) × (read_path t ≡ some (components_of t))
      × (too_long (components_of s) ≡ false) × (too_long (components_of t) ≡ false)
  forms_good e =
      let (f, g) = worse_good (form_of s) (form_of t) e in
      ((form_good s f).0, (form_good t g).0, (form_good s f).1, (form_good t g).1)

-- a good path leaves the other's form; after one that is too long the other may still be malformed
pub worse_on : {f : Result (Unit {0}) PathFault} (g : Result (Unit {0}) PathFault) → Ok tt ≡ f → g ≡ worse f g
unfolding worse
worse_on g e = λ i. worse (e i) g

pub worse_first : {f : Result (Unit {0}) PathFault} (g : Result (Unit {0}) PathFault) → Err Malformed ≡ f
    → Err Malformed ≡ worse f g
unfolding worse
worse_first g e = λ i. worse (e i) g

pub worse_too_long : {f : Result (Unit {0}) PathFault} (g : Result (Unit {0}) PathFault) → Err TooLong ≡ f
    → result_and g (Err TooLong) ≡ worse f g
unfolding worse
worse_too_long {f} g e = go g ∙ (λ i. worse (e i) g)
  where
    go : (g : Result (Unit {0}) PathFault) → result_and g (Err TooLong) ≡ worse (Err TooLong) g
    go (Err Malformed) = refl
    go (Err TooLong) = refl
    go (Ok tt) = refl
