-- A create and a mkdir are judged by the way to the directory, then by their own checks.
-- Assumes nothing.
use Rattle.std.proofs.Math.Path.{◌≡◌, ap}
use Rattle.std.proofs.Common.{◌∙◌, arith}
use Rattle.std.proofs.Math.Bool.{not}
use mathlib.Core.List.{List, [], ◌∷◌, ◌++◌}
use Rattle.std.specs.Prelude.{ℕ, ◌<◌, ◌-◌, drop}
use Rattle.std.proofs.Math.ListN.{length, length-drop}
use Rattle.std.proofs.lemmas.Bool.{lt-leb}
use Rattle.lists.specs.Checks.{decide, check_stops}
use Rattle.filesystem.specs.Tables.{Node, Tables}
use Rattle.filesystem.specs.Paths.{Path, child_at, walk, parent_checks, parent_of, last_of}
use Rattle.filesystem.specs.PathLaws.{walk-last}
use Rattle.rules.specs.Calls.{create}
use Rattle.rules.specs.Rules.{call_checks}
use Rattle.paths.specs.Parts.{components_of}
use Rattle.paths.specs.laws.PartsLaws.{Some, some}
use Rattle.paths.specs.PathForms.{form_of, refusal_for}
use Rattle.paths.specs.Walks.{placed}
use Rattle.paths.specs.laws.WalkAnswers.{Holds, placed_none, placed-stops, placed_goes}
use Rattle.refusals.specs.Numbers.{number_of}
use Rattle.paths.specs.declared.PathFault.{PathFault}
use Rattle.paths.specs.declared.PathFault.TheVariants.{Malformed, TooLong}
use Rattle.std.specs.Prelude.{Ok, Err, None}
use Rattle.path_calls.specs.Judged.{place_for}
use Rattle.path_calls.specs.laws.ReachedLaws.{judged_malformed, judged-long, judged_good}
use Rattle.creations.specs.NameChecks.{new_at, name_checks, name_own, new_own}

-- by the path's form
module _ (t : Tables) (s : List ℕ) (mode : ℕ) where
  pub new_malformed : form_of s ≡ Err Malformed → place_for t s (create mode) ≡ Err 22
  unfolding place_for call_checks
  new_malformed e = judged_malformed Err s _ _ e

  pub new-long : form_of s ≡ Err TooLong → place_for t s (create mode) ≡ Err 36
  unfolding place_for call_checks
  new-long e = judged-long Err s _ _ e

  pub new_fault : (f : PathFault) → form_of s ≡ Err f → place_for t s (create mode) ≡ Err (number_of (refusal_for f))
  new_fault Malformed e = new_malformed e
  new_fault TooLong e = new-long e

  pub new_good : form_of s ≡ Ok tt → place_for t s (create mode) ≡ new_own t.nodes s
  unfolding place_for call_checks new_own
  new_good e = judged_good Err s _ _ e

module _ (ns : List Node) (s : List ℕ) where
  pub new-stops : (b : ℕ) → placed ns s ≡ Err b → new_own ns s ≡ Err b
  unfolding new_own
  new-stops b e = placed-stops ns s Err _ _ b e

  -- the root is there
  pub new-root : 0 < length ns → placed ns s ≡ Ok None → new_own ns s ≡ Err 17
  unfolding new_own
  new-root h e = go (components_of s) (placed_none ns s e)
    where
      go : (p : Path) → p ≡ []
          → decide Err (parent_checks ns 0 p ++ name_checks ns (parent_of ns 0 p) (walk ns 0 p))
          (new_at (parent_of ns 0 p) (length s - length (last_of p))) ≡ Err 17
      go [] q = unfold parent_checks walk in check_stops Err 17 _ _ _ (ap not (lt-leb (length ns) 0 h))
      go (c ∷ cs) q = let z : ◌≡◌ {A = ℕ} 0 1 = cc in absurd (omega arith)

  child_last : (p : Path) → Some p → walk ns 0 p ≡ child_at ns (parent_of ns 0 p) (last_of p)
  child_last (c ∷ cs) some = walk-last ns 0 c cs
  child_last [] x' = elim x' [ ]

  pub new_goes : (d at : ℕ) → Holds ns s d at → new_own ns s ≡ name_own ns d at (drop at s)
  unfolding new_own name_own
  new_goes d at h =
      let p = components_of s in
      let k : walk ns 0 p ≡ child_at ns d (drop at s) = child_last p h.components
      ∙ (λ i. child_at ns (h.parent i) (h.last i)) in
      let j : length s - length (last_of p) ≡ at = ap (λ (c : List ℕ). length s - length c) h.last
      ∙ omega (arith, length-drop at s, h.start_within) in
      placed_goes ns s Err _ _ d at h
      ∙ (λ i. decide Err (name_checks ns (h.parent i) (k i)) (new_at (h.parent i) (j i)))
