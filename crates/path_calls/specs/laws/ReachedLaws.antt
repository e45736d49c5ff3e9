-- A call by path as one list of checks: 22, 36, the walk's, then the call's own on the places that the walk gives.
-- Assumes nothing.
use Rattle.std.proofs.Math.Path.{◌≡◌, refl, ap, sym, subst}
use Rattle.std.proofs.Common.{◌∙◌, arith, ltb-false}
use Rattle.std.specs.Prelude.{List, [], ◌∷◌, ◌++◌, false, ℕ, ◌<◌, ◌≤◌, ltb, length, drop}
use Rattle.std.proofs.Math.Option.{Option, some, none}
use Rattle.lists.specs.Pick.{pick}
use Rattle.lists.specs.Equal.{or_fst, or_snd}
use Rattle.lists.specs.All.{all_tail, all_left}
use Rattle.lists.specs.Search.{any}
use Rattle.lists.specs.Checks.{Check, decide, Passed, First, decide_ind, decide_passed, decide-first, decide-append}
use Rattle.lists.specs.Checks.{decide-map, check_passes, check_stops}
use Rattle.filesystem.specs.Tables.{NAME_BYTES, Node, Tables}
use Rattle.filesystem.specs.Paths.{Path, read_path, too_long, walk, walk_checks, parent_checks, parent_of, last_of}
use Rattle.filesystem.specs.PathLaws.{walk-place, walk_checks_parent, parent_place}
use Rattle.rules.specs.Calls.{stat}
use Rattle.rules.specs.Rules.{call_checks, is_none, reach}
use Rattle.paths.specs.Parts.{components_of}
use Rattle.paths.specs.laws.PartsLaws.{some}
use Rattle.paths.specs.PathForms.{form_of, refusal_for}
use Rattle.paths.specs.laws.FormAnswers.{read_components, form_malformed, form-long, form_good}
use Rattle.paths.specs.Walks.{walked, placed, at_place, child_step}
use Rattle.paths.specs.laws.WalkAnswers.{last_step, walked-placed, Holds, placed_none, placed-walked}
use Rattle.paths.specs.declared.PathFault.{PathFault}
use Rattle.paths.specs.declared.PathFault.TheVariants.{Malformed, TooLong}
use Rattle.refusals.specs.Numbers.{Judged, number_of}
use Rattle.std.specs.Prelude.{None, Ok, Err}
use Rattle.path_calls.specs.Judged.{judged, node_for, way_for}
use Rattle.path_calls.specs.declared.Way.{Way}
use Rattle.path_calls.specs.Ways.{at_way, way_of, walked_both}

-- 22 as a check before the others
abbrev pub form_check : List ℕ → Check
form_check s = (22, is_none (read_path s))

module _ {A : Type 0} (stop : ℕ → A) (s : List ℕ) where
  pub judged-decide : (checks : Path → List Check) (answer : Path → A)
      → judged stop checks answer s ≡ decide stop (form_check s ∷ checks (components_of s)) (answer (components_of s))
  unfolding judged is_none decide pick
  judged-decide checks answer = go (read_path s) refl
    where
      go : (o : Option Path) → read_path s ≡ o
          → elim o [ none ↦ stop 22 | some p ↦ decide stop (checks p) (answer p) ]
          ≡ decide stop ((22, is_none o) ∷ checks (components_of s)) (answer (components_of s))
      go none r = refl
      go (some p) r = ap (λ (q : Path). decide stop (checks q) (answer q)) (sym (read_components s p r))

  pub judged_malformed : (checks : Path → List Check) (answer : Path → A) → form_of s ≡ Err Malformed
      → judged stop checks answer s ≡ stop 22
  unfolding is_none
  judged_malformed checks answer e = judged-decide checks answer
      ∙ check_stops stop 22 _ _ _ (ap is_none (form_malformed s e))

  -- 36 is the first of a path call's own numbers
  module _ (more : Path → List Check) (answer : Path → A) where
    pub judged-long : form_of s ≡ Err TooLong → judged stop (λ p. (36, too_long p) ∷ more p) answer s ≡ stop 36
    unfolding is_none
    judged-long e =
        let f = form-long s e in
        judged-decide _ answer ∙ check_passes stop 22 _ _ _ (ap is_none f.0) ∙ check_stops stop 36 _ _ _ f.1

    pub judged_good : form_of s ≡ Ok tt
        → judged stop (λ p. (36, too_long p) ∷ more p) answer s ≡ decide stop (more (components_of s))
        (answer (components_of s))
    unfolding is_none
    judged_good e =
        let f = form_good s e in
        judged-decide _ answer ∙ check_passes stop 22 _ _ _ (ap is_none f.0) ∙ check_passes stop 36 _ _ _ f.1

-- chmod and stat, by the path's form
module _ (t : Tables) (s : List ℕ) where
  pub stat_malformed : form_of s ≡ Err Malformed → node_for t s stat ≡ Err 22
  unfolding node_for call_checks
  stat_malformed e = judged_malformed Err s _ _ e

  pub stat-long : form_of s ≡ Err TooLong → node_for t s stat ≡ Err 36
  unfolding node_for call_checks
  stat-long e = judged-long Err s _ _ e

  pub stat_good : form_of s ≡ Ok tt → node_for t s stat ≡ walked t.nodes (components_of s)
  unfolding node_for call_checks walked
  stat_good e = judged_good Err s _ _ e

-- the same of any fault of form
module _ (t : Tables) (s : List ℕ) where
  pub stat_fault : (f : PathFault) → form_of s ≡ Err f → node_for t s stat ≡ Err (number_of (refusal_for f))
  stat_fault Malformed e = stat_malformed t s e
  stat_fault TooLong e = stat-long t s e

-- what a way says of the walk
abbrev node_of_way : Judged Way → ℕ
node_of_way (Ok w) = w.node
node_of_way (Err b) = 0

abbrev parent_of_way : Judged Way → ℕ
parent_of_way (Ok w) = w.parent
parent_of_way (Err b) = 0

pub way_at : (d : ℕ) (w : Judged ℕ) (k e : ℕ) → way_of d w ≡ at_way k e → (w ≡ Ok k) × (d ≡ e)
unfolding way_of
way_at d (Ok j) k e q = (ap (λ w. Ok (node_of_way w)) q, ap parent_of_way q)
way_at d (Err b) k e q = let z : ◌≡◌ {A = ℕ} 0 1 = cc in absurd (omega arith)

pub way_refused : (d : ℕ) (w : Judged ℕ) (b : ℕ) → way_of d w ≡ Err b → w ≡ Err b
unfolding way_of
way_refused d (Ok j) b q = let z : ◌≡◌ {A = ℕ} 0 1 = cc in absurd (omega arith)
way_refused d (Err c) b q = cc

module _ (t : Tables) (s : List ℕ) where
  pub way_node : way_for t s stat ≡ way_of (parent_of t.nodes 0 (components_of s)) (node_for t s stat)
  unfolding way_for node_for way_of
  way_node =
      let d = parent_of t.nodes 0 (components_of s) in
      judged-decide Err s _ _
      ∙ sym (decide-map Err (way_of d) (form_check s ∷ call_checks t (stat (components_of s)))
      (Ok (walk t.nodes 0 (components_of s))))
      ∙ ap (way_of d) (sym (judged-decide Err s _ _))

  pub way_stops : (b : ℕ) → way_for t s stat ≡ Err b → node_for t s stat ≡ Err b
  way_stops b e = way_refused _ _ b (sym way_node ∙ e)

  pub way_malformed : form_of s ≡ Err Malformed → way_for t s stat ≡ Err 22
  unfolding way_of
  way_malformed e = way_node ∙ ap (way_of _) (stat_malformed t s e)

  pub way_long : form_of s ≡ Err TooLong → way_for t s stat ≡ Err 36
  unfolding way_of
  way_long e = way_node ∙ ap (way_of _) (stat-long t s e)

  pub way_fault : (f : PathFault) → form_of s ≡ Err f → way_for t s stat ≡ Err (number_of (refusal_for f))
  way_fault Malformed e = way_malformed e
  way_fault TooLong e = way_long e

  pub way_good : form_of s ≡ Ok tt → way_for t s stat ≡ walked_both t.nodes (components_of s)
  unfolding walked_both
  way_good e = way_node ∙ ap (way_of _) (stat_good t s e)

-- by the way to the last component's directory
module _ (ns : List Node) (s : List ℕ) where
  pub both-root : placed ns s ≡ Ok None → walked_both ns (components_of s) ≡ at_way 0 0
  unfolding walked_both way_of last_step parent_of
  both-root e =
      let d : parent_of ns 0 (components_of s) ≡ 0 = ap (parent_of ns 0) (placed_none ns s e) in
      λ i. way_of (d i) ((walked-placed ns s ∙ ap (last_step ns s) e) i)

  pub both_in : (d at : ℕ) → Holds ns s d at → placed ns s ≡ at_place d at → walked_both ns (components_of s) ≡ way_of d
      (child_step ns d (drop at s))
  unfolding walked_both
  both_in d at h e = λ i. way_of (h.parent i) (placed-walked ns s d at e i)

  pub both_refused : (b : ℕ) → placed ns s ≡ Err b → walked_both ns (components_of s) ≡ Err b
  unfolding walked_both way_of last_step
  both_refused b e = ap (way_of _) (walked-placed ns s ∙ ap (last_step ns s) e)

-- What an answer to stat says, and what any call that begins with stat's checks is then judged to be.
pub record Reached (t : Tables) (s : List ℕ) (k : ℕ) : Type 0 where
  pub passed : Passed (form_check s ∷ reach t (components_of s))
  pub node-place : walk t.nodes 0 (components_of s) ≡ k
  pub node_within : k < length t.nodes
  pub parent_within : parent_of t.nodes 0 (components_of s) < length t.nodes

-- the directory that holds the end of a walk is there
pub holder-place : (ns : List Node) (p : Path) → Passed (walk_checks ns 0 p) → 0 < length ns
    → parent_of ns 0 p < length ns
holder-place ns [] a h = unfold parent_of in h
holder-place ns (c ∷ cs) a h =
    (parent_place ns 0 c cs (all_left (parent_checks ns 0 (c ∷ cs)) _ (subst (λ (l : List Check). Passed l)
    (walk_checks_parent ns 0 c cs) a)) h).0

-- the last name of a path that is not too long is not either
pub last-short : (p : Path) → any (λ c. ltb NAME_BYTES (length c)) p ≡ false → length (last_of p) ≤ NAME_BYTES
unfolding any last_of
last-short [] e = omega arith
last-short (c ∷ []) e = ltb-false _ _ (or_fst _ _ e)
last-short (c ∷ x ∷ cs) e = last-short (x ∷ cs) (or_snd (ltb NAME_BYTES (length c)) _ e)

module _ (t : Tables) (s : List ℕ) where
  stat-first : (b : ℕ) → node_for t s stat ≡ Err b → First b (form_check s ∷ reach t (components_of s))
  unfolding node_for call_checks
  stat-first b e = go (sym (judged-decide Err s _ _) ∙ e)
    where
      go : decide Err (form_check s ∷ reach t (components_of s)) (Ok (walk t.nodes 0 (components_of s))) ≡
          Err b
          → First b (form_check s ∷ reach t (components_of s))
      go =
          decide_ind Err (λ r. r ≡ Err b → First b (form_check s ∷ reach t (components_of s)))
          (form_check s ∷ reach t (components_of s)) _
          (λ n f e. let q : n ≡ b = cc in subst (λ (j : ℕ). First j (form_check s ∷ reach t (components_of s))) q f)
          (λ p e. let z : ◌≡◌ {A = ℕ} 0 1 = cc in absurd (omega arith))

  reached : (k : ℕ) → 0 < length t.nodes → Passed (form_check s ∷ reach t (components_of s))
      → walk t.nodes 0 (components_of s) ≡ k → Reached t s k
  reached k h a i =
      let w : Passed (walk_checks t.nodes 0 (components_of s)) = all_tail (all_tail a) in
      record {
        passed = a;
        node-place = i;
        node_within = subst (λ (j : ℕ). j < length t.nodes) i (walk-place t.nodes 0 (components_of s) w h);
        parent_within = holder-place t.nodes (components_of s) w h;
      }

  pub stat_reached : (k : ℕ) → 0 < length t.nodes → node_for t s stat ≡ Ok k → Reached t s k
  unfolding node_for call_checks
  stat_reached k h e = go (sym (judged-decide Err s _ _) ∙ e)
    where
      go : decide Err (form_check s ∷ reach t (components_of s)) (Ok (walk t.nodes 0 (components_of s))) ≡
          Ok k → Reached t s k
      go =
          decide_ind Err (λ r. r ≡ Ok k → Reached t s k) (form_check s ∷ reach t (components_of s)) _
          (λ n f e. let z : ◌≡◌ {A = ℕ} 0 1 = cc in absurd (omega arith))
          (λ a e. let i : walk t.nodes 0 (components_of s) ≡ k = cc in reached k h a i)

  -- the same of a call with more checks behind stat's
  pub more_reached : (more : Path → List Check) (k : ℕ) → 0 < length t.nodes
      → judged Err (λ p. reach t p ++ more p) (λ p. Ok (walk t.nodes 0 p)) s ≡ Ok k → Reached t s k
  more_reached more k h e = go (sym (judged-decide Err s _ _) ∙ e)
    where
      go : decide Err (form_check s ∷ (reach t (components_of s) ++ more (components_of s)))
          (Ok (walk t.nodes 0 (components_of s))) ≡ Ok k
          → Reached t s k
      go =
          decide_ind Err (λ r. r ≡ Ok k → Reached t s k) (form_check s
          ∷ (reach t (components_of s) ++ more (components_of s))) _
          (λ n f e. let z : ◌≡◌ {A = ℕ} 0 1 = cc in absurd (omega arith))
          (λ a e.
          let i : walk t.nodes 0 (components_of s) ≡ k = cc in
          reached k h (all_left (form_check s ∷ reach t (components_of s)) (more (components_of s)) a) i)

  module _ {A : Type 0} (stop : ℕ → A) (more : Path → List Check) (answer : Path → A) where
    pub reach-stops : (b : ℕ) → node_for t s stat ≡ Err b → judged stop (λ p. reach t p ++ more p) answer
        s ≡ stop b
    reach-stops b e =
        judged-decide stop s _ answer
        ∙ decide-append stop (form_check s ∷ reach t (components_of s)) (more (components_of s)) _
        ∙ decide-first stop _ (stat-first b e)

    pub reach_goes : (k : ℕ) → Reached t s k
        → judged stop (λ p. reach t p ++ more p) answer s ≡ decide stop (more (components_of s))
        (answer (components_of s))
    reach_goes k r =
        judged-decide stop s _ answer
        ∙ decide-append stop (form_check s ∷ reach t (components_of s)) (more (components_of s)) _
        ∙ decide_passed stop (form_check s ∷ reach t (components_of s)) _ r.passed
