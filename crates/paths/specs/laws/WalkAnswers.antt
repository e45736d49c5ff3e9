-- What each answer of a walk says, and what a list of checks that begins with the walk's then decides.
-- Assumes nothing.
use Rattle.std.proofs.Math.Path.{◌≡◌, refl, ap, sym, subst}
use Rattle.std.proofs.Common.{◌∙◌, arith, length-append}
use mathlib.Core.List.{List, [], ◌∷◌, ◌++◌, append_assoc, append-nil, tail-eq_of_cons-eq}
use Prim.Native.Nat.{ℕ, suc, ◌-◌, ◌≤◌, ◌<◌}
use Rattle.std.proofs.Math.ListN.{length, drop}
use Rattle.std.proofs.Math.Seq.{drop-append_seam}
use Rattle.lists.specs.Pick.{pick}
use Rattle.lists.specs.Checks.{Check, decide, Passed, First, decide_ind, decide_passed, decide-first, decide-append}
use Rattle.lists.specs.Checks.{decide-map}
use Rattle.filesystem.specs.Tables.{Node, absent}
use Rattle.filesystem.specs.Paths.{Path, slash, joined, split, child_at, walk, walk_checks, parent_checks, parent_of}
use Rattle.filesystem.specs.Paths.{last_of}
use Rattle.filesystem.specs.PathLaws.{joined-split, walk_checks_parent, walk-last, walk-place, parent_place}
use Rattle.paths.specs.Parts.{components_of}
use Rattle.paths.specs.laws.PartsLaws.{Some, some}
use Rattle.paths.specs.Walks.{walked, at_place, placed_from, placed_in, placed, child_step}
use Rattle.std.specs.Prelude.{Option, Some as the_place, None, Ok, Err}
use Rattle.refusals.specs.Numbers.{Judged}
use Rattle.paths.specs.declared.Place.{Place}

-- the last component stands at the end of the path's bytes
last-joined : (c : List ℕ) (cs : Path) → (y : List ℕ) × (c ++ joined cs ≡ y ++ last_of (c ∷ cs))
unfolding joined last_of
last-joined c [] = ([], append-nil c)
last-joined c (x ∷ cs) =
    let (y, e) = last-joined x cs in
    (c ++ (slash ∷ y), ap (λ (t : List ℕ). c ++ (slash ∷ t)) e ∙ sym (append_assoc c (slash ∷ y) (last_of (x ∷ cs))))

last_end : (b : ℕ) (s : List ℕ) (c : List ℕ) (cs : Path) → split s ≡ c ∷ cs
    → drop (length (b ∷ s) - length (last_of (c ∷ cs))) (b ∷ s) ≡ last_of (c ∷ cs)
unfolding joined
last_end b s c cs e =
    let (y, j) = last-joined c cs in
    let q : s ≡ y ++ last_of (c ∷ cs) = tail-eq_of_cons-eq (sym (joined-split s) ∙ ap joined e) ∙ j in
    let n : length (b ∷ s) - length (last_of (c ∷ cs)) ≡ suc (length y) = omega (
      arith,
      ap length q,
      length-append y
          (last_of (c ∷ cs)),
    ) in
    ap (λ (k : ℕ). drop k (b ∷ s)) n ∙ ap (drop (length y)) q ∙ drop-append_seam y (last_of (c ∷ cs))

pub last-start : (s : List ℕ) (c : List ℕ) (cs : Path) → components_of s ≡ c ∷ cs
    → drop (length s - length (last_of (c ∷ cs))) s ≡ last_of (c ∷ cs)
unfolding components_of
last-start [] c cs e = let z : ◌≡◌ {A = ℕ} 0 1 = cc in absurd (omega arith)
last-start (b ∷ []) c cs e = let z : ◌≡◌ {A = ℕ} 0 1 = cc in absurd (omega arith)
last-start (b ∷ x ∷ s) c cs e = last_end b (x ∷ s) c cs e

-- A walk by the way to its last component: the last step.
unfoldable pub last_step : List Node → List ℕ → Judged (Option Place) → Judged ℕ
last_step ns s (Ok None) = Ok 0
last_step ns s (Ok (the_place p)) = child_step ns p.parent (drop p.start s)
last_step ns s (Err k) = Err k

module _ (ns : List Node) (s : List ℕ) where
  last-walked : (c : List ℕ) (cs : Path) → components_of s ≡ c ∷ cs
      → walked ns (c ∷ cs) ≡ last_step ns s (placed_from ns (length s) 0 (c ∷ cs))
  unfolding walked placed_from decide last_step child_step
  last-walked c cs e =
      let p = c ∷ cs in
      let at = length s - length (last_of p) in
      let f : ℕ → Judged ℕ = λ k. pick (absent ns k) (Err 2) (Ok k) in
      let k : walk ns 0 p ≡ child_at ns (parent_of ns 0 p) (drop at s) = walk-last ns 0 c cs
      ∙ ap (child_at ns (parent_of ns 0 p)) (sym (last-start s c cs e)) in
      ap (λ (l : List Check). decide Err l (Ok (walk ns 0 p))) (walk_checks_parent ns 0 c cs)
      ∙ decide-append Err (parent_checks ns 0 p) ((2, absent ns (walk ns 0 p)) ∷ []) (Ok (walk ns 0 p))
      ∙ ap (λ (j : ℕ). decide Err (parent_checks ns 0 p) (f j)) k
      ∙ sym (decide-map Err (last_step ns s) (parent_checks ns 0 p) (at_place (parent_of ns 0 p) at))

  pub walked-placed : walked ns (components_of s) ≡ last_step ns s (placed ns s)
  unfolding placed placed_in
  walked-placed = go (components_of s) refl
    where
      go : (p : Path) → components_of s ≡ p → walked ns p ≡ last_step ns s (placed_in ns (length s) p)
      go [] e = unfold walked walk_checks walk decide last_step in refl
      go (c ∷ cs) e = last-walked c cs e

-- Where the last component stands.
pub record Holds (ns : List Node) (s : List ℕ) (d at : ℕ) : Type 0 where
  pub components : Some (components_of s)
  pub passed : Passed (parent_checks ns 0 (components_of s))
  pub parent : parent_of ns 0 (components_of s) ≡ d
  pub last : last_of (components_of s) ≡ drop at s
  pub place-within : d < length ns
  pub start_within : at ≤ length s

abbrev parent_in : Judged (Option Place) → ℕ
parent_in (Ok (the_place p)) = p.parent
parent_in (Ok None) = 0
parent_in (Err k) = 0

abbrev start_in : Judged (Option Place) → ℕ
start_in (Ok (the_place p)) = p.start
start_in (Ok None) = 0
start_in (Err k) = 0

module _ (ns : List Node) (s : List ℕ) where
  pub placed_none : placed ns s ≡ Ok None → components_of s ≡ []
  unfolding placed
  placed_none = go (components_of s)
    where
      go : (p : Path) → placed_in ns (length s) p ≡ Ok None → p ≡ []
      go [] = λ e. refl
      go (c ∷ cs) =
          unfold placed_in placed_from in
          decide_ind Err (λ r. r ≡ Ok None → c ∷ cs ≡ []) (parent_checks ns 0 (c ∷ cs)) _
          (λ n f e. let z : ◌≡◌ {A = ℕ} 0 1 = cc in absurd (omega arith))
          (λ p e. let z : ◌≡◌ {A = ℕ} 0 1 = cc in absurd (omega arith))

  pub placed_refused : (k : ℕ) → placed ns s ≡ Err k → First k (parent_checks ns 0 (components_of s))
  unfolding placed
  placed_refused k = go (components_of s)
    where
      go : (p : Path) → placed_in ns (length s) p ≡ Err k → First k (parent_checks ns 0 p)
      go [] = unfold placed_in in λ e. let z : ◌≡◌ {A = ℕ} 0 1 = cc in absurd (omega arith)
      go (c ∷ cs) =
          unfold placed_in placed_from in
          decide_ind Err (λ r. r ≡ Err k → First k (parent_checks ns 0 (c ∷ cs)))
          (parent_checks ns 0 (c ∷ cs)) _
          (λ n f e. let q : n ≡ k = cc in subst (λ (j : ℕ). First j (parent_checks ns 0 (c ∷ cs))) q f)
          (λ p e. let z : ◌≡◌ {A = ℕ} 0 1 = cc in absurd (omega arith))

  pub placed_in_lem : (d at : ℕ) → 0 < length ns → placed ns s ≡ at_place d at → Holds ns s d at
  unfolding placed
  placed_in_lem d at h e = go (components_of s) refl e
    where
      go : (p : Path) → components_of s ≡ p → placed_in ns (length s) p ≡ at_place d at → Holds ns s d at
      go [] q = unfold placed_in in λ e. let z : ◌≡◌ {A = ℕ} 0 1 = cc in absurd (omega arith)
      go (c ∷ cs) q =
          unfold placed_in placed_from in
          decide_ind Err (λ r. r ≡ at_place d at → Holds ns s d at) (parent_checks ns 0 (c ∷ cs)) _
          (λ n f e. let z : ◌≡◌ {A = ℕ} 0 1 = cc in absurd (omega arith))
          (λ p e.
          let i : parent_of ns 0 (c ∷ cs) ≡ d = ap parent_in e in
          let j : length s - length (last_of (c ∷ cs)) ≡ at = ap start_in e in
          record {
            components = subst Some (sym q) some;
            passed = subst (λ (t : Path). Passed (parent_checks ns 0 t)) (sym q) p;
            parent = ap (parent_of ns 0) q ∙ i;
            last = ap last_of q ∙ sym (last-start s c cs q) ∙ ap (λ (k : ℕ). drop k s) j;
            place-within = subst (λ (k : ℕ). k < length ns) i (parent_place ns 0 c cs p h).0;
            start_within = omega arith;
          })

  -- the walk itself is then one step more
  pub placed-walked : (d at : ℕ) → placed ns s ≡ at_place d at
      → walked ns (components_of s) ≡ child_step ns d (drop at s)
  unfolding last_step
  placed-walked d at e = walked-placed ns s ∙ ap (last_step ns s) e

  -- checks that begin with those on the way
  module _ {A : Type 0} (stop : ℕ → A) (more : List Check) (x : A) where
    pub placed-stops : (k : ℕ) → placed ns s ≡ Err k → decide stop (parent_checks ns 0 (components_of s) ++ more)
        x ≡ stop k
    placed-stops k e = decide-append stop (parent_checks ns 0 (components_of s)) more x
        ∙ decide-first stop _ (placed_refused k e)

    pub placed_goes : (d at : ℕ) → Holds ns s d at → decide stop (parent_checks ns 0 (components_of s) ++ more) x ≡ decide
        stop more x
    placed_goes d at h = decide-append stop (parent_checks ns 0 (components_of s)) more x
        ∙ decide_passed stop (parent_checks ns 0 (components_of s)) _ h.passed

-- The node at a path's end.
pub record Reaches (ns : List Node) (p : Path) (k : ℕ) : Type 0 where
  pub passed : Passed (walk_checks ns 0 p)
  pub node-place : walk ns 0 p ≡ k
  pub node_within : k < length ns

module _ (ns : List Node) (p : Path) where
  pub walked_refused : (k : ℕ) → walked ns p ≡ Err k → First k (walk_checks ns 0 p)
  unfolding walked
  walked_refused k =
      decide_ind Err (λ r. r ≡ Err k → First k (walk_checks ns 0 p)) (walk_checks ns 0 p)
      (Ok (walk ns 0 p))
      (λ n f e. let q : n ≡ k = cc in subst (λ (j : ℕ). First j (walk_checks ns 0 p)) q f)
      (λ p e. let z : ◌≡◌ {A = ℕ} 0 1 = cc in absurd (omega arith))

  pub walked-node : (k : ℕ) → 0 < length ns → walked ns p ≡ Ok k → Reaches ns p k
  unfolding walked
  walked-node k h =
      decide_ind Err (λ r. r ≡ Ok k → Reaches ns p k) (walk_checks ns 0 p) (Ok (walk ns 0 p))
      (λ n f e. let z : ◌≡◌ {A = ℕ} 0 1 = cc in absurd (omega arith))
      (λ a e.
      let i : walk ns 0 p ≡ k = cc in
      record { passed = a; node-place = i; node_within = subst (λ (j : ℕ). j < length ns) i (walk-place ns 0 p a h) })

  -- checks that begin with the walk's
  module _ {A : Type 0} (stop : ℕ → A) (more : List Check) (x : A) where
    pub walked-stops : (k : ℕ) → walked ns p ≡ Err k → decide stop (walk_checks ns 0 p ++ more) x ≡ stop k
    walked-stops k e = decide-append stop (walk_checks ns 0 p) more x ∙ decide-first stop _ (walked_refused k e)

    pub walked_goes : (k : ℕ) → Reaches ns p k → decide stop (walk_checks ns 0 p ++ more) x ≡ decide stop more x
    walked_goes k r = decide-append stop (walk_checks ns 0 p) more x ∙ decide_passed stop (walk_checks ns 0 p) _
        r.passed
