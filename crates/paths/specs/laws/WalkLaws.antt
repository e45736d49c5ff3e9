-- The walk step by step, and what each of its answers says.
-- Assumes nothing.
use Rattle.std.specs.Prelude.{◌≡◌, Bool, ℕ, ◌+◌, ◌≤◌, ◌<◌, ◌-◌, length, take, drop, None, Ok, Err}
use Rattle.std.proofs.Math.Path.{refl, ap}
use Rattle.std.proofs.Common.{sym, ◌∙◌, arith, length-drop, le-leb}
use Rattle.std.proofs.Math.Bool.{true, false}
use mathlib.Core.List.{List, [], ◌∷◌}
use Rattle.std.proofs.lemmas.Bool.{lt-leb}
use Rattle.lists.specs.Pick.{pick, pick_true, pick-false}
use Rattle.lists.specs.Search.{place}
use Rattle.lists.specs.Checks.{Check, decide}
use Rattle.filesystem.specs.Tables.{Node, node_at, is_directory, has_bit, find_child}
use Rattle.filesystem.specs.Paths.{Path, split, child_at, parent_checks, parent_of, last_of}
use Rattle.paths.specs.Parts.{is_slash}
use Rattle.paths.specs.laws.PartsLaws.{components_none, components_split, Some, some, split_some, end-passes}
use Rattle.paths.specs.laws.PartsLaws.{part-slash, part-last}
use Rattle.paths.specs.Walks.{at_place, placed_from, placed_in, placed, search_number, child_step}
use Rattle.tables.specs.laws.RowsInUse.{node_front_lem}

-- Two checks, of which the first that holds gives its number.
module _ {A : Type 0} (stop : ℕ → A) where
  two_stop : (a b : Bool) (more : List Check) (x : A) (n : ℕ) → n ≡ decide (λ k. k) ((20, a) ∷ (13, b) ∷ []) 0
      → (n ≡ 0 → ⊥)
      → decide stop ((20, a) ∷ (13, b) ∷ more) x ≡ stop n
  unfolding decide pick
  two_stop true b more x n e z = ap stop (sym e)
  two_stop false true more x n e z = ap stop (sym e)
  two_stop false false more x n e z = absurd (z e)

  two_pass : (a b : Bool) (more : List Check) (x : A) → 0 ≡ decide (λ k. k) ((20, a) ∷ (13, b) ∷ []) 0
      → decide stop ((20, a) ∷ (13, b) ∷ more) x ≡ decide stop more x
  unfolding decide pick
  two_pass true b more x e = absurd (omega arith)
  two_pass false true more x e = absurd (omega arith)
  two_pass false false more x e = refl

  three_stop : (a b t : Bool) (more : List Check) (x : A) → 0 ≡ decide (λ k. k) ((20, a) ∷ (13, b) ∷ []) 0 → t ≡ true
      → decide stop ((20, a) ∷ (13, b) ∷ (2, t) ∷ more) x ≡ stop 2
  unfolding decide
  three_stop a b t more x e h = two_pass a b ((2, t) ∷ more) x e ∙ pick_true _ _ _ h

  three_pass : (a b t : Bool) (more : List Check) (x : A) → 0 ≡ decide (λ k. k) ((20, a) ∷ (13, b) ∷ []) 0 → t ≡ false
      → decide stop ((20, a) ∷ (13, b) ∷ (2, t) ∷ more) x ≡ decide stop more x
  unfolding decide
  three_pass a b t more x e h = two_pass a b ((2, t) ∷ more) x e ∙ pick-false _ _ _ h

-- The number of a directory, by its kind and mode.
module _ (ns : List Node) (d : ℕ) where
  pub search_no_folder : is_directory (node_at ns d) ≡ false → search_number ns d ≡ 20
  unfolding search_number decide pick
  search_no_folder e = rw e

  pub search_barred : is_directory (node_at ns d) ≡ true → has_bit 1 (node_at ns d) ≡ false → search_number ns d ≡ 13
  unfolding search_number decide pick
  search_barred e h = rw (e, h)

  pub search_free : is_directory (node_at ns d) ≡ true → has_bit 1 (node_at ns d) ≡ true → search_number ns d ≡ 0
  unfolding search_number decide pick
  search_free e h = rw (e, h)

-- One step of the walk to the last component's directory.
module _ (ns : List Node) (n d : ℕ) (c : List ℕ) where
  pub placed_stop : (cs : Path) (k : ℕ) → k ≡ search_number ns d → (k ≡ 0 → ⊥)
      → placed_from ns n d (c ∷ cs) ≡ Err k
  unfolding placed_from parent_checks search_number
  placed_stop [] k e z = two_stop Err _ _ [] _ k e z
  placed_stop (x ∷ cs) k e z = two_stop Err _ _ _ _ k e z

  pub placed-here : 0 ≡ search_number ns d → placed_from ns n d (c ∷ []) ≡ at_place d (n - length c)
  unfolding placed_from parent_checks parent_of last_of search_number decide
  placed-here e = two_pass Err _ _ [] _ e

  pub placed-absent : (x : List ℕ) (cs : Path) → 0 ≡ search_number ns d → length ns ≤ child_at ns d c
      → placed_from ns n d (c ∷ x ∷ cs) ≡ Err 2
  unfolding placed_from parent_checks search_number
  placed-absent x cs e h = three_stop Err _ _ _ _ _ e (le-leb _ _ h)

  pub placed_on : (x : List ℕ) (cs : Path) → 0 ≡ search_number ns d → child_at ns d c < length ns
      → placed_from ns n d (c ∷ x ∷ cs) ≡ placed_from ns n (child_at ns d c) (x ∷ cs)
  unfolding placed_from parent_checks parent_of last_of search_number
  placed_on x cs e h = three_pass Err _ _ _ _ _ e (lt-leb _ _ h)

-- The walk by the path's bytes, from `at` on, where the next slash stands at `end`.
module _ (ns : List Node) (s : List ℕ) (d at end : ℕ) (reach : end ≡ at + place is_slash (drop at s))
    (within : at ≤ length s) where
  -- the next component, which is not the last
  first_part : end < length s → split (drop at s) ≡ take (end - at) (drop at s) ∷ split (drop (end + 1) s)
  first_part h =
      let p = end-passes is_slash (λ b e. e) s at end reach h in
      part-slash is_slash (λ b e. e) s at end reach h p

  pub step_stop : (k : ℕ) → k ≡ search_number ns d → (k ≡ 0 → ⊥)
      → placed_from ns (length s) d (split (drop at s)) ≡ Err k
  step_stop k e z = go (split (drop at s)) (split_some (drop at s))
    where
      go : (p : Path) → Some p → placed_from ns (length s) d p ≡ Err k
      go (c ∷ cs) some = placed_stop ns (length s) d c cs k e z
      go [] x' = elim x' [ ]

  module _ (more : end < length s) where
    pub step-absent : 0 ≡ search_number ns d → length ns ≤ child_at ns d (take (end - at) (drop at s))
        → placed_from ns (length s) d (split (drop at s)) ≡ Err 2
    step-absent e h = ap (placed_from ns (length s) d) (first_part more)
        ∙ go (split (drop (end + 1) s)) (split_some (drop (end + 1) s))
      where
        go : (p : Path) → Some p → placed_from ns (length s) d (take (end - at) (drop at s) ∷ p) ≡ Err 2
        go (c ∷ cs) some = placed-absent ns (length s) d (take (end - at) (drop at s)) c cs e h
        go [] x' = elim x' [ ]

    pub step_on : 0 ≡ search_number ns d → child_at ns d (take (end - at) (drop at s)) < length ns
        → placed_from ns (length s) d (split (drop at s)) ≡ placed_from ns (length s)
        (child_at ns d (take (end - at) (drop at s))) (split (drop (end + 1) s))
    step_on e h = ap (placed_from ns (length s) d) (first_part more)
        ∙ go (split (drop (end + 1) s)) (split_some (drop (end + 1) s))
      where
        go : (p : Path) → Some p
            → placed_from ns (length s) d (take (end - at) (drop at s) ∷ p) ≡ placed_from ns (length s)
            (child_at ns d (take (end - at) (drop at s))) p
        go (c ∷ cs) some = placed_on ns (length s) d (take (end - at) (drop at s)) c cs e h
        go [] x' = elim x' [ ]

  -- the last
  pub step-last : length s ≤ end → 0 ≡ search_number ns d
      → placed_from ns (length s) d (split (drop at s)) ≡ at_place d at
  step-last h e =
      let n : length s - length (drop at s) ≡ at = omega (arith, length-drop at s) in
      ap (placed_from ns (length s) d) (part-last is_slash (λ b e. e) s at end reach h)
      ∙ placed-here ns (length s) d (drop at s) e
      ∙ ap (at_place d) n

-- the whole path
module _ (ns : List Node) (s : List ℕ) where
  pub placed-root : length s < 2 → placed ns s ≡ Ok None
  unfolding placed placed_in
  placed-root h = ap (placed_in ns (length s)) (components_none s h)

  pub placed_parts : 2 ≤ length s → placed ns s ≡ placed_from ns (length s) 0 (split (drop 1 s))
  unfolding placed
  placed_parts h = ap (placed_in ns (length s)) (components_split s h) ∙ go (split (drop 1 s)) (split_some (drop 1 s))
    where
      go : (p : Path) → Some p → placed_in ns (length s) p ≡ placed_from ns (length s) 0 p
      go (c ∷ cs) some = unfold placed_in in refl
      go [] x' = elim x' [ ]

-- a child of node d among the first n nodes
pub child_front : (n : ℕ) (ns : List Node) (d id k : ℕ) (c : List ℕ) → d < n → id ≡ (node_at ns d).id
    → k ≡ find_child (take n ns) id c
    → k ≡ child_at (take n ns) d c
unfolding child_at
child_front n ns d id k c h e q = q ∙ ap (λ (x : ℕ). find_child (take n ns) x c) (e
    ∙ sym (ap (λ (x : Node). x.id) (node_front_lem n ns d h)))

module _ (ns : List Node) (d k : ℕ) (c : List ℕ) (e : k ≡ child_at ns d c) where
  pub child_absent : length ns ≤ k → child_step ns d c ≡ Err 2
  unfolding child_step
  child_absent h = pick_true _ _ _ (le-leb (length ns) (child_at ns d c) (omega arith))

  pub child_there : k < length ns → child_step ns d c ≡ Ok k
  unfolding child_step
  child_there h = pick-false _ _ _ (lt-leb (length ns) (child_at ns d c) (omega arith)) ∙ ap Ok (sym e)
