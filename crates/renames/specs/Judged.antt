-- What a rename is judged to be (SPECIFICATION 7.6, 7.7): 22 where either path's bytes are no path, else the first of
-- its numbers that holds, else what is to be done.
--   renaming_for     by the tables and the bytes of both paths
--   walks_own        once both forms are good; second_own, once the first walk has led to node k in directory `from`;
--                   name_own, once the second has led to directory d and a name
--   by_number        a move, or the number that refuses it
--   Moves r k d at  if r is a move, it is this one
--   Short s         the path is not too long
--   Fits r n s      what a move has: places below n, and a name at the end of the second path's bytes s
-- Assumes nothing.
use Rattle.std.specs.Prelude.{Bool, false, ◌&&◌, ◌||◌, not, List, [], ◌∷◌, ◌++◌, ◌≡◌, ℕ, zero, suc, ◌-◌, ◌<◌, ◌≤◌, eqb}
use Rattle.std.specs.Prelude.{length, drop}
use Rattle.std.proofs.Math.Option.{some, none}
use Rattle.lists.specs.Pick.{pick}
use Rattle.lists.specs.Checks.{Check, decide}
use Rattle.filesystem.specs.Tables.{NAME_BYTES, PATH_BYTES, Node, Tables, node_at, has_bit, present}
use Rattle.filesystem.specs.Paths.{Path, read_path, too_long, child_at, walk, walk_checks, parent_checks, parent_of}
use Rattle.filesystem.specs.Paths.{last_of}
use Rattle.filesystem.specs.Image.{beneath, too_deep}
use Rattle.rules.specs.Calls.{rename}
use Rattle.rules.specs.Rules.{call_checks, same_path}
use Rattle.paths.specs.Parts.{components_of}
use Rattle.path_calls.specs.Judged.{judged}
use Rattle.refusals.specs.Numbers.{Judged}
use Rattle.renames.specs.declared.Move.{Move}
use Rattle.std.specs.Prelude.{Option, Some, None, Ok, Err}

-- node k becomes what the second path has from `at` on, in directory d; where both paths lead to the node, there is no
-- move
abbrev pub moved : (k d at : ℕ) → Judged (Option Move)
moved k d at = Ok (Some (record { node = k; parent = d; start = at }))

-- a call with two paths, by the bytes of each
unfoldable pub judged_both : {A : Type 0} → (ℕ → A) → (Path → Path → List Check) → (Path → Path → A) → (s t : List ℕ)
    → A
judged_both stop checks answer s t = elim (read_path s) [ none ↦ stop 22 | some p ↦ judged stop (checks p) (answer p) t ]

unfoldable pub renaming_for : Tables → (s t : List ℕ) → Judged (Option Move)
renaming_for x s t =
    judged_both Err (λ p q. call_checks x (rename p q))
    (λ p q. pick (same_path x p q) (Ok None) (moved (walk x.nodes 0 p) (parent_of x.nodes 0 q) (length t
    - length (last_of q)))) s t

-- its own numbers, and the answer: the second path leads to place j
module _ (ns : List Node) (k from d j : ℕ) (name : List ℕ) where
  abbrev pub other : Bool → Bool
  other b = not (eqb j k) && b

  abbrev pub own_checks : List Check
  own_checks =
      (16, eqb k 0) ∷ (17, other (present ns j)) ∷ (22, other (beneath ns k d))
      ∷ (13, other (not (has_bit 2 (node_at ns from)) || not (has_bit 2 (node_at ns d))))
      ∷ (36, other (too_deep ns k d name)) ∷ []

  abbrev pub own_answer : ℕ → Judged (Option Move)
  own_answer at = pick (eqb j k) (Ok None) (moved k d at)

-- a move, or the number that refuses it
unfoldable pub by_number : (k d at : ℕ) → ℕ → Judged (Option Move)
by_number k d at zero = moved k d at
by_number k d at (suc b) = Err (suc b)

unfoldable pub name_own : List Node → (k from d at : ℕ) → (name : List ℕ) → Judged (Option Move)
name_own ns k from d at name =
    let j = child_at ns d name in
    decide Err (own_checks ns k from d j name) (own_answer ns k from d j name at)

-- the root's name is taken
unfoldable pub root_name : ℕ → Judged (Option Move)
root_name k = pick (eqb k 0) (Err 16) (Err 17)

unfoldable pub second_own : List Node → (k from : ℕ) → List ℕ → Judged (Option Move)
second_own ns k from t =
    let q = components_of t in
    decide Err (parent_checks ns 0 q ++ own_checks ns k from (parent_of ns 0 q) (walk ns 0 q) (last_of q))
    (own_answer ns k from (parent_of ns 0 q) (walk ns 0 q) (last_of q) (length t - length (last_of q)))

unfoldable pub walks_own : List Node → (s t : List ℕ) → Judged (Option Move)
walks_own ns s t =
    let p = components_of s in
    decide Err (walk_checks ns 0 p) (second_own ns (walk ns 0 p) (parent_of ns 0 p) t)

abbrev pub Moves : Judged (Option Move) → (k d at : ℕ) → Type 0
Moves r k d at = (i j x : ℕ) → r ≡ moved i j x → (i ≡ k) × (j ≡ d) × (x ≡ at)

abbrev pub Short : List ℕ → Type 0
Short s = (length s ≤ PATH_BYTES) × (read_path s ≡ some (components_of s)) × (too_long (components_of s) ≡ false)

abbrev pub Fits : Judged (Option Move) → (n : ℕ) → List ℕ → Type 0
Fits r n t = (i j x : ℕ) → r ≡ moved i j x → (i < n) × (j < n) × (x ≤ length t) × (length (drop x t) ≤ NAME_BYTES)

-- and of both paths, as they go out
abbrev pub FitsBoth : Judged (Option Move) → (n : ℕ) → (s t : List ℕ) → Type 0
FitsBoth r n s t = Fits r n t × ((i j x : ℕ) → r ≡ moved i j x → (length s ≤ PATH_BYTES) × (length t ≤ PATH_BYTES))
