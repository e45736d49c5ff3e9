-- Create's and mkdir's own checks, on the place of the directory and the name.
-- Assumes nothing.
use Rattle.std.specs.Prelude.{not, List, [], ◌∷◌, ◌++◌, ℕ, ◌-◌, leb, length}
use Rattle.lists.specs.Checks.{Check, decide}
use Rattle.filesystem.specs.Tables.{NODES, Node, node_at, has_bit, present}
use Rattle.filesystem.specs.Paths.{child_at, walk, parent_checks, parent_of, last_of}
use Rattle.paths.specs.Parts.{components_of}
use Rattle.refusals.specs.Numbers.{Judged}
use Rattle.paths.specs.declared.Place.{Place}
use Rattle.std.specs.Prelude.{Ok, Err}

-- a new name c in the directory in place d, from `at` on in the path's bytes
abbrev pub name_checks : List Node → (d k : ℕ) → List Check
name_checks ns d k = (17, present ns k) ∷ (13, not (has_bit 2 (node_at ns d))) ∷ (28, leb NODES (length ns)) ∷ []

-- the name in directory d, from `at` on in the path's bytes
abbrev pub new_at : (d at : ℕ) → Judged Place
new_at d at = Ok (record { parent = d; start = at })

unfoldable pub name_own : List Node → (d at : ℕ) → (c : List ℕ) → Judged Place
name_own ns d at c = decide Err (name_checks ns d (child_at ns d c)) (new_at d at)

-- the same from the way to that directory on
unfoldable pub new_own : List Node → List ℕ → Judged Place
new_own ns s =
    let p = components_of s in
    decide Err (parent_checks ns 0 p ++ name_checks ns (parent_of ns 0 p) (walk ns 0 p))
    (new_at (parent_of ns 0 p) (length s - length (last_of p)))
