-- What a walk answers: a node's place, or the number that stopped it; for a call that makes or takes away a name, the
-- place of the directory that holds the last component.
--   walked        the place of the node at the end of a path, or the number that stops
--   placed        the place of the directory of the last component, and where that begins; none for the root
--   child_step    one step from a directory
-- Assumes nothing.
use Rattle.std.specs.Prelude.{List, [], ◌∷◌, ℕ, ◌-◌, length, Option, Some, None, Ok, Err}
use Rattle.lists.specs.Pick.{pick}
use Rattle.lists.specs.Checks.{decide}
use Rattle.filesystem.specs.Tables.{Node, absent}
use Rattle.filesystem.specs.Paths.{Path, child_at, walk, walk_checks, search_checks, parent_checks, parent_of, last_of}
use Rattle.paths.specs.Parts.{components_of}
use Rattle.refusals.specs.Numbers.{Judged}
use Rattle.paths.specs.declared.Place.{Place}

-- from the root
unfoldable pub walked : List Node → Path → Judged ℕ
walked ns p = decide Err (walk_checks ns 0 p) (Ok (walk ns 0 p))

-- the last component in directory d, from `a` on in the path's bytes
abbrev pub at_place : (d a : ℕ) → Judged (Option Place)
at_place d a = Ok (Some (record { parent = d; start = a }))

-- from the directory in place d: the last component stands at the end of the path's bytes, of which there are n
unfoldable pub placed_from : List Node → ℕ → ℕ → Path → Judged (Option Place)
placed_from ns n d p = decide Err (parent_checks ns d p) (at_place (parent_of ns d p) (n - length (last_of p)))

unfoldable pub placed_in : List Node → ℕ → Path → Judged (Option Place)
placed_in ns n [] = Ok None
placed_in ns n (c ∷ cs) = placed_from ns n 0 (c ∷ cs)

-- a path by its bytes
unfoldable pub placed : List Node → List ℕ → Judged (Option Place)
placed ns s = placed_in ns (length s) (components_of s)

-- 0 where the directory in place d may be searched, else the number
unfoldable pub search_number : List Node → ℕ → ℕ
search_number ns d = decide (λ n. n) (search_checks ns d) 0

-- the child with a name of the directory in place d, or 2
unfoldable pub child_step : List Node → ℕ → List ℕ → Judged ℕ
child_step ns d c = pick (absent ns (child_at ns d c)) (Err 2) (Ok (child_at ns d c))
