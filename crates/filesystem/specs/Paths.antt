-- Paths, their form and lengths (SPECIFICATION 3), and the walk along one (SPECIFICATION 7.6).
-- Assumes nothing.
use Rattle.std.specs.Prelude.{Bool, ◌&&◌, ◌||◌, not, List, [], ◌∷◌, ◌++◌, ℕ, eqb, ltb, length}
use Rattle.std.proofs.Math.Option.{Option, some, none}
use Rattle.lists.specs.Pick.{pick}
use Rattle.lists.specs.Equal.{equal}
use Rattle.lists.specs.Search.{every, any}
use Rattle.lists.specs.Checks.{Check}
use Rattle.filesystem.specs.Tables.{NAME_BYTES, PATH_BYTES, Node, node_at, is_directory, has_bit, find_child, absent}

-- a path is its components: none for `/`
abbrev pub Path : Type 0
Path = List (List ℕ)

abbrev pub slash : ℕ
slash = 47

abbrev pub dot : ℕ
dot = 46

-- components, each behind one `/` (SPECIFICATION 3.1)
unfoldable pub joined : Path → List ℕ
joined [] = []
joined (c ∷ cs) = slash ∷ (c ++ joined cs)

unfoldable pub path_bytes : Path → List ℕ
path_bytes [] = slash ∷ []
path_bytes (c ∷ cs) = joined (c ∷ cs)

-- at least 1 byte, none 0 or `/`, not `.` or `..` (SPECIFICATION 3.2)
unfoldable pub component_form : List ℕ → Bool
component_form c =
    not (equal c []) && (not (equal c (dot ∷ [])) && (not (equal c (dot ∷ dot ∷ [])) && every (λ b. not (eqb b 0 || eqb b slash)) c))

-- the parts between slashes
unfoldable pub onto : ℕ → List (List ℕ) → List (List ℕ)
onto b [] = (b ∷ []) ∷ []
onto b (c ∷ cs) = (b ∷ c) ∷ cs

unfoldable pub split : List ℕ → List (List ℕ)
split [] = [] ∷ []
split (b ∷ s) = pick (eqb b slash) ([] ∷ split s) (onto b (split s))

-- the form, lengths apart: nothing where it is not kept (22)
unfoldable pub after_slash : List ℕ → Option Path
after_slash [] = some []
after_slash (b ∷ s) = pick (every component_form (split (b ∷ s))) (some (split (b ∷ s))) none

unfoldable pub read_path : List ℕ → Option Path
read_path [] = none
read_path (b ∷ s) = pick (eqb b slash) (after_slash s) none

-- a component over 32 or a path over 255 (SPECIFICATION 3.3: 36)
unfoldable pub too_long : Path → Bool
too_long p = any (λ c. ltb NAME_BYTES (length c)) p || ltb PATH_BYTES (length (path_bytes p))

-- The walk. Places are those of nodes; the root's is 0.
unfoldable pub child_at : List Node → ℕ → List ℕ → ℕ
child_at ns d c = find_child ns (node_at ns d).id c

unfoldable pub walk : List Node → ℕ → Path → ℕ
walk ns d [] = d
walk ns d (c ∷ cs) = walk ns (child_at ns d c) cs

-- at each component: 20, 13, 2 (SPECIFICATION 7.6)
abbrev pub search_checks : List Node → ℕ → List Check
search_checks ns d = (20, not (is_directory (node_at ns d))) ∷ (13, not (has_bit 1 (node_at ns d))) ∷ []

unfoldable pub walk_checks : List Node → ℕ → Path → List Check
walk_checks ns d [] = []
walk_checks ns d (c ∷ cs) = search_checks ns d ++ ((2, absent ns (child_at ns d c)) ∷ walk_checks ns (child_at ns d c) cs)

-- for create and mkdir, whose last component may be missing
unfoldable pub parent_checks : List Node → ℕ → Path → List Check
parent_checks ns d [] = []
parent_checks ns d (c ∷ []) = search_checks ns d
parent_checks ns d (c ∷ c' ∷ cs) = search_checks ns d ++ ((2, absent ns (child_at ns d c)) ∷ parent_checks ns (child_at ns d c) (c' ∷ cs))

-- the place of the directory that holds the last component, and that component
unfoldable pub parent_of : List Node → ℕ → Path → ℕ
parent_of ns d [] = d
parent_of ns d (c ∷ []) = d
parent_of ns d (c ∷ c' ∷ cs) = parent_of ns (child_at ns d c) (c' ∷ cs)

unfoldable pub last_of : Path → List ℕ
last_of [] = []
last_of (c ∷ []) = c
last_of (c ∷ c' ∷ cs) = last_of (c' ∷ cs)
