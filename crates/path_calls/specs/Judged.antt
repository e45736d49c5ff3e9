-- What a call by path is judged to be (SPECIFICATION 7.4 to 7.7): 22 where its bytes are no path, else the first of
-- the call's own numbers that holds, else the places that the call needs.
--   judged                        22, else the first of the call's checks, else what it needs
--   node_for, way_for, place_for     it needs a node; a node and its directory; a directory and a new name
-- Assumes nothing.
use Rattle.std.specs.Prelude.{List, ℕ, ◌-◌, length, Ok, Err}
use Rattle.std.proofs.Math.Option.{some, none}
use Rattle.lists.specs.Checks.{Check, decide}
use Rattle.filesystem.specs.Tables.{Tables}
use Rattle.filesystem.specs.Paths.{Path, read_path, walk, parent_of, last_of}
use Rattle.rules.specs.Calls.{Call}
use Rattle.rules.specs.Rules.{call_checks}
use Rattle.refusals.specs.Numbers.{Judged}
use Rattle.paths.specs.declared.Place.{Place}
use Rattle.path_calls.specs.declared.Way.{Way}
use Rattle.path_calls.specs.Ways.{at_way}

unfoldable pub judged : {A : Type 0} → (ℕ → A) → (Path → List Check) → (Path → A) → List ℕ → A
judged stop checks answer s = elim (read_path s) [ none ↦ stop 22 | some p ↦ decide stop (checks p) (answer p) ]

module _ (t : Tables) (s : List ℕ) (make : Path → Call) where
  -- a call on a node that is there: its place
  unfoldable pub node_for : Judged ℕ
  node_for = judged Err (λ p. call_checks t (make p)) (λ p. Ok (walk t.nodes 0 p)) s

  -- the same, and the place of the directory that holds it; the root holds itself
  unfoldable pub way_for : Judged Way
  way_for = judged Err (λ p. call_checks t (make p)) (λ p. at_way (walk t.nodes 0 p) (parent_of t.nodes 0 p)) s

  -- a call on a name that is new: the place of its directory, and where the name starts in the path's bytes
  unfoldable pub place_for : Judged Place
  place_for = judged Err (λ p. call_checks t (make p)) (λ p. Ok (record {
    parent = parent_of t.nodes 0 p;
    start = length s - length (last_of p);
  })) s
