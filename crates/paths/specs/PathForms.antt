-- The form of a path on its bytes: malformed (22), else too long (36), else good. What each part between slashes adds
-- to it.
-- Assumes nothing.
use Rattle.std.specs.Prelude.{Bool, ◌&&◌, ◌||◌, not, List, [], ◌∷◌, ℕ, ltb, length}
use Rattle.std.proofs.Math.Option.{Option, some, none}
use Rattle.lists.specs.Pick.{pick}
use Rattle.lists.specs.Equal.{equal}
use Rattle.lists.specs.Search.{every, any}
use Rattle.filesystem.specs.Tables.{NAME_BYTES}
use Rattle.filesystem.specs.Paths.{Path, dot, component_form}
use Rattle.filesystem.specs.Paths.{read_path, too_long}
use Rattle.std.specs.Prelude.{Result, Ok, Err}
use Rattle.refusals.specs.declared.Refusal.{Refusal}
use Rattle.refusals.specs.declared.Refusal.TheVariants.{Invalid, TooLong as long_path}
use Rattle.paths.specs.declared.PathFault.{PathFault}
use Rattle.paths.specs.declared.PathFault.TheVariants.{Malformed, TooLong}

unfoldable pub length_form : Bool → Result (Unit {0}) PathFault
length_form long = pick long (Err TooLong) (Ok tt)

unfoldable pub path_form : Option Path → Result (Unit {0}) PathFault
path_form none = Err Malformed
path_form (some p) = length_form (too_long p)

unfoldable pub form_of : List ℕ → Result (Unit {0}) PathFault
form_of s = path_form (read_path s)

-- of two paths of one call: malformed before long, long before good
unfoldable pub worse : Result (Unit {0}) PathFault → Result (Unit {0}) PathFault → Result (Unit {0}) PathFault
worse (Err Malformed) g = Err Malformed
worse (Err TooLong) (Err Malformed) = Err Malformed
worse (Err TooLong) (Err TooLong) = Err TooLong
worse (Err TooLong) (Ok tt) = Err TooLong
worse (Ok tt) g = g

abbrev pub forms_of : List ℕ → List ℕ → Result (Unit {0}) PathFault
forms_of s t = worse (form_of s) (form_of t)

-- over 32 bytes
abbrev pub is_long : List ℕ → Bool
is_long c = ltb NAME_BYTES (length c)

-- what parts make, where something long was met before or not
unfoldable pub parts_form : Bool → Path → Result (Unit {0}) PathFault
parts_form long cs = pick (every component_form cs) (length_form (long || any is_long cs)) (Err Malformed)

-- neither empty nor `.` nor `..`
unfoldable pub is_name : List ℕ → Bool
is_name c = not (equal c []) && (not (equal c (dot ∷ [])) && not (equal c (dot ∷ dot ∷ [])))

-- why a call with such a path is refused
abbrev pub refusal_for : PathFault → Refusal
refusal_for Malformed = Invalid
refusal_for TooLong = long_path
