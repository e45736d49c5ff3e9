-- The calls of a read-only guard on what the code reads of them.
--   takes_by_path, takes_parsed    whether a call that was read goes the guard's way; where its path is malformed too
--   form_number                  the number behind 5, 114 and 34 of a call, or 0: 22, 36, 30
--   Taken r s                   r tells by the first bytes that s goes the guard's way; else it is no close, seek or
--                               read
--   Refuses r s                 r is 0 where the call s goes the guard's way, else its number
-- Assumes nothing.
use Rattle.std.specs.Prelude.{◌≡◌, Bool, true, false, not, List, [], ◌∷◌, ◌++◌, ℕ, ◌<◌, ◌≤◌, get_or, Result, Ok, Err}
use Rattle.std.proofs.Math.Option.{Option}
use Rattle.lists.specs.Checks.{decide}
use Rattle.filesystem.specs.Tables.{ID_BYTES}
use Rattle.rules.specs.Calls.{Call, read_call}
use Rattle.rules.specs.Rules.{call_or, is_none}
use Rattle.call_reader.specs.declared.ParsedCall.{ParsedCall}
use Rattle.call_reader.specs.declared.ParsedCall.TheVariants.{ByPath, Close, Seek, Read, Write, Truncate}
use Rattle.call_reader.specs.declared.ParsedCall.TheVariants.{Map, Unmap, Rename}
use Rattle.call_reader.specs.Meaning.{made_by}
use Rattle.paths.specs.declared.PathFault.{PathFault}
use Rattle.paths.specs.declared.PathFault.TheVariants.{Malformed as BadForm, TooLong}
use Rattle.read_only.specs.ReadOnly.{takes_call, length_checks}

-- a kind with a path, whatever the path is
unfoldable pub takes_by_path : (kind number : ℕ) → Bool
takes_by_path k n = takes_call (made_by k n [])

unfoldable pub takes_parsed : ParsedCall → Bool
takes_parsed (ByPath k n start) = takes_by_path k n
takes_parsed (Close h) = true
takes_parsed (Seek h n) = true
takes_parsed (Read h n) = true
takes_parsed (Write h start) = false
takes_parsed (Truncate h n) = false
takes_parsed (Map n) = false
takes_parsed (Unmap a) = false
takes_parsed (Rename second) = false

unfoldable pub number_of_form : Result (Unit {0}) PathFault → ℕ
number_of_form (Err BadForm) = 22
number_of_form (Err TooLong) = 36
number_of_form (Ok tt) = 30

unfoldable pub form_number : Option Call → ℕ
form_number o =
    decide (λ n. n) ((22, is_none o) ∷ (length_checks (call_or o) ++ ((30, not (takes_call (call_or o))) ∷ []))) 0

-- found by the first bytes
pub record Taken (r : Bool) (s : List ℕ) : Type 0 where
  pub taken : r ≡ true → takes_call (call_or (read_call ID_BYTES s)) ≡ true
  pub other : r ≡ false → 4 ≤ get_or s 0 0 → 6 < get_or s 0 0

pub record Refuses (r : ℕ) (s : List ℕ) : Type 0 where
  pub taken : r ≡ 0 → takes_call (call_or (read_call ID_BYTES s)) ≡ true
  pub number : (r ≡ 0 → ⊥) → r ≡ form_number (read_call ID_BYTES s)
