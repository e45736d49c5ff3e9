-- What a call by handle is judged to be: the first of the call's numbers that holds, else the places of the open file
-- and of its node.
--   handled_for t h c            the call's first number, or the places of the open file and of its node
--   Judgement                   the same of the tables in a memory
--   lacks_right, found_with,      what is asked of an open file: a right; a position within its file
--   end_checked
-- Assumes nothing.
use Rattle.std.specs.Prelude.{◌≡◌, Bool, true, ◌||◌, not, List, [], ◌∷◌, ℕ, ◌/◌, ◌%◌, ◌<◌, eqb, ltb, take, Ok, Err}
use Rattle.lists.specs.Checks.{decide}
use Rattle.filesystem.specs.Tables.{Node, OpenFile, Tables, node_at, open_at, absent, find_id, find_handle}
use Rattle.filesystem.specs.Image.{sound_nodes}
use Rattle.memory.specs.Layout.{mem_of}
use Rattle.tables.specs.View.{tables_in}
use Rattle.rules.specs.Calls.{Call}
use Rattle.rules.specs.Rules.{open_place, file_place, call_checks}
use Rattle.refusals.specs.Numbers.{Judged}
use Rattle.handle_calls.specs.declared.Handled.{Handled}

-- the open file in place k, and its node in place j
abbrev pub at_file : (k j : ℕ) → Judged Handled
at_file k j = Ok (record { opened = k; node = j })

unfoldable pub handled_for : Tables → (handle : ℕ) → Call → Judged Handled
handled_for t h c = decide Err (call_checks t c) (at_file (open_place t h) (file_place t h))

-- The same of the tables in a memory, whose nodes are sound at some width of ids. Whatever they are, an open file that
-- is found is one of them.
pub record Judgement (m : List ℕ) (n o handle : ℕ) (q : Call) (r : Judged Handled) : Type 0 where
  pub judged : (w : ℕ) → sound_nodes w (take n (mem_of m).nodes) ≡ true → r ≡ handled_for (tables_in n o (mem_of m)) handle
      q
  pub there : (i j : ℕ) → r ≡ at_file i j → i < o

-- no open file with this right stands in place k
unfoldable pub lacks_right : List OpenFile → (right k : ℕ) → Bool
lacks_right os right k = absent os k || not (eqb ((open_at os k).rights / right % 2) 1)

-- the place of the open file with this handle and this right
unfoldable pub found_with : List OpenFile → (handle right : ℕ) → Judged ℕ
found_with os h right = decide Err ((9, lacks_right os right (find_handle os h)) ∷ []) (Ok (find_handle os h))

-- what remains for the open file in place k: whether the position is past its file's end
unfoldable pub end_checked : List Node → (handle k position : ℕ) → Judged Handled
end_checked ns h k p = decide Err ((22, ltb (node_at ns (find_id ns h)).size p) ∷ []) (at_file k (find_id ns h))
