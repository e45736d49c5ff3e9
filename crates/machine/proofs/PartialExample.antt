-- What PartialRuns asks for is met: from a fresh guard a file is made and opened, 1,025 bytes are written to it, and the second page meets a full
-- disk. The digest is left open: nothing hangs on its value.
-- Assumes nothing.
use Rattle.std.proofs.Math.Path.{refl}
use Rattle.std.specs.Prelude.{List, [], ◌∷◌, ℕ, zero, suc, replicate}
use Rattle.lists.specs.Pick.{pick}
use Rattle.lists.specs.Equal.{equal}
use Rattle.lists.specs.Search.{every, any, place}
use Rattle.lists.specs.Signed.{signed}
use Rattle.lists.specs.LittleEndian.{encode, decode}
use Rattle.lists.specs.Form.{bind, front}
use Rattle.lists.specs.Checks.{decide}
use Rattle.filesystem.specs.Tables.{ID_BYTES, pages_for, page_total, node_at, open_at, find_id, find_child, find_handle, find_descriptor, set_size}
use Rattle.filesystem.specs.Rights.{cover_table, covers}
use Rattle.filesystem.specs.Paths.{joined, path_bytes, component_form, onto, split, after_slash, read_path, too_long, child_at, walk, walk_checks, parent_checks, parent_of, last_of}
use Rattle.rules.specs.Calls.{call_bytes, by_path, by_number_and_path, by_handle_and_bytes, read_fields, read_call}
use Rattle.rules.specs.Pages.{page_at, first, last, fetches}
use Rattle.rules.specs.Requests.{store_length}
use Rattle.rules.specs.Skeleton.{Config, Event, call, reply, answer_length, request_length}
use Rattle.rules.specs.Rules.{no_room, call_checks, call_action, is_number, is_descriptor, reply_checks, reply_action, says_full, is_full, map_checks, map_reasons, reasons, is_idle, call_or, is_none, event_checks, event_action, judge}
use Rattle.machine.specs.Machine.{ask_store, on_page, pages_from, apply, step, fresh, outcomes, final, guard, State}
use native.Mathlib.Omega.{arith}
use Rattle.lists.specs.All.{Bytes, both, none}
use Rattle.machine.proofs.GivenUpRuns.{is_ask}
use Rattle.machine.proofs.PartialRuns.{MeetsFull}

nines : (n : ℕ) → Bytes (replicate n 9)
nines zero = none
nines (suc n) = both {x = 9} (omega arith) (nines n)

module _ (digest : List ℕ → List ℕ) where
  abbrev config : Config
  config = record { digest = digest; width = ID_BYTES }

  -- the least buffers
  abbrev a : ℕ
  a = answer_length config

  abbrev b : ℕ
  b = request_length config

  abbrev c : List ℕ → Event
  c s = call s a b

  abbrev r : List ℕ → Event
  r s = reply s a b

  -- `/a` of id 2 and descriptor 0, open for reading and writing
  abbrev opened : State (guard config)
  opened =
      final config (guard config) (fresh config (guard config))
      (c (1 ∷ 7 ∷ 47 ∷ 97 ∷ []) ∷ r (2 ∷ 0 ∷ 0 ∷ 0 ∷ []) ∷ c (3 ∷ 3 ∷ 47 ∷ 97 ∷ []) ∷ r (0 ∷ 0 ∷ 0 ∷ 0 ∷ []) ∷ [])

  pub met : MeetsFull config (guard config) opened 2 (replicate 1025 9) a b 1 [] (r (0 ∷ 4 ∷ 0 ∷ 0 ∷ [])) [] (228 ∷ 255 ∷ 255 ∷ 255 ∷ []) a b
  unfolding outcomes final is_ask step judge event_checks event_action call_checks call_action reply_checks reply_action says_full is_full is_idle call_or is_none decide pick no_room apply ask_store on_page pages_from answer_length request_length store_length signed is_number is_descriptor page_at first last fetches call_bytes by_path by_number_and_path by_handle_and_bytes read_fields read_call joined path_bytes component_form onto split after_slash read_path too_long child_at walk walk_checks parent_checks parent_of last_of cover_table covers pages_for page_total node_at open_at find_id find_child find_handle find_descriptor set_size bind front encode decode every any place equal map_checks map_reasons reasons
  met = record {
    fits = (omega arith, (omega arith, nines 1025));
    from = omega arith;
    to = omega arith;
    asks = both refl (both refl none);
    stores = refl;
    meets = refl;
    full = refl;
    answer = omega arith;
    request = omega arith;
  }
