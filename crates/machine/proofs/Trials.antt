-- The trials with ● (SPECIFICATION 11.1) and the desk's session (12.6), as one table over the definitions: each row the events and what they come to.
-- The digest is left open: no row hangs on its value. The width of ids is the one that is delivered.
use Rattle.std.specs.Prelude.{◌≡◌, List, [], ◌∷◌, ◌++◌, map, ℕ, replicate}
use Rattle.std.proofs.Math.Path.{refl}
use Rattle.lists.specs.Pick.{pick}
use Rattle.lists.specs.Equal.{equal}
use Rattle.lists.specs.Cells.{tab}
use Rattle.lists.specs.Search.{every, any, place, select, without}
use Rattle.lists.specs.Rearranged.{is_rearranged}
use Rattle.lists.specs.Signed.{signed}
use Rattle.lists.specs.LittleEndian.{encode, decode}
use Rattle.lists.specs.Form.{bind, front, get₂, get_as, get_all, ended, whole}
use Rattle.lists.specs.Checks.{decide}
use Rattle.filesystem.specs.Tables.{ID_BYTES}
use Rattle.filesystem.specs.Tables.{pages_for, page_total, node_at, open_at, find_id, find_child, children, find_handle, find_descriptor, set_mode, set_size, set_cursor}
use Rattle.filesystem.specs.Rights.{cover_table, covers}
use Rattle.filesystem.specs.Paths.{joined, path_bytes, component_form, onto, split, after_slash, read_path, too_long, child_at, walk, walk_checks, parent_checks, parent_of, last_of}
use Rattle.rules.specs.Calls.{call_bytes, by_path, by_number_and_path, by_handle, by_handle_and_number, by_handle_and_bytes, by_number, read_fields, read_call}
use Rattle.rules.specs.Pages.{page_at, overlay, first, last, fetches, fill, size_sent, cuts, size_after, cursor_after, number_of}
use Rattle.rules.specs.Requests.{store_length, close_request, fetch_request, store_request}
use Rattle.rules.specs.Skeleton.{Config, Event, call, reply, Answer, done, ask, refused, stopped, answer_length, request_length}
use Rattle.rules.specs.Rules.{no_room, call_checks, read_action, call_action, is_number, is_descriptor, entry_form, same_entry, is_listing, reply_checks, reply_action, says_full, is_full, map_checks, map_reasons, reasons, is_idle, call_or, is_none, event_checks, event_action, judge}
use Rattle.machine.specs.Machine.{read_on, finish_change, pages_stored, ask_store, on_page, pages_from, apply, step, fresh, outcomes, guard}

-- the letters c and r of the desk, with buffers long enough
abbrev c : List ℕ → Event
c s = call s 9690 1037

abbrev r : List ℕ → Event
r s = reply s 9690 1037

-- a file `/a` of id 2 and descriptor 0, open for reading and writing
abbrev opened : List Event
opened = c (1 ∷ 7 ∷ 47 ∷ 97 ∷ []) ∷ r (2 ∷ 0 ∷ 0 ∷ 0 ∷ []) ∷ c (3 ∷ 3 ∷ 47 ∷ 97 ∷ []) ∷ r (0 ∷ 0 ∷ 0 ∷ 0 ∷ []) ∷ []

abbrev opened_answers : List Answer
opened_answers = ask (1 ∷ 7 ∷ 47 ∷ 97 ∷ []) ∷ done 2 [] ∷ ask (3 ∷ 3 ∷ 47 ∷ 97 ∷ []) ∷ done 2 [] ∷ []

-- the bytes 1, 2, 3 written into it
abbrev wrote : List Event
wrote = opened ++ (c (7 ∷ 2 ∷ 0 ∷ 0 ∷ 0 ∷ 1 ∷ 2 ∷ 3 ∷ []) ∷ r (0 ∷ 4 ∷ 0 ∷ 0 ∷ []) ∷ [])

abbrev wrote_answers : List Answer
wrote_answers =
    opened_answers
    ++ (ask (7 ∷ 0 ∷ 0 ∷ 0 ∷ 0 ∷ 0 ∷ 0 ∷ 0 ∷ 0 ∷ 3 ∷ 0 ∷ 0 ∷ 0 ∷ 1 ∷ 2 ∷ 3 ∷ replicate 1021 0) ∷ done 3 [] ∷ [])

-- two children `/a` and `/b` of the root, ids 2 and 3; a listing is asked
abbrev two_children : List Event
two_children =
    c (1 ∷ 7 ∷ 47 ∷ 97 ∷ []) ∷ r (2 ∷ 0 ∷ 0 ∷ 0 ∷ []) ∷ c (2 ∷ 7 ∷ 47 ∷ 98 ∷ []) ∷ r (3 ∷ 0 ∷ 0 ∷ 0 ∷ []) ∷ c (12 ∷ 47 ∷ []) ∷ []

abbrev two_children_answers : List Answer
two_children_answers = ask (1 ∷ 7 ∷ 47 ∷ 97 ∷ []) ∷ done 2 [] ∷ ask (2 ∷ 7 ∷ 47 ∷ 98 ∷ []) ∷ done 3 [] ∷ ask (12 ∷ 47 ∷ []) ∷ []

abbrev entry_a : List ℕ
entry_a = 2 ∷ 0 ∷ 0 ∷ 0 ∷ 1 ∷ 1 ∷ 97 ∷ []

abbrev entry_b : List ℕ
entry_b = 3 ∷ 0 ∷ 0 ∷ 0 ∷ 2 ∷ 1 ∷ 98 ∷ []

abbrev Row : Type 0
Row = List Event × List Answer

abbrev pub table : List Row
table =
    -- create mode 7 accepted
    (c (1 ∷ 7 ∷ 47 ∷ 97 ∷ []) ∷ [], ask (1 ∷ 7 ∷ 47 ∷ 97 ∷ []) ∷ [])
    -- 8 gives 22
    ∷ (c (1 ∷ 8 ∷ 47 ∷ 97 ∷ []) ∷ [], refused 22 ∷ [])
    -- create `/` 17
    ∷ (c (1 ∷ 7 ∷ 47 ∷ []) ∷ [], refused 17 ∷ [])
    -- a name of 32 accepted, of 33 gives 36
    ∷ (c (1 ∷ 7 ∷ 47 ∷ replicate 32 97) ∷ [], ask (1 ∷ 7 ∷ 47 ∷ replicate 32 97) ∷ [])
    ∷ (c (1 ∷ 7 ∷ 47 ∷ replicate 33 97) ∷ [], refused 36 ∷ [])
    -- seek to the size accepted; one more 22
    ∷ (
      wrote ++ (c (5 ∷ 2 ∷ 0 ∷ 0 ∷ 0 ∷ 3 ∷ 0 ∷ 0 ∷ 0 ∷ 0 ∷ 0 ∷ 0 ∷ 0 ∷ []) ∷ c (5 ∷ 2 ∷ 0 ∷ 0 ∷ 0 ∷ 4 ∷ 0 ∷ 0 ∷ 0 ∷ 0 ∷ 0 ∷ 0 ∷ 0 ∷ []) ∷ []),
      wrote_answers ++ (done 3 [] ∷ refused 22 ∷ []),
    )
    -- create answered id 1: stop 3
    ∷ (c (1 ∷ 7 ∷ 47 ∷ 97 ∷ []) ∷ r (1 ∷ 0 ∷ 0 ∷ 0 ∷ []) ∷ [], ask (1 ∷ 7 ∷ 47 ∷ 97 ∷ []) ∷ stopped 3 ∷ [])
    -- descriptor 1,023 accepted, 1,024 stop 4
    ∷ (
      c (1 ∷ 7 ∷ 47 ∷ 97 ∷ []) ∷ r (2 ∷ 0 ∷ 0 ∷ 0 ∷ []) ∷ c (3 ∷ 1 ∷ 47 ∷ 97 ∷ []) ∷ r (255 ∷ 3 ∷ 0 ∷ 0 ∷ []) ∷ [],
      ask (1 ∷ 7 ∷ 47 ∷ 97 ∷ []) ∷ done 2 [] ∷ ask (3 ∷ 1 ∷ 47 ∷ 97 ∷ []) ∷ done 2 [] ∷ [],
    )
    ∷ (
      c (1 ∷ 7 ∷ 47 ∷ 97 ∷ []) ∷ r (2 ∷ 0 ∷ 0 ∷ 0 ∷ []) ∷ c (3 ∷ 1 ∷ 47 ∷ 97 ∷ []) ∷ r (0 ∷ 4 ∷ 0 ∷ 0 ∷ []) ∷ [],
      ask (1 ∷ 7 ∷ 47 ∷ 97 ∷ []) ∷ done 2 [] ∷ ask (3 ∷ 1 ∷ 47 ∷ 97 ∷ []) ∷ stopped 4 ∷ [],
    )
    -- two children listed either way round accepted; one listed twice, stop 7
    ∷ (two_children ++ (r (entry_a ++ entry_b) ∷ []), two_children_answers ++ (done 2 (entry_a ++ entry_b) ∷ []))
    ∷ (two_children ++ (r (entry_b ++ entry_a) ∷ []), two_children_answers ++ (done 2 (entry_b ++ entry_a) ∷ []))
    ∷ (two_children ++ (r (entry_a ++ entry_a) ∷ []), two_children_answers ++ (stopped 7 ∷ []))
    -- a page of 1,023 bytes: stop 1
    ∷ (
      wrote
          ++ (c (5 ∷ 2 ∷ 0 ∷ 0 ∷ 0 ∷ 0 ∷ 0 ∷ 0 ∷ 0 ∷ 0 ∷ 0 ∷ 0 ∷ 0 ∷ []) ∷ c (6 ∷ 2 ∷ 0 ∷ 0 ∷ 0 ∷ 5 ∷ 0 ∷ 0 ∷ 0 ∷ [])
          ∷ r (1 ∷ 2 ∷ 3 ∷ replicate 1020 0) ∷ []),
      wrote_answers ++ (done 0 [] ∷ ask (6 ∷ 0 ∷ 0 ∷ 0 ∷ 0 ∷ 0 ∷ 0 ∷ 0 ∷ 0 ∷ []) ∷ stopped 1 ∷ []),
    )
    -- the desk's session
    ∷ (
      c (1 ∷ 7 ∷ 47 ∷ 97 ∷ []) ∷ r (2 ∷ 0 ∷ 0 ∷ 0 ∷ []) ∷ c (3 ∷ 1 ∷ 47 ∷ 97 ∷ []) ∷ r (0 ∷ 0 ∷ 0 ∷ 0 ∷ [])
          ∷ c (6 ∷ 2 ∷ 0 ∷ 0 ∷ 0 ∷ 5 ∷ 0 ∷ 0 ∷ 0 ∷ []) ∷ c (4 ∷ 2 ∷ 0 ∷ 0 ∷ 0 ∷ []) ∷ r (255 ∷ 255 ∷ 255 ∷ 255 ∷ []) ∷ c (9 ∷ 47 ∷ 97 ∷ []) ∷ [],
      ask (1 ∷ 7 ∷ 47 ∷ 97 ∷ []) ∷ done 2 [] ∷ ask (3 ∷ 1 ∷ 47 ∷ 97 ∷ []) ∷ done 2 []
          ∷ done 0 [] ∷ ask (4 ∷ 0 ∷ 0 ∷ 0 ∷ 0 ∷ []) ∷ stopped 2 ∷ refused 5 ∷ [],
    )
    ∷ []

module _ (digest : List ℕ → List ℕ) where
  abbrev config : Config
  config = record { digest = digest; width = ID_BYTES }

  pub answers : List Event → List Answer
  answers es = map (λ o. o.answer) (outcomes config (guard config) (fresh config (guard config)) es)

  pub trials : map (λ row. answers row.0) table ≡ map (λ row. row.1) table
  unfolding answers outcomes step judge event_checks event_action call_checks call_action read_action reply_checks reply_action says_full is_full is_idle call_or is_none decide pick no_room apply read_on finish_change pages_stored ask_store on_page pages_from answer_length request_length store_length signed is_number is_descriptor entry_form same_entry is_rearranged is_listing close_request fetch_request store_request page_at overlay first last fetches fill size_sent cuts size_after cursor_after number_of call_bytes by_path by_number_and_path by_handle by_handle_and_number by_handle_and_bytes read_fields read_call joined path_bytes component_form onto split after_slash read_path too_long child_at walk walk_checks parent_checks parent_of last_of cover_table covers pages_for page_total node_at open_at find_id find_child children find_handle find_descriptor set_mode set_size set_cursor bind front get₂ get_as get_all ended whole encode decode every any place select without tab equal map_checks map_reasons reasons by_number
  trials = refl
