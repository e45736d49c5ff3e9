-- How rows are evaluated: on the guard and on the reference tree, by computation.
use Rattle.std.specs.Prelude.{Bool, false, ◌&&◌, ℕ, suc, eqb, length, take}
use Rattle.std.proofs.Math.Bool.{true}
use mathlib.Core.List.{List, [], ◌∷◌, map}
use Rattle.std.proofs.Math.Option.{some, none}
use Prim.Native.String.{String}
use Rattle.lists.specs.Pick.{pick}
use Rattle.lists.specs.Equal.{equal}
use Rattle.lists.specs.Cells.{tab}
use Rattle.lists.specs.Search.{every, any, unique, place, select, without}
use Rattle.lists.specs.Rearranged.{is_rearranged}
use Rattle.lists.specs.Signed.{signed}
use Rattle.lists.specs.LittleEndian.{encode, decode}
use Rattle.lists.specs.Form.{bind, front, get₂, get_fixed, get_as, put_all, get_all, ended, whole}
use Rattle.lists.specs.Checks.{decide}
use Rattle.filesystem.specs.Tables.{Node, OpenFile, pages_for, page_total, node_at, open_at, find_id, find_child, children, find_handle, find_descriptor, set_mode, set_size, set_cursor}
use Rattle.filesystem.specs.Tables.{renamed}
use Rattle.filesystem.specs.Rights.{cover_table, covers}
use Rattle.filesystem.specs.Paths.{joined, path_bytes, component_form, onto, split, after_slash, read_path, too_long, child_at, walk, walk_checks, parent_checks, parent_of, last_of}
use Rattle.filesystem.specs.Image.{layout_of, maker_bytes, node_form, image_form, flatten, divide, climb, path_length, lies}
use Rattle.filesystem.specs.Image.{in_limits, sound_nodes, sound, print, records_length, image_length}
use Rattle.filesystem.specs.Image.{parse, beneath, too_deep}
use Rattle.filesystem.specs.Digests.{replaced}
use Rattle.rules.specs.Calls.{call_bytes, by_path, by_number_and_path, by_handle, by_handle_and_number, by_handle_and_bytes, read_fields, read_call, by_number}
use Rattle.rules.specs.Calls.{by_two_paths}
use Rattle.rules.specs.Pages.{page_at, page_of, bytes_at, resized, splice, overlay, page_part, truncating, first, last, fetches, fill, size_sent, cuts, bytes_after, size_after, cursor_after, number_of, before}
use Rattle.rules.specs.Requests.{store_length, close_request, fetch_request, store_request, cut_request, idle}
use Rattle.filesystem.specs.MemoryMaps.{Map}
use Rattle.rules.specs.MapRules.{is_map_size, map_faults, find_map, overlaps, maps_after, map_number}
use Rattle.rules.specs.Rules.{no_room, call_checks, read_action, call_action, is_number, is_descriptor, entry_form, same_entry, is_listing, stat_bytes, reply_checks, reply_action, is_full, says_full, full_action, is_idle, call_or, image_or, is_none, event_checks, event_action, judge, map_checks, map_reasons, reasons}
use Rattle.rules.specs.Skeleton.{Event, answer_length, request_length, Answer, done, ask, refused, stopped, Outcome}
use Rattle.machine.specs.Machine.{Store, State, Result, read_on, finish_change, pages_stored, ask_store, on_page, pages_from}
use Rattle.machine.specs.Machine.{apply, step, zero_digest, guard}
use Rattle.read_only.specs.ReadOnly.{takes_call, length_checks, form_checks, read_only_checks, read_only_step}
use Rattle.machine.specs.Tree.{tree, digests_of, lookup, go_back}
use Rattle.rule_examples.specs.Bytes.{bytes_of, times, pages_of, pages, ends, digest, config}
use Rattle.rule_examples.specs.Given.{Item, Given, concatenated, bytes_in, digests_in}
use Rattle.rule_examples.specs.Rows.{placed, its_bytes, Expect, is_done, is_saved, asks, begins, carries, is_refused, is_stopped, Line, ◌⇒◌, holds, lives, Row}
use Rattle.rule_examples.specs.Events.{lent}

-- 1,037 bytes, of which i are passed, with these at these places: in one pass, since a page is costly to make
unfoldable pub scan : ℕ → List ℕ → List (ℕ × ℕ) → Bool
scan i [] [] = eqb i 1037
scan i [] (p ∷ ps) = false
scan i (b ∷ s) [] = scan (suc i) s []
scan i (b ∷ s) (p ∷ ps) = elim (eqb i p.0) [ true ↦ eqb b p.1 && scan (suc i) s ps | false ↦ scan (suc i) s (p ∷ ps) ]

-- does an answer meet what was expected?
unfoldable pub answers : Expect → Answer → Bool
answers (is_done n b) (done m c) = eqb n m && equal b c
answers (is_done n b) (ask q) = false
answers (is_done n b) (refused m) = false
answers (is_done n b) (stopped m) = false
answers (is_saved b) (done m c) = eqb (length b) m && equal b c
answers (is_saved b) (ask q) = false
answers (is_saved b) (refused m) = false
answers (is_saved b) (stopped m) = false
answers (asks b) (done m c) = false
answers (asks b) (ask q) = equal b q
answers (asks b) (refused m) = false
answers (asks b) (stopped m) = false
answers (begins b) (done m c) = false
answers (begins b) (ask q) = equal b (take (length b) q)
answers (begins b) (refused m) = false
answers (begins b) (stopped m) = false
answers (carries ps) (done m c) = false
answers (carries ps) (ask q) = scan 0 q ps
answers (carries ps) (refused m) = false
answers (carries ps) (stopped m) = false
answers (is_refused n) (done m c) = false
answers (is_refused n) (ask q) = false
answers (is_refused n) (refused m) = eqb n m
answers (is_refused n) (stopped m) = false
answers (is_stopped n) (done m c) = false
answers (is_stopped n) (ask q) = false
answers (is_stopped n) (refused m) = false
answers (is_stopped n) (stopped m) = eqb n m

-- only a save gives a digest, its image's
unfoldable pub digest_for : Expect → List ℕ
digest_for (is_done n b) = []
digest_for (is_saved b) = digest b
digest_for (asks b) = []
digest_for (begins b) = []
digest_for (carries ps) = []
digest_for (is_refused n) = []
digest_for (is_stopped n) = []

abbrev pub meets : Expect → Outcome → Bool
meets x o = answers x o.answer && equal (digest_for x) o.digest

-- lists alike, element by element
unfoldable pub alike : {A B : Type 0} → (A → B → Bool) → List A → List B → Bool
alike same [] [] = true
alike same [] (y ∷ ys) = false
alike same (x ∷ xs) [] = false
alike same (x ∷ xs) (y ∷ ys) = same x y && alike same xs ys

abbrev pub same_node : Node → Node → Bool
same_node m n =
    eqb m.id n.id && (eqb m.parent n.parent && (eqb m.kind n.kind && (eqb m.mode n.mode && (eqb m.size n.size
    && equal m.name n.name))))

abbrev pub same_open : OpenFile → OpenFile → Bool
same_open m n =
    eqb m.handle n.handle && (eqb m.descriptor n.descriptor && (eqb m.rights n.rights && eqb m.cursor n.cursor))

abbrev pub same_map : Map → Map → Bool
same_map m n = eqb m.address n.address && eqb m.size n.size

-- a store, the step over it, and what it keeps of a file's bytes
pub record Side : Type 1 where
  pub store : Store
  pub steps : State store → Event → Result store
  pub keeps : (size : ℕ) → List ℕ → store.Content
  pub is_kept : (size : ℕ) → List ℕ → store.Content → Bool

abbrev pub guard_as : (State (guard config) → Event → Result (guard config)) → Side
guard_as f = record {
  store = guard config;
  steps = f;
  keeps = λ n b. map digest (pages n b);
  is_kept = λ n b x. alike equal (map digest (pages n b)) x;
}

abbrev pub tree_as : (State (tree config) → Event → Result (tree config)) → Side
tree_as f = record { store = tree config; steps = f; keeps = λ n b. b; is_kept = λ n b x. equal b x }

abbrev pub guard_side : Side
guard_side = guard_as (step config (guard config))

abbrev pub tree_side : Side
tree_side = tree_as (step config (tree config))

-- the read-only guard's
abbrev pub reader_side : Side
reader_side = guard_as (read_only_step config (guard config))

abbrev pub reader_tree_side : Side
reader_tree_side = tree_as (read_only_step config (tree config))

module _ (S : Side) where
  abbrev pub begun : Given → State S.store
  begun w = record {
    skeleton = record { tables = record { nodes = map (λ i. i.node) w.items; opens = w.opens }; pending = idle; stopped = false; maps = w.maps };
    contents = map (λ i. S.keeps i.node.size (bytes_in i)) w.items;
    progress = S.store.nothing;
    saves = S.store.unsaved;
  }

  unfoldable pub is_content : Item → S.store.Content → Bool
  is_content i x = elim i.bytes [ none ↦ true | some b ↦ S.is_kept i.node.size b x ]

  unfoldable pub runs : State S.store → List Line → Bool
  unfolding scan answers digest_for alike is_content bytes_of times pages_of ends digest placed lent bytes_in digests_in
      its_bytes concatenated step judge event_checks event_action call_checks call_action read_action reply_checks
      reply_action is_full says_full full_action before is_idle call_or is_none decide pick no_room apply read_on finish_change
      pages_stored ask_store on_page pages_from answer_length request_length store_length signed is_number is_descriptor
      close_request fetch_request store_request cut_request page_at overlay truncating first last fetches fill size_sent
      cuts size_after cursor_after number_of call_bytes by_path by_number_and_path by_handle by_handle_and_number by_handle_and_bytes
      read_fields read_call joined path_bytes component_form onto split after_slash read_path too_long child_at walk
      walk_checks parent_checks parent_of last_of cover_table covers pages_for page_total node_at open_at find_id find_child
      children find_handle find_descriptor set_mode set_size set_cursor bind front get₂ get_fixed get_as get_all ended
      whole encode decode every any place select without tab equal image_or unique put_all layout_of maker_bytes node_form
      image_form flatten divide climb path_length lies in_limits sound_nodes sound print records_length
      image_length parse page_of bytes_at resized splice page_part bytes_after zero_digest replaced digests_of lookup go_back
      entry_form same_entry is_listing stat_bytes is_rearranged map_checks map_reasons reasons by_number is_map_size map_faults
      find_map overlaps maps_after map_number takes_call length_checks form_checks read_only_checks read_only_step by_two_paths
      beneath too_deep renamed
  runs s [] = true
  runs s ((e ⇒ x) ∷ ls) = let r = S.steps s e in meets x r.outcome && runs r.state ls
  runs s (holds is os ∷ ls) =
      alike (λ i n. same_node i.node n) is s.skeleton.tables.nodes
      && (alike is_content is s.contents
      && (alike same_open os s.skeleton.tables.opens && runs s ls))
  runs s (lives ms ∷ ls) = alike same_map ms s.skeleton.maps && runs s ls

-- the titles of the rows that do not hold on one of them
unfoldable pub wrong_on : Side → List Row → List String
unfolding runs pick
wrong_on S [] = []
wrong_on S (r ∷ rs) = pick (runs S (begun S r.start) r.lines) (wrong_on S rs) (r.title ∷ wrong_on S rs)

-- the titles of the rows that do not hold on both; on both of the read-only guard
unfoldable pub wrong_on_both : (S T : Side) → List Row → List String
unfolding runs pick
wrong_on_both S T [] = []
wrong_on_both S T (r ∷ rs) =
    pick (runs S (begun S r.start) r.lines && runs T (begun T r.start) r.lines) (wrong_on_both S T rs)
    (r.title ∷ wrong_on_both S T rs)

unfoldable pub wrong : List Row → List String
unfolding wrong_on_both
wrong rs = wrong_on_both guard_side tree_side rs

unfoldable pub wrong_reading : List Row → List String
unfolding wrong_on_both
wrong_reading rs = wrong_on_both reader_side reader_tree_side rs
