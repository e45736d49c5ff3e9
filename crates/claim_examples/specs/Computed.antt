-- Six lists of events, and what they come to, over digests that are cheap to compute.
use Rattle.std.specs.Prelude.{◌≡◌, refl, true, List, [], ◌∷◌, ◌++◌, map, ℕ, ◌-◌, ◌/◌, ◌%◌, length, get_or, replicate, ltb}
use Rattle.std.proofs.Common.{inl, inr, arith}
use Rattle.std.proofs.lemmas.Bool.{eqb-false}
use Rattle.lists.specs.All.{both, none as all_none}
use Rattle.lists.specs.Pick.{pick}
use Rattle.lists.specs.Equal.{equal}
use Rattle.lists.specs.Cells.{tab}
use Rattle.lists.specs.Search.{every, any, unique, place, select, without}
use Rattle.lists.specs.Signed.{signed}
use Rattle.lists.specs.LittleEndian.{encode, decode}
use Rattle.lists.specs.Form.{bind, front, get₂, get_fixed, get_as, put_all, get_all, ended, whole}
use Rattle.lists.specs.Checks.{decide}
use Rattle.filesystem.specs.Tables.{new_node, root, with_size, pages_for, page_total, node_at, open_at, find_id, find_child, children, find_handle, find_descriptor, set_mode, set_size, set_cursor}
use Rattle.filesystem.specs.Tables.{Node, renamed}
use Rattle.filesystem.specs.Rights.{cover_table, covers}
use Rattle.filesystem.specs.Paths.{joined, path_bytes, component_form, onto, split, after_slash, read_path, too_long, child_at, walk, walk_checks, parent_checks, parent_of, last_of}
use Rattle.filesystem.specs.Image.{saved, current, layout_of, maker_bytes, node_form, image_form, flatten, divide, climb}
use Rattle.filesystem.specs.Image.{path_length, beneath, too_deep}
use Rattle.filesystem.specs.Image.{lies, in_limits, sound_nodes, sound, print, records_length}
use Rattle.filesystem.specs.Image.{image_length, parse}
use Rattle.filesystem.specs.Digests.{replaced}
use Rattle.rules.specs.Calls.{call_bytes, by_path, by_number_and_path, by_handle, by_handle_and_number, by_handle_and_bytes, read_fields, read_call, by_number}
use Rattle.rules.specs.Calls.{by_two_paths}
use Rattle.rules.specs.Pages.{page_at, page_of, bytes_at, resized, splice, overlay, page_part, truncating, added_by, first, last, fetches, fill, size_sent, cuts, bytes_after, size_after, cursor_after, number_of, before}
use Rattle.rules.specs.Requests.{store_length, is_fetch, close_request, fetch_request, store_request, cut_request}
use Rattle.rules.specs.Rules.{no_room, call_checks, read_action, call_action, is_number, is_descriptor, reply_checks, reply_action, is_full, says_full, full_action, is_idle, call_or, image_or, is_none, event_checks, event_action, judge, saving, map_checks, map_reasons, reasons}
use Rattle.rules.specs.Rules.{stat_bytes}
use Rattle.rules.specs.Skeleton.{Config, answer_length, request_length, Event, call, reply, save, load, Answer, done, ask, refused, stopped, Outcome}
use Rattle.machine.specs.Machine.{State, image_of, fresh, read_on, finish_change, pages_stored, ask_store, on_page, pages_from, apply, step, outcomes, final, zero_digest, guard}
use Rattle.machine.specs.Tree.{Saved, tree, digests_of, lookup, go_back}
use Rattle.machine.specs.Claim.{HonestAt, Honest}
use Rattle.machine.specs.History.{pages, awaits_page, page_in, page_out, stored_page, page_added}
use Rattle.machine.specs.Seen.{shown, standing, page_replied, pages_after, pages_seen}
use Rattle.machine.specs.Honest.{RightFor, Right}

-- the first 32 bytes for a digest
unfoldable pub cheap : Config
cheap = record { digest = λ s. tab 32 (λ i. get_or s i 0 % 256); width = 4 }

-- With this digest guard and tree part.
unfoldable pub constant : Config
constant = record { digest = λ s. replicate 32 0; width = 4 }

abbrev pub c : List ℕ → Event
c s = call s 9690 1037

abbrev pub r : List ℕ → Event
r s = reply s 9690 1037

abbrev pub status : ℕ → List ℕ
status n = n % 256 ∷ n / 256 ∷ 0 ∷ 0 ∷ []

-- a file `/a` is made and opened; 1,025 bytes are written, over a page's edge; the file is closed
abbrev pub written : List Event
written =
    c (1 ∷ 7 ∷ 47 ∷ 97 ∷ []) ∷ r (2 ∷ 0 ∷ 0 ∷ 0 ∷ []) ∷ c (3 ∷ 3 ∷ 47 ∷ 97 ∷ []) ∷ r (status 0)
    ∷ c (7 ∷ 2 ∷ 0 ∷ 0 ∷ 0 ∷ replicate 1025 9) ∷ r (status 1024) ∷ r (status 1024) ∷ c (4 ∷ 2 ∷ 0 ∷ 0 ∷ 0 ∷ []) ∷ r (status 0) ∷ []

abbrev pub first_page : List ℕ
first_page = replicate 1024 9

abbrev pub second_page : List ℕ
second_page = 9 ∷ replicate 1023 0

-- what is saved then
abbrev pub image : List ℕ
image = print (saved 4)
    (root ∷ with_size 1025 (new_node 2 1 1 7 (97 ∷ [])) ∷ [], cheap.digest first_page ∷ cheap.digest second_page ∷ [])

-- A save and a load of it: an honest list, on which guard and tree agree.
abbrev pub honest : List Event
honest = written ++ (save 44776 ∷ load current image (cheap.digest image) ∷ [])

abbrev pub honest_answers : List Answer
honest_answers =
    ask (1 ∷ 7 ∷ 47 ∷ 97 ∷ []) ∷ done 2 [] ∷ ask (3 ∷ 3 ∷ 47 ∷ 97 ∷ []) ∷ done 2 []
    ∷ ask (7 ∷ 0 ∷ 0 ∷ 0 ∷ 0 ∷ 0 ∷ 0 ∷ 0 ∷ 0 ∷ 0 ∷ 4 ∷ 0 ∷ 0 ∷ first_page) ∷ ask (7 ∷ 0 ∷ 0 ∷ 0 ∷ 0 ∷ 1 ∷ 0 ∷ 0 ∷ 0 ∷ 1 ∷ 4 ∷ 0 ∷ 0 ∷ second_page) ∷ done 1025 []
    ∷ ask (4 ∷ 0 ∷ 0 ∷ 0 ∷ 0 ∷ []) ∷ done 0 [] ∷ done (length image) image ∷ done 0 [] ∷ []

abbrev pub answers_of : List Outcome → List Answer
answers_of os = map (λ o. o.answer) os

abbrev pub guard_then : State (guard cheap)
guard_then = final cheap (guard cheap) (fresh cheap (guard cheap)) written

abbrev pub tree_then : State (tree cheap)
tree_then = final cheap (tree cheap) (fresh cheap (tree cheap)) written

-- A page from before the last write.
abbrev pub old_page : List ℕ
old_page = 1 ∷ 2 ∷ 3 ∷ replicate 1021 0

abbrev pub three_bytes : List Event
three_bytes =
    c (1 ∷ 7 ∷ 47 ∷ 97 ∷ []) ∷ r (2 ∷ 0 ∷ 0 ∷ 0 ∷ []) ∷ c (3 ∷ 3 ∷ 47 ∷ 97 ∷ []) ∷ r (status 0)
    ∷ c (7 ∷ 2 ∷ 0 ∷ 0 ∷ 0 ∷ 1 ∷ 2 ∷ 3 ∷ []) ∷ r (status 1024) ∷ c (5 ∷ 2 ∷ 0 ∷ 0 ∷ 0 ∷ 0 ∷ 0 ∷ 0 ∷ 0 ∷ 0 ∷ 0 ∷ 0 ∷ 0 ∷ []) ∷ []

abbrev pub stale : List Event
stale =
    three_bytes
    ++ (c (7 ∷ 2 ∷ 0 ∷ 0 ∷ 0 ∷ 8 ∷ []) ∷ r old_page ∷ r (status 1024) ∷ c (5 ∷ 2 ∷ 0 ∷ 0 ∷ 0 ∷ 0 ∷ 0 ∷ 0 ∷ 0 ∷ 0 ∷ 0 ∷ 0 ∷ 0 ∷ [])
    ∷ c (6 ∷ 2 ∷ 0 ∷ 0 ∷ 0 ∷ 3 ∷ 0 ∷ 0 ∷ 0 ∷ []) ∷ r old_page ∷ [])

abbrev pub last_answer : List Answer → Answer
last_answer as' = get_or as' (length as' - 1) (refused 0)

abbrev pub forged : List Event
forged = three_bytes ++ (c (6 ∷ 2 ∷ 0 ∷ 0 ∷ 0 ∷ 3 ∷ 0 ∷ 0 ∷ 0 ∷ []) ∷ r (replicate 1024 0) ∷ [])

-- A file that grows: to two pages, inside the second, after a cut to the first by a page again. Two of the cuts add a page to the history.
abbrev pub cut_to : (low high : ℕ) → Event
cut_to l h = c (8 ∷ 2 ∷ 0 ∷ 0 ∷ 0 ∷ l ∷ h ∷ 0 ∷ 0 ∷ 0 ∷ 0 ∷ 0 ∷ 0 ∷ [])

abbrev pub growths : List Event
growths =
    c (1 ∷ 7 ∷ 47 ∷ 97 ∷ []) ∷ r (2 ∷ 0 ∷ 0 ∷ 0 ∷ []) ∷ c (3 ∷ 3 ∷ 47 ∷ 97 ∷ []) ∷ r (status 0) ∷ cut_to 0 5 ∷ r (status 0) ∷ cut_to 9 5 ∷ r (status 0)
    ∷ cut_to 0 4 ∷ r (status 0) ∷ cut_to 1 4 ∷ r (status 0) ∷ []

abbrev pub zero_pages : List (List ℕ)
zero_pages = replicate 1024 0 ∷ replicate 1024 0 ∷ []

-- A disk that is full, told by an honest host: to a create, to the second page of a write, to a growth. The guard goes on.
abbrev pub full : Event
full = r (228 ∷ 255 ∷ 255 ∷ 255 ∷ [])

abbrev pub filled : List Event
filled =
    c (1 ∷ 7 ∷ 47 ∷ 97 ∷ []) ∷ full ∷ c (1 ∷ 7 ∷ 47 ∷ 97 ∷ []) ∷ r (2 ∷ 0 ∷ 0 ∷ 0 ∷ []) ∷ c (3 ∷ 3 ∷ 47 ∷ 97 ∷ []) ∷ r (status 0)
    ∷ c (7 ∷ 2 ∷ 0 ∷ 0 ∷ 0 ∷ replicate 1025 9) ∷ r (status 1024) ∷ full ∷ cut_to 0 8 ∷ full ∷ []

abbrev pub filled_answers : List Answer
filled_answers =
    ask (1 ∷ 7 ∷ 47 ∷ 97 ∷ []) ∷ refused 28 ∷ ask (1 ∷ 7 ∷ 47 ∷ 97 ∷ []) ∷ done 2 [] ∷ ask (3 ∷ 3 ∷ 47 ∷ 97 ∷ []) ∷ done 2 []
    ∷ ask (7 ∷ 0 ∷ 0 ∷ 0 ∷ 0 ∷ 0 ∷ 0 ∷ 0 ∷ 0 ∷ 0 ∷ 4 ∷ 0 ∷ 0 ∷ first_page) ∷ ask (7 ∷ 0 ∷ 0 ∷ 0 ∷ 0 ∷ 1 ∷ 0 ∷ 0 ∷ 0 ∷ 1 ∷ 4 ∷ 0 ∷ 0 ∷ second_page) ∷ done 1024 []
    ∷ ask (8 ∷ 0 ∷ 0 ∷ 0 ∷ 0 ∷ 0 ∷ 8 ∷ 0 ∷ 0 ∷ []) ∷ refused 28 ∷ []

-- A rename: a file and a directory are made, and the file goes into it, so that its record stands before its parent's.
-- That is saved and loaded, and the file is found by its new path.
abbrev pub moved_nodes : List Node
moved_nodes = root ∷ new_node 2 3 1 7 (98 ∷ []) ∷ new_node 3 1 2 7 (100 ∷ []) ∷ []

abbrev pub moved_image : List ℕ
moved_image = print (saved 4) (moved_nodes, [])

-- given, since to find it by computing costs too much
abbrev pub moved_saved : Saved
moved_saved = record {
  digest = cheap.digest moved_image;
  files = record { nodes = moved_nodes; contents = [] ∷ [] ∷ [] ∷ [] };
}

abbrev pub renaming : List ℕ
renaming = 16 ∷ 2 ∷ 47 ∷ 97 ∷ 47 ∷ 100 ∷ 47 ∷ 98 ∷ []

abbrev pub stat_reply : List ℕ
stat_reply = 2 ∷ 0 ∷ 0 ∷ 0 ∷ 1 ∷ 7 ∷ 0 ∷ 0 ∷ 0 ∷ 0 ∷ []

abbrev pub moved : List Event
moved =
    c (1 ∷ 7 ∷ 47 ∷ 97 ∷ []) ∷ r (2 ∷ 0 ∷ 0 ∷ 0 ∷ []) ∷ c (2 ∷ 7 ∷ 47 ∷ 100 ∷ []) ∷ r (3 ∷ 0 ∷ 0 ∷ 0 ∷ [])
    ∷ c renaming ∷ r (status 0) ∷ save 44776 ∷ load current moved_image (cheap.digest moved_image)
    ∷ c (13 ∷ 47 ∷ 100 ∷ 47 ∷ 98 ∷ []) ∷ r stat_reply ∷ []

abbrev pub moved_answers : List Answer
moved_answers =
    ask (1 ∷ 7 ∷ 47 ∷ 97 ∷ []) ∷ done 2 [] ∷ ask (2 ∷ 7 ∷ 47 ∷ 100 ∷ []) ∷ done 3 [] ∷ ask renaming ∷ done 0 []
    ∷ done (length moved_image) moved_image ∷ done 0 [] ∷ ask (13 ∷ 47 ∷ 100 ∷ 47 ∷ 98 ∷ []) ∷ done 0 stat_reply ∷ []

-- All that is computed here.
pub record Computed : Type 0 where
  pub guard-does : answers_of (outcomes cheap (guard cheap) (fresh cheap (guard cheap)) honest) ≡ honest_answers
  pub replies_right : Honest cheap (fresh cheap (guard cheap)) (fresh cheap (tree cheap)) written
  pub guard-image : image ≡ image_of cheap (guard cheap) guard_then
  pub image-bytes : every (λ b. ltb b 256) image ≡ true
  pub tree_saves : judge cheap tree_then.skeleton (save 44776) ≡ saving
  pub guard-stops : last_answer (answers_of (outcomes cheap (guard cheap) (fresh cheap (guard cheap)) stale)) ≡ stopped 5
  pub tree-stops : last_answer (answers_of (outcomes cheap (tree cheap) (fresh cheap (tree cheap)) stale)) ≡ stopped 5
  pub guard_taken_in : last_answer (answers_of (outcomes constant (guard constant) (fresh constant (guard constant)) forged)) ≡ done 3 (0 ∷ 0 ∷ 0 ∷ [])
  pub tree_not : last_answer (answers_of (outcomes constant (tree constant) (fresh constant (tree constant)) forged)) ≡ stopped 5
  pub growths-kept : pages cheap (guard cheap) (fresh cheap (guard cheap)) growths ≡ zero_pages
  pub growths-seen : pages_seen cheap (fresh cheap (tree cheap)) (shown cheap (guard cheap) (fresh cheap (guard cheap)) growths) ≡ zero_pages
  pub full-does : answers_of (outcomes cheap (guard cheap) (fresh cheap (guard cheap)) filled) ≡ filled_answers
  pub full_right : Honest cheap (fresh cheap (guard cheap)) (fresh cheap (tree cheap)) filled
  pub moved_does : answers_of (outcomes cheap (guard cheap) (fresh cheap (guard cheap)) moved) ≡ moved_answers
  pub moved_right : Honest cheap (fresh cheap (guard cheap)) (fresh cheap (tree cheap)) moved
  pub moved-bytes : every (λ b. ltb b 256) moved_image ≡ true

pub computed : Computed
unfolding pages awaits_page page_in page_out stored_page page_added added_by pages_after page_replied standing shown
    is_fetch cut_request truncating Honest HonestAt Right RightFor final constant outcomes step judge event_checks
    event_action call_checks call_action read_action reply_checks reply_action is_full says_full full_action before is_idle
    call_or is_none decide pick no_room apply read_on finish_change pages_stored ask_store on_page pages_from answer_length
    request_length store_length signed is_number is_descriptor close_request fetch_request store_request page_at overlay first
    last fetches fill size_sent cuts size_after cursor_after number_of call_bytes by_path by_number_and_path by_handle
    by_handle_and_number by_handle_and_bytes read_fields read_call joined path_bytes component_form onto split after_slash
    read_path too_long child_at walk walk_checks parent_checks parent_of last_of cover_table covers pages_for page_total node_at
    open_at find_id find_child children find_handle find_descriptor set_mode set_size set_cursor bind front get₂ get_fixed
    get_as get_all ended whole encode decode every any place select without tab equal cheap image_or unique put_all
    layout_of maker_bytes node_form image_form flatten divide climb path_length lies in_limits sound_nodes
    sound print records_length image_length parse page_of bytes_at resized splice page_part bytes_after zero_digest replaced
    digests_of lookup go_back map_checks map_reasons reasons by_number by_two_paths beneath too_deep renamed stat_bytes
computed = record {
  guard-does = refl;
  replies_right = (
    tt,
    (
      inl (record {
        long = refl;
        not-zero = λ e. absurd (eqb-false 2 0 refl e);
        not_full = λ e. absurd (let z : ◌≡◌ {A = ℕ} 0 1 = cc in omega arith);
        not_held = both (eqb-false 1 2 refl) all_none;
      }),
      (tt, (record { descriptor = 0; long = refl; is = refl; low = omega arith; not_held = all_none }, (tt, (inl refl, (inl refl, (tt, (refl, tt))))))),
    ),
  );
  guard-image = refl;
  image-bytes = refl;
  tree_saves = refl;
  guard-stops = refl;
  tree-stops = refl;
  guard_taken_in = refl;
  tree_not = refl;
  growths-kept = refl;
  growths-seen = refl;
  full-does = refl;
  full_right = (
    tt,
    (
      inr (refl, refl),
      (
        tt,
        (
          inl (record {
            long = refl;
            not-zero = λ e. absurd (eqb-false 2 0 refl e);
            not_full = λ e. absurd (let z : ◌≡◌ {A = ℕ} 0 1 = cc in omega arith);
            not_held = both (eqb-false 1 2 refl) all_none;
          }),
          (tt, (record { descriptor = 0; long = refl; is = refl; low = omega arith; not_held = all_none }, (tt, (inl refl, (inr (refl, (refl, refl)), (tt, (inr (refl, (refl, refl)), tt))))))),
        ),
      ),
    ),
  );
  moved_does = refl;
  moved_right = (
    tt,
    (
      inl (record {
        long = refl;
        not-zero = λ e. absurd (eqb-false 2 0 refl e);
        not_full = λ e. absurd (let z : ◌≡◌ {A = ℕ} 0 1 = cc in omega arith);
        not_held = both (eqb-false 1 2 refl) all_none;
      }),
      (
        tt,
        (
          inl (record {
            long = refl;
            not-zero = λ e. absurd (eqb-false 3 0 refl e);
            not_full = λ e. absurd (let z : ◌≡◌ {A = ℕ} 0 1 = cc in omega arith);
            not_held = both (eqb-false 1 3 refl) (both (eqb-false 2 3 refl) all_none);
          }),
          (
            tt,
            (
              refl,
              (
                tt,
                (
                  (λ d. record {
                    latest = moved_saved;
                    earlier = [];
                    saves = refl;
                    image = refl;
                    digest = refl;
                    unchanged = refl;
                  }),
                  (tt, (refl, tt)),
                ),
              ),
            ),
          ),
        ),
      ),
    ),
  );
  moved-bytes = refl;
}
