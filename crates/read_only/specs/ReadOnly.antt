-- The read-only guard (SPECIFICATION 14): one step over the guard's, which adds the number 30, right after the form and
-- before a table is read. Replies, saves and loads are the guard's own.
--   takes_call, takes            the calls and events that it takes
--   length_checks, form_checks    36; with it all the numbers that read no table of the files
--   read_only_step                its step, over any store: the reference tree has it too
-- Assumes nothing.
use Rattle.std.specs.Prelude.{Bool, true, false, not, List, [], ◌∷◌, ◌++◌, ℕ, eqb}
use Rattle.lists.specs.Pick.{pick}
use Rattle.lists.specs.Checks.{Check, decide}
use Rattle.filesystem.specs.Paths.{too_long}
use Rattle.rules.specs.Calls.{Call, create, mkdir, open_as, close, seek, read, write, truncate, remove, rmdir, chmod}
use Rattle.rules.specs.Calls.{readdir, stat, map_memory, unmap, read_call, rename}
use Rattle.rules.specs.Skeleton.{Config, Event, call, reply, save, load, refused, Outcome, plain, Skeleton}
use Rattle.rules.specs.Rules.{call_or, is_none, stopped_check, busy_check, short_check}
use Rattle.machine.specs.Machine.{Store, State, Result, step}

-- close, seek, read, readdir, stat, and open with rights 1
unfoldable pub takes_call : Call → Bool
takes_call (create m p) = false
takes_call (mkdir m p) = false
takes_call (open_as r p) = eqb r 1
takes_call (close h) = true
takes_call (seek h n) = true
takes_call (read h n) = true
takes_call (write h d) = false
takes_call (truncate h n) = false
takes_call (remove p) = false
takes_call (rmdir p) = false
takes_call (chmod m p) = false
takes_call (readdir p) = true
takes_call (stat p) = true
takes_call (map_memory n) = false
takes_call (unmap a) = false
takes_call (rename p q) = false

-- 36, of a call by path
unfoldable pub length_checks : Call → List Check
length_checks (create m p) = (36, too_long p) ∷ []
length_checks (mkdir m p) = (36, too_long p) ∷ []
length_checks (open_as r p) = (36, too_long p) ∷ []
length_checks (close h) = []
length_checks (seek h n) = []
length_checks (read h n) = []
length_checks (write h d) = []
length_checks (truncate h n) = []
length_checks (remove p) = (36, too_long p) ∷ []
length_checks (rmdir p) = (36, too_long p) ∷ []
length_checks (chmod m p) = (36, too_long p) ∷ []
length_checks (readdir p) = (36, too_long p) ∷ []
length_checks (stat p) = (36, too_long p) ∷ []
length_checks (map_memory n) = []
length_checks (unmap a) = []
length_checks (rename p q) = (36, too_long p) ∷ (36, too_long q) ∷ []

module _ (c : Config) where
  -- bytes that are no call are taken: they are refused 22, as by the guard
  unfoldable pub takes : Event → Bool
  takes (call s a q) = takes_call (call_or (read_call c.width s))
  takes (reply r a q) = true
  takes (save n) = true
  takes (load v i d) = true

  -- the events of a list that are taken
  unfoldable pub taken : List Event → List Event
  taken [] = []
  taken (e ∷ es) = pick (takes e) (e ∷ taken es) (taken es)

  -- 5, 114, 34, 22, 36
  unfoldable pub form_checks : Skeleton → List ℕ → (answer request : ℕ) → List Check
  form_checks sk s a q =
      stopped_check c sk ∷ busy_check c sk ∷ short_check c sk a q ∷ (22, is_none (read_call c.width s))
      ∷ length_checks (call_or (read_call c.width s))

  -- then 30
  unfoldable pub read_only_checks : Skeleton → Event → List Check
  read_only_checks sk (call s a q) = form_checks sk s a q ++ ((30, not (takes_call (call_or (read_call c.width s)))) ∷ [])
  read_only_checks sk (reply r a q) = []
  read_only_checks sk (save n) = []
  read_only_checks sk (load v i d) = []

  module _ (S : Store) where
    abbrev pub refusal : State S → ℕ → Result S
    refusal s n = record { outcome = plain (refused n); state = s }

    unfoldable pub read_only_step : State S → Event → Result S
    read_only_step s e = decide (refusal s) (read_only_checks s.skeleton e) (step c S s e)

    -- a run over a list of events: what each comes to, and what is left
    unfoldable pub read_only_outcomes : State S → List Event → List Outcome
    read_only_outcomes s [] = []
    read_only_outcomes s (e ∷ es) = (read_only_step s e).outcome ∷ read_only_outcomes (read_only_step s e).state es

    unfoldable pub read_only_final : State S → List Event → State S
    read_only_final s [] = s
    read_only_final s (e ∷ es) = read_only_final (read_only_step s e).state es
