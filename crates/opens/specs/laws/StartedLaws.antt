-- What the judging function answers, the memory that is left and the request that was written are what the machine
-- makes of the call.
-- Assumes nothing.
use Rattle.std.specs.Prelude.{◌≡◌, List, [], ℕ, ◌<◌, ◌≤◌, length}
use Rattle.std.proofs.Math.Path.{ap}
use Rattle.std.proofs.Common.{◌∙◌, arith}
use Rattle.lists.specs.LittleEndian.{length-encode}
use Rattle.filesystem.specs.Tables.{Tables, open_at, set_cursor}
use Rattle.rules.specs.Calls.{Call, close, seek}
use Rattle.rules.specs.Requests.{asked, closing, close_request, store_length}
use Rattle.rules.specs.Skeleton.{Config, at_front}
use Rattle.rules.specs.Rules.{send, finish, call_action}
use Rattle.machine.specs.Machine.{State, guard as digest_store}
use Rattle.memory.specs.Layout.{Mem, mem_of, with_opens}
use Rattle.tables.specs.View.{View, view_of}
use Rattle.tables.specs.laws.ViewLaws.{view_cursor}
use Rattle.guard_state.specs.State.{numbers_of, state_in, state_of, gathered_none}
use Rattle.guard_state.specs.Waits.{waits, ends, resting_state}
use Rattle.refusals.specs.Numbers.{Judged, number_of}
use Rattle.refusals.specs.declared.Refusal.{Refusal}
use Rattle.handle_calls.specs.declared.Handled.{Handled}
use Rattle.std.specs.Prelude.{Err}
use Rattle.handle_calls.specs.Judged.{at_file, handled_for}
use Rattle.handle_calls.specs.laws.MoveLaws.{move_refused, move_passed, passed_at}
use Rattle.outcomes.specs.declared.Outcome.{Outcome}
use Rattle.outcomes.specs.declared.Outcome.TheVariants.{Done, Ask, Refused}
use Rattle.outcomes.specs.Sent.{Sends}
use Rattle.outcomes.specs.laws.SentLaws.{refusal_sends, finish_sends, request_sends}
use Rattle.outcomes.specs.Started.{started_by}
use Rattle.opens.specs.Moved.{cursor_moved}

module _ (c : Config) (s : State (digest_store c)) (h : ℕ) (r : Judged Handled) where
  abbrev here : Tables
  here = s.skeleton.tables

  pub handle_refused : (x : Call) (b : Refusal) (m q : List ℕ) → r ≡ handled_for here h x → r ≡ Err (number_of b)
      → state_of c m ≡ s
      → Sends c (started_by c s x) (Refused b) m q q
  unfolding started_by
  handle_refused x b m q e f g = refusal_sends c s _ b m q (move_refused here h x r e _ (number_of b) f) g

  pub close_sends : (k j d : ℕ) (m q q' : List ℕ) (o : Outcome) → r ≡ handled_for here h (close h) → r ≡ at_file k j
      → (open_at here.opens k).descriptor ≡ d
      → state_of c m ≡ waits c s (asked (closing k)) gathered_none → q' ≡ at_front (close_request d) q
      → o ≡ Ask (length (close_request d)) → store_length ≤ length q
      → Sends c (started_by c s (close h)) o m q q'
  unfolding started_by call_action close_request store_length
  close_sends k j d m q q' o e f y g u v l =
      let z = move_passed here h (close h) r e _ k j f
      ∙ ap (λ (i : ℕ). send (asked (closing i)) (close_request (open_at here.opens i).descriptor))
      (passed_at here h (close h) r e k j f).open_place_lem
      ∙ ap (λ (i : ℕ). send (asked (closing k)) (close_request i)) y in
      request_sends c s _ _ (close_request d) m q q' o z g u v (omega (arith, length-encode 4 d))

  pub seek_sends : (k j p : ℕ) (m q : List ℕ) → r ≡ handled_for here h (seek h p) → r ≡ at_file k j
      → state_of c m ≡ cursor_moved c s k p
      → Sends c (started_by c s (seek h p)) (Done p 0) m q q
  unfolding started_by call_action
  seek_sends k j p m q e f g =
      let z = move_passed here h (seek h p) r e _ k j f
      ∙ ap (λ (i : ℕ). finish (record { nodes = here.nodes; opens = set_cursor here.opens i p }) p [])
      (passed_at here h (seek h p) r e k j f).open_place_lem in
      finish_sends c s _ _ p m q z g

-- the cursor set in memory x, and the call done in memory y
pub cursor_ends : (c : Config) (m x y : List ℕ) (k p : ℕ) → mem_of x ≡ with_opens (set_cursor (mem_of m).opens k p)
    (mem_of m)
    → k < (numbers_of (mem_of m).head).opens
    → state_of c y ≡ ends c (state_of c x) (state_of c x).skeleton.tables (state_of c x).contents
    → state_of c y ≡ cursor_moved c (state_of c m) k p
unfolding state_of state_in view_of ends resting_state
cursor_ends c m x y k p e h u =
    let g = numbers_of (mem_of m).head in
    u
    ∙ ap (λ (t : Mem). let n = numbers_of t.head in resting_state c (view_of n.nodes n.opens t)) e
    ∙ ap (λ (v : View). resting_state c v) (view_cursor (mem_of m) g.nodes g.opens k p h)
