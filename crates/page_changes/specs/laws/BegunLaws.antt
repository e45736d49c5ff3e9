-- A call by handle that was judged: refused, or passed on places of the tables. A change begins: as its memory waits,
-- so the machine's state with nothing
-- gathered goes on.
-- Assumes nothing.
use Rattle.std.specs.Prelude.{◌≡◌, refl, List, ℕ, ◌<◌, length}
use Rattle.std.proofs.Common.{sym, arith, eqb-true}
use Rattle.std.proofs.Math.Path.{subst}
use Rattle.lists.specs.All.{all_get}
use Rattle.lists.specs.Search.{place-passes}
use Rattle.filesystem.specs.Tables.{Tables, has_handle, no_open_file, open_at, find_id, find_handle}
use Rattle.memory.specs.Layout.{mem_of}
use Rattle.rules.specs.Calls.{Call}
use Rattle.rules.specs.Pages.{Change, first}
use Rattle.rules.specs.Requests.{Pending}
use Rattle.rules.specs.Skeleton.{Config}
use Rattle.rules.specs.Rules.{Move, begin, call_action}
use Rattle.rules.specs.Valid.{ValidOpen, ValidTables}
use Rattle.machine.specs.Machine.{State, ask_store, on_page, pages_stored, pages_from, finish_change, apply}
use Rattle.machine.specs.Machine.{guard as digest_store}
use Rattle.machine.specs.Consistent.{Consistent}
use Rattle.handle_calls.specs.declared.Handled.{Handled}
use Rattle.std.specs.Prelude.{Err}
use Rattle.refusals.specs.Numbers.{Judged, number_of}
use Rattle.refusals.specs.declared.Refusal.{Refusal}
use Rattle.handle_calls.specs.Judged.{at_file, handled_for}
use Rattle.handle_calls.specs.Passed.{PassedAt}
use Rattle.handle_calls.specs.laws.MoveLaws.{move_refused, move_passed, passed_at}
use Rattle.guard_state.specs.State.{numbers_of, state_of, gathered_none}
use Rattle.guard_state.specs.laws.LoadedLaws.{nodes-count, opens-count}
use Rattle.guard_state.specs.Waits.{waits}
use Rattle.outcomes.specs.declared.Outcome.{Outcome}
use Rattle.outcomes.specs.declared.Outcome.TheVariants.{Refused}
use Rattle.outcomes.specs.Sent.{Sends}
use Rattle.outcomes.specs.laws.SentLaws.{refusal_sends}
use Rattle.outcomes.specs.Started.{started_by}

pub begun-pages : (c : Config) (s : State (digest_store c)) (p : Pending) (k o : ℕ) (q : Change)
    → pages_from c (digest_store c) (waits c s p gathered_none) k o q (first q) ≡ apply c (digest_store c) s (begin k o q)
unfolding apply waits pages_from on_page ask_store pages_stored finish_change
begun-pages c s p k o q = refl

-- an open file's node is one of the tables
pub file-known : (w : ℕ) (t : Tables) → ValidTables w t → (h : ℕ) → find_handle t.opens h < length t.opens
    → find_id t.nodes h < length t.nodes
unfolding find_handle open_at
file-known w t v h l =
    let o = find_handle t.opens h in
    let e : (open_at t.opens o).handle ≡ h = eqb-true _ _ (place-passes (has_handle h) t.opens no_open_file l) in
    let x : ValidOpen t.nodes (open_at t.opens o) = all_get o no_open_file t.opens l v.opened in
    subst (λ (y : ℕ). find_id t.nodes y < length t.nodes) e x.known

-- a call that was judged
module _ (c : Config) (s : State (digest_store c)) (h : ℕ) (q : Call) (r : Judged Handled)
    (known : r ≡ handled_for s.skeleton.tables h q) where
  pub call_refused : (b : Refusal) (m l : List ℕ) → r ≡ Err (number_of b) → state_of c m ≡ s
      → Sends c (started_by c s q) (Refused b) m l l
  unfolding started_by
  call_refused b m l e g = refusal_sends c s _ b m l (move_refused s.skeleton.tables h q r known _ (number_of b) e) g

  pub call_passed : (i j : ℕ) → r ≡ at_file i j → (x : Outcome) (m l l' : List ℕ)
      → (PassedAt s.skeleton.tables h q i j
      → Sends c (apply c (digest_store c) s (call_action s.skeleton.tables c.width q)) x m l l')
      → Sends c (started_by c s q) x m l l'
  unfolding started_by
  call_passed i j e x m l l' f =
      subst (λ (v : Move). Sends c (apply c (digest_store c) s v) x m l l')
      (sym (move_passed s.skeleton.tables h q r known _ i j e))
      (f (passed_at s.skeleton.tables h q r known i j e))

-- one that passed, by the places of its open file and its node
module _ (c : Config) (m : List ℕ) (handle : ℕ) (q : Call) (opened node : ℕ)
    (passed : PassedAt (state_of c m).skeleton.tables handle q opened node)
    (there : find_handle (state_of c m).skeleton.tables.opens handle < length (state_of c m).skeleton.tables.opens)
  where
    pub passed_open : opened < (numbers_of (mem_of m).head).opens
    passed_open = omega (arith, there, passed.open_place_lem, opens-count c m)

    pub passed_node : Consistent c (state_of c m) → node < (numbers_of (mem_of m).head).nodes
    passed_node held = omega (
      arith,
      file-known c.width (state_of c m).skeleton.tables held.holds.valid.tables
          handle there,
      passed.file_place_lem,
      nodes-count c m,
    )
