-- A call that a full disk ends with no page finished (SPECIFICATION 5.5, 6.1): however many requests it had sent, the state is that of before it.
-- Assumes nothing.
use Rattle.std.specs.Prelude.{◌≡◌, Bool, true, false, ℕ, suc, ◌+◌, ◌*◌, ltb, leb}
use Rattle.std.proofs.Math.Path.{refl, ap}
use Rattle.std.proofs.Common.{sym, ◌∙◌}
use Rattle.std.proofs.lemmas.Bool.{false≢true}
use mathlib.Core.List.{List, [], ◌∷◌, ◌++◌}
use Rattle.lists.specs.Pick.{pick_ind}
use Rattle.lists.specs.All.{All, both, none}
use Rattle.filesystem.specs.Tables.{PAGE_BYTES}
use Rattle.rules.specs.Pages.{Change, first, last, fetches, cuts}
use Rattle.rules.specs.Requests.{idle}
use Rattle.rules.specs.Skeleton.{Config, Event, Answer, done, ask, refused, stopped, Outcome, plain, resting_same}
use Rattle.rules.specs.Rules.{Move, refuse, halt, send, finish, add, delete, remap, read_page, begin, fill_page, stored, cut_done, keep_pages, give_up, saving, loading, judge}
use Rattle.machine.specs.Machine.{Store, State, Result, content_at, size_at, gave_up, cleared, read_on, finish_change, pages_stored, ask_store, on_page, pages_from, apply, step, outcomes, final}
use Rattle.machine.proofs.StepOutcomes.{GivesUp, given_up}

-- a request goes out
unfoldable pub is_ask : Answer → Bool
is_ask (done n b) = false
is_ask (ask q) = true
is_ask (refused n) = false
is_ask (stopped n) = false

abbrev pub AllAsk : List Outcome → Type 0
AllAsk os = All (λ (o : Outcome). is_ask o.answer ≡ true) os

pub no : {A : Type 0} → false ≡ true → A
no e = absurd (false≢true e)

module _ (c : Config) (S : Store) where
  pub final-append : (s : State S) (es fs : List Event) → final c S s (es ++ fs) ≡ final c S (final c S s es) fs
  unfolding final
  final-append s [] fs = refl
  final-append s (e ∷ es) fs = final-append (step c S s e).state es fs

  pub asks_front : (s : State S) (es fs : List Event) → AllAsk (outcomes c S s (es ++ fs)) → AllAsk (outcomes c S s es)
  unfolding outcomes
  asks_front s [] fs a = none
  asks_front s (e ∷ es) fs (both a h) = both a (asks_front (step c S s e).state es fs h)

  -- a call that is given up now or after a request comes to the same
  abbrev Holds : State S → Result S → Type 0
  Holds s r = is_ask r.outcome.answer ≡ true → gave_up c S r.state ≡ gave_up c S s

  pages_hold : (s : State S) (k o : ℕ) (q : Change) (i : ℕ) → Holds s (pages_from c S s k o q i)
  unfolding pages_from on_page ask_store pages_stored finish_change is_ask
  pages_hold s k o q i =
      pick_ind (Holds s) (ltb i (last q)) (λ _. pick_ind (Holds s) (fetches q (size_at c S s k) i) (λ _ _. refl) (λ _ _. refl))
      (λ _. pick_ind (Holds s) (cuts q) (λ _ _. refl) (λ _. no))

  move_holds : (s : State S) (m : Move) → Holds s (apply c S s m)
  unfolding apply read_on ask_store finish_change is_ask
  move_holds s (refuse n) = no
  move_holds s (halt n) = no
  move_holds s (send p q) = λ _. refl
  move_holds s (finish t n b) = no
  move_holds s (add n) = no
  move_holds s (delete k) = no
  move_holds s (remap x) = no
  move_holds s (read_page k o p n i r) =
      pick_ind (Holds s) (S.is_page (content_at c S s k) i r)
      (λ _. pick_ind (Holds s) (leb (p + n) (i * PAGE_BYTES + PAGE_BYTES)) (λ _. no) (λ _ _. refl)) (λ _. no)
  move_holds s (begin k o q) = pages_hold (cleared c S s) k o q (first q)
  move_holds s (fill_page k o q i r) = pick_ind (Holds s) (S.is_page (content_at c S s k) i r) (λ _ _. refl) (λ _. no)
  move_holds s (stored k o q i) = pages_hold s k o q (suc i)
  move_holds s (cut_done k o q) = no
  move_holds s (keep_pages k o q i) = no
  move_holds s give_up = no
  move_holds s saving = no
  move_holds s (loading i d) = no

  run_holds : (s : State S) (es : List Event) → AllAsk (outcomes c S s es) → gave_up c S (final c S s es) ≡ gave_up c S s
  unfolding outcomes final step
  run_holds s [] a = refl
  run_holds s (e ∷ es) (both a h) = run_holds (step c S s e).state es h ∙ move_holds s (judge c s.skeleton e) a

  -- From a state at rest: each event sends a request, and the last is a reply at which the call is given up, refused 28. Nothing has changed.
  module _ (s : State S) (quiet : s.skeleton.pending ≡ idle) (running : s.skeleton.stopped ≡ false) (nothing : s.progress ≡ S.nothing)
      (es : List Event) (asks : AllAsk (outcomes c S s es)) (e : Event) (full : GivesUp c S (final c S s es) e) where
    pub refused_run : step c S (final c S s es) e ≡ record { outcome = plain (refused 28); state = s }
    refused_run =
        given_up c S (final c S s es) e full
        ∙ (run_holds s es asks ∙ (λ x. record { outcome = plain (refused 28); state = rested x }))
      where
        rested : (gave_up c S s).state ≡ s
        rested = λ x. record {
          skeleton = resting_same s.skeleton quiet running x;
          contents = s.contents;
          progress = sym nothing x;
          saves = s.saves;
        }

    pub refused_final : final c S s (es ++ (e ∷ [])) ≡ s
    unfolding final
    refused_final = final-append s es (e ∷ []) ∙ ap (λ (r : Result S). r.state) refused_run
