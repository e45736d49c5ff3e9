-- What the machine makes of an event, by what the first tests found and then number by number in the specification's
-- order.
-- Assumes nothing.
use Rattle.std.specs.Prelude.{◌≡◌, refl, Bool, true, false, not, ◌||◌, List, [], ◌∷◌, ◌++◌, ℕ, ◌<◌, ◌≤◌, eqb}
use Rattle.std.proofs.Math.Path.{ap, sym}
use Rattle.std.proofs.Common.{◌∙◌, arith, eq-eqb, ne_eqb, lt-ltb, le-ltb, ltb-false}
use Rattle.std.proofs.Math.Dec.{ltb}
use Rattle.lists.specs.Equal.{or_fst, or_snd}
use Rattle.lists.specs.Pick.{pick, pick_true, pick-false}
use Rattle.lists.specs.Checks.{Check, decide, check_last, check_stops, check_passes}
use Rattle.filesystem.specs.Image.{current, layout_of}
use Rattle.rules.specs.Requests.{store_length}
use Rattle.rules.specs.Skeleton.{Config, Event, call, reply, save, load, answer_length, request_length, Skeleton}
use Rattle.rules.specs.Calls.{read_call}
use Rattle.rules.specs.Rules.{Move, refuse, is_idle, is_none, call_or, call_checks, map_checks, event_checks, event_action, judge}
use Rattle.configuration.specs.Delivered.{delivered}
use Rattle.machine.specs.Machine.{State, apply, guard as digest_store}
use Rattle.call_dispatch.specs.Called.{called, called_with}
use Rattle.outcomes.specs.Answered.{taken, answered}
use Rattle.saves.specs.Saved.{save_move, load_move}
use Rattle.guard.specs.Promise.{GuardState, first_of}

-- a buffer that is too short, as it is delivered
module _ (a q : ℕ) where
  abbrev least : Bool
  least = ltb a (answer_length delivered) || ltb q (request_length delivered)

  pub answer-short : a < 9690 → true ≡ least
  unfolding answer_length delivered
  answer-short h = sym (ap (λ b. b || ltb q (request_length delivered)) (lt-ltb a 9690 h))

  pub answer-long : 9690 ≤ a → ltb q 1037 ≡ least
  unfolding answer_length request_length store_length delivered
  answer-long h = sym (ap (λ b. b || ltb q 1037) (le-ltb a 9690 h))

-- buffers that are long enough
pub long_enough : (a q : ℕ) → (ltb a (answer_length delivered) || ltb q (request_length delivered)) ≡ false
    → (answer_length delivered ≤ a) × (request_length delivered ≤ q)
long_enough a q e = (
  ltb-false a (answer_length delivered) (or_fst _ _ e),
  ltb-false q (request_length delivered)
      (or_snd (ltb a (answer_length delivered)) _ e),
)

pub store_room : (q : ℕ) → request_length delivered ≤ q → store_length ≤ q
unfolding request_length
store_room q h = h

pub answer_room : (a : ℕ) → answer_length delivered ≤ a → 4096 ≤ a
unfolding answer_length delivered
answer_room a h = omega arith

-- where the first two numbers of an event are not found, v is what it leads to
abbrev pub First : (busy quiet : ℕ) → Skeleton → Move → Move
First busy quiet sk v = pick (eqb (first_of busy quiet sk) 0) v (refuse (first_of busy quiet sk))

busy-first : (s i : Bool) (cs : List Check) (x : Move) → let n : ℕ = pick s 5 (pick i 0 114) in decide refuse ((5, s)
    ∷ (114, not i) ∷ cs) x ≡ pick (eqb n 0) (decide refuse cs x) (refuse n)
unfolding decide pick
busy-first true i cs x = refl
busy-first false true cs x = refl
busy-first false false cs x = refl

quiet-first : (s i : Bool) (cs : List Check) (x : Move) → let n : ℕ = pick s 5 (pick i 61 0) in decide refuse ((5, s)
    ∷ (61, i) ∷ cs) x ≡ pick (eqb n 0) (decide refuse cs x) (refuse n)
unfolding decide pick
quiet-first true i cs x = refl
quiet-first false true cs x = refl
quiet-first false false cs x = refl

module _ (s : GuardState) (busy quiet r : ℕ) (t : r ≡ first_of busy quiet s.skeleton) (e : Event) (v : Move)
    (like : judge delivered s.skeleton e ≡ First busy quiet s.skeleton v) where
  test : eqb (first_of busy quiet s.skeleton) 0 ≡ eqb r 0
  test = ap (λ (n : ℕ). eqb n 0) (sym t)

  pub turned_away : (r ≡ 0 → ⊥) → judge delivered s.skeleton e ≡ refuse r
  turned_away h = like ∙ pick-false _ _ _ (test ∙ ne_eqb r 0 h) ∙ ap refuse (sym t)

  pub goes_on_lem : r ≡ 0 → judge delivered s.skeleton e ≡ v
  goes_on_lem z = like ∙ pick_true _ _ _ (test ∙ eq-eqb r 0 z)

-- each event behind its first two numbers: 34 and what the bytes say; a save and a load have crate `saves`' own moves
module _ (c : Config) (s : State (digest_store c)) where
  module _ (b : List ℕ) (a q : ℕ) where
    abbrev is_short : Bool
    is_short = ltb a (answer_length c) || ltb q (request_length c)

    unfoldable pub call_next : Move
    call_next =
        decide refuse ((34, is_short) ∷ (22, is_none (read_call c.width b))
        ∷ (call_checks s.skeleton.tables (call_or (read_call c.width b))
        ++ map_checks s.skeleton.maps (call_or (read_call c.width b))))
        (event_action c s.skeleton (call b a q))

    unfoldable pub reply_next : Move
    reply_next = decide refuse ((34, is_short) ∷ []) (event_action c s.skeleton (reply b a q))

    pub call-first : judge c s.skeleton (call b a q) ≡ First 114 0 s.skeleton call_next
    unfolding judge event_checks first_of call_next
    call-first = busy-first s.skeleton.stopped (is_idle s.skeleton.pending) _ _

    pub reply_first : judge c s.skeleton (reply b a q) ≡ First 0 61 s.skeleton reply_next
    unfolding judge event_checks first_of reply_next
    reply_first = quiet-first s.skeleton.stopped (is_idle s.skeleton.pending) _ _

    pub call-short : is_short ≡ true → call_next ≡ refuse 34
    unfolding call_next
    call-short e = check_stops refuse 34 _ _ _ e

    pub reply_short : is_short ≡ true → reply_next ≡ refuse 34
    unfolding reply_next
    reply_short e = check_stops refuse 34 _ _ _ e

    pub call-read : is_short ≡ false → apply c (digest_store c) s call_next ≡ called_with c s b
    unfolding call_next event_action called_with called
    call-read e = ap (apply c (digest_store c) s) (check_passes refuse 34 _ _ _ e)

    pub reply_read : is_short ≡ false → apply c (digest_store c) s reply_next ≡ answered c s b
    unfolding reply_next event_action answered taken
    reply_read e = ap (apply c (digest_store c) s) (check_last refuse 34 _ _ e)

  pub save_first : (n : ℕ) → judge c s.skeleton (save n) ≡ First 114 0 s.skeleton (save_move c s n)
  unfolding judge event_checks event_action first_of save_move
  save_first n = busy-first s.skeleton.stopped (is_idle s.skeleton.pending) _ _

  pub load-first : (i d : List ℕ)
      → judge c s.skeleton (load current i d) ≡ First 114 0 s.skeleton (load_move c s i d)
  unfolding judge event_checks event_action first_of load_move layout_of
  load-first i d = busy-first s.skeleton.stopped (is_idle s.skeleton.pending) _ _
