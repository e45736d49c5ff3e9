-- A call of the read-only guard, by what its tests found: taken, it is the guard's; else it is refused.
-- Assumes nothing.
use Rattle.std.specs.Prelude.{◌≡◌, Bool, true, false, ◌||◌, ℕ, ◌<◌, ◌≤◌, ltb, length, take}
use Rattle.std.proofs.Math.Path.{refl, ap, ap₂, sym}
use Rattle.std.proofs.Common.{◌∙◌, subst, arith, lt-ltb, le-ltb}
use Rattle.std.proofs.Math.Bool.{not}
use mathlib.Core.List.{List, [], ◌∷◌, ◌++◌}
use Rattle.memory.specs.Layout.{memory_size}
use Rattle.lists.specs.Pick.{pick, pick_true, pick-false}
use Rattle.lists.specs.Checks.{Check, decide}
use Rattle.filesystem.specs.Tables.{ID_BYTES}
use Rattle.rules.specs.Calls.{read_call}
use Rattle.rules.specs.Skeleton.{Event, call, EventBytes, Buffers, buffers_after, answer_length, request_length}
use Rattle.rules.specs.Rules.{call_or, is_none, is_idle}
use Rattle.configuration.specs.Delivered.{delivered}
use Rattle.machine.specs.Machine.{guard as digest_store}
use Rattle.read_only.specs.ReadOnly.{takes_call, takes, length_checks, form_checks, read_only_checks, refusal}
use Rattle.read_only.specs.ReadOnly.{read_only_step}
use Rattle.read_only.proofs.laws.StepLaws.{as_guard}
use Rattle.read_only_calls.specs.Refusals.{form_number, Refuses}
use Rattle.refusals.specs.Numbers.{number_of, number_or_0}
use Rattle.refusals.specs.laws.NumberLaws.{number_positive, short_buffer}
use Rattle.refusals.specs.declared.Refusal.{Refusal}
use Rattle.outcomes.specs.declared.Outcome.{Outcome}
use Rattle.outcomes.specs.declared.Outcome.TheVariants.{Refused}
use Rattle.outcomes.specs.Values.{answer_in, length_of, bytes_in}
use Rattle.guard.specs.Promise.{GuardState, GuardResult, first_of, StepsAs, EntersAs, Enters, reader_step_of}
use Rattle.guard.specs.Promise.{ReaderReady, ReaderEnters, held, buffers, Promise, ReaderPromise, shown_as, Shown}
use Rattle.guard.specs.Numbers.{refusal_number}
use Rattle.guard.specs.laws.FrontLaws.{held-front}
use Rattle.guard.specs.declared.GuardOutcome.{GuardOutcome}

-- a number that is found is what the checks come to, whatever stands behind them
decide_found : {A : Type 0} (stop : ℕ → A) (cs : List Check) (x : A) (n : ℕ) → (n ≡ 0 → ⊥)
    → n ≡ decide (λ k. k) cs 0 → decide stop cs x ≡ stop n
unfolding decide pick
decide_found stop [] x n h e = absurd (h e)
decide_found stop ((k, true) ∷ cs) x n h e = ap stop (sym e)
decide_found stop ((k, false) ∷ cs) x n h e = decide_found stop cs x n h e

-- 5, 114, 34, then n
firsts : {A : Type 0} (stop : ℕ → A) (stopped idle short : Bool) (n : ℕ)
    → pick stopped (stop 5) (pick (not idle) (stop 114) (pick short (stop 34) (stop n)))
    ≡ stop (pick stopped 5 (pick idle (pick short 34 n) 114))
unfolding pick
firsts stop true i h n = refl
firsts stop false false h n = refl
firsts stop false true true n = refl
firsts stop false true false n = refl

module _ (s : GuardState) (b : List ℕ) (a q : ℕ) where
  abbrev short : Bool
  short = ltb a (answer_length delivered) || ltb q (request_length delivered)

  -- one that is not taken
  reader_refused : (n r : ℕ) → (n ≡ 0 → ⊥) → Refuses n b → r ≡ first_of 114 (pick short 34 n) s.skeleton
      → reader_step_of s (call b a q) ≡ refusal delivered (digest_store delivered) s r
  unfolding read_only_step read_only_checks form_checks form_number first_of decide delivered
  reader_refused n r h f e =
      let stop = refusal delivered (digest_store delivered) s in
      let o = read_call ID_BYTES b in
      let its : List Check = (22, is_none o) ∷ (length_checks (call_or o) ++ ((30, not (takes_call (call_or o))) ∷ [])) in
      ap (λ x. pick s.skeleton.stopped (stop 5) (pick (not (is_idle s.skeleton.pending)) (stop 114)
      (pick short (stop 34) x)))
      (decide_found stop its _ n h (f.number h))
      ∙ firsts stop s.skeleton.stopped (is_idle s.skeleton.pending) short n
      ∙ ap stop (sym e)

-- what a refusal is promised as
refused_enters : (s : GuardState) (e : Event) (r : Refusal) (b : Buffers)
    → reader_step_of s e ≡ refusal delivered (digest_store delivered) s (number_of r)
    → ReaderEnters s e (Refused r) s b b
unfolding answer_in length_of bytes_in buffers_after
refused_enters s e r b q = subst (λ (x : GuardResult). EntersAs (ReaderReady s e) x (Refused r) s b b) (sym q) (record {
  steps = λ _. record { state = refl; answer = refl; count = refl };
  buffers_after_lem = λ _. refl;
  stops = λ n z. absurd (let y : ◌≡◌ {A = ℕ} 0 1 = cc in omega arith);
})

-- one that is taken
taken_enters : (s : GuardState) (b : List ℕ) (a q n : ℕ) → n ≡ 0 → Refuses n b → (r : Outcome) (s' : GuardState)
    (x x' : Buffers) → Enters s (call b a q) r s' x x' → ReaderEnters s (call b a q) r s' x x'
unfolding takes delivered
taken_enters s b a q n z f r s' x x' h =
    let t = f.taken z in
    let e = sym (as_guard delivered (digest_store delivered) s (call b a q) t) in
    record {
      steps = λ k. subst (λ (y : GuardResult). StepsAs y r s' x'.answer x'.request) e (h.steps (k t));
      buffers_after_lem = λ k. subst (λ (y : GuardResult). x' ≡ buffers_after y.outcome.answer x) e
          (h.buffers_after_lem (k t));
      stops = h.stops;
    }

-- Of a whole memory.
module _ (m b : List ℕ) (n : ℕ) (f : Refuses n b) where
  pub refused_promise : (a q : List ℕ) (r : Refusal) → EventBytes (call b (length a) (length q)) → (n ≡ 0 → ⊥)
      → number_of r ≡ refusal_number m (length a) (length q) n
      → ReaderPromise m (call b (length a) (length q)) (Refused r) m (buffers a q) (buffers a q)
  unfolding refusal_number
  refused_promise a q r x h e = record {
    bytes = x;
    own = record { same_length = refl; behind = refl };
    enters = λ long. refused_enters (held m) _ r (buffers a q)
        (reader_refused (held m) b _ _ n (number_of r) h f (e ∙ pick-false _ _ _ (le-ltb (length m) memory_size long)));
    short = λ less.
        (ap Refused (short_buffer r (e ∙ pick_true _ _ _ (lt-ltb (length m) memory_size less))), refl, refl);
  }

  pub taken_promise : (a q : ℕ) → n ≡ 0 → (r : Outcome) (m' : List ℕ) (x x' : Buffers)
      → Promise m (call b a q) r m' x x' → ReaderPromise m (call b a q) r m' x x'
  taken_promise a q z r m' x x' p = record {
    bytes = p.bytes;
    own = p.own;
    enters = λ long. taken_enters (held m) b a q n z f r (held m') x x' (p.enters long);
    short = p.short;
  }

  pub taken-shown : (a q : ℕ) → n ≡ 0 → (r : GuardOutcome) (m' : List ℕ) (x x' : Buffers)
      → Shown (λ o. Promise m (call b a q) o m' x x') r → Shown (λ o. ReaderPromise m (call b a q) o m' x x') r
  taken-shown a q z r m' x x' h = record {
    outcome = h.outcome;
    shown = h.shown;
    promised = taken_promise a q z h.outcome m' x x' h.promised;
  }

  pub refused_shown : (a q : List ℕ) (r : Refusal) → EventBytes (call b (length a) (length q)) → (n ≡ 0 → ⊥)
      → number_of r ≡ refusal_number m (length a) (length q) n → (o : GuardOutcome) → o ≡ shown_as (Refused r)
      → Shown (λ o. ReaderPromise m (call b (length a) (length q)) o m (buffers a q) (buffers a q)) o
  refused_shown a q r x h e o s = record { outcome = Refused r; shown = s; promised = refused_promise a q r x h e }

-- The number of one that is refused, by what the code found.
module _ (m : List ℕ) (a q n : ℕ) where
  pub number_short : length m < memory_size → 34 ≡ refusal_number m a q n
  unfolding refusal_number
  number_short less = sym (pick_true _ _ _ (lt-ltb (length m) memory_size less))

  pub number-long : memory_size ≤ length m → {k r : ℕ} → r ≡ first_of 114 k (held (take memory_size m)).skeleton
      → k ≡ pick (ltb a (answer_length delivered) || ltb q (request_length delivered)) 34 n → r ≡ refusal_number m a q n
  unfolding refusal_number
  number-long long e i =
      e ∙ ap₂ (λ x (s : GuardState). first_of 114 x s.skeleton) i (held-front m)
      ∙ sym (pick-false _ _ _ (le-ltb (length m) memory_size long))

-- what is found of 5 and 114 stays, whatever stands behind them
first_found : (s i : Bool) (n : ℕ) → (n ≡ 0 → ⊥) → n ≡ pick s 5 (pick i 0 114) → (k : ℕ) → n ≡ pick s 5 (pick i k 114)
unfolding pick
first_found true i n h e k = e
first_found false true n h e k = absurd (h e)
first_found false false n h e k = e

first_passed : (s i : Bool) → ◌≡◌ {A = ℕ} 0 (pick s 5 (pick i 0 114)) → (k : ℕ) → k ≡ pick s 5 (pick i k 114)
unfolding pick
first_passed true i e k = absurd (omega (arith, e))
first_passed false true e k = refl
first_passed false false e k = absurd (omega (arith, e))

module _ (s : GuardState) where
  pub first_stays : (n : ℕ) → (n ≡ 0 → ⊥) → n ≡ first_of 114 0 s.skeleton → (k : ℕ) → n ≡ first_of 114 k s.skeleton
  unfolding first_of
  first_stays = first_found s.skeleton.stopped (is_idle s.skeleton.pending)

  pub first_goes : ◌≡◌ {A = ℕ} 0 (first_of 114 0 s.skeleton) → (k : ℕ) → k ≡ first_of 114 k s.skeleton
  unfolding first_of
  first_goes = first_passed s.skeleton.stopped (is_idle s.skeleton.pending)
