-- A line that was handed in and whose answer was written is what the desk does with it.
-- Assumes nothing.
use Rattle.std.specs.Prelude.{◌≡◌, refl, List, ℕ, length, take, Option, None, Some}
use Rattle.std.proofs.Math.Path.{ap, subst}
use Rattle.std.proofs.Common.{ap₂, sym, ◌∙◌}
use Rattle.rules.specs.Requests.{store_length}
use Rattle.rules.specs.Skeleton.{Answer, Event, call, reply, answer_length, request_length}
use Rattle.configuration.specs.Delivered.{delivered}
use Rattle.outcomes.specs.declared.Outcome.{Outcome}
use Rattle.outcomes.specs.Values.{answer_in}
use Rattle.guard.specs.Promise.{Kept, held, stepped, Steps, Promise, buffers}
use Rattle.guard.specs.laws.KeptLaws.{kept_ready, promise_kept}
use Rattle.desk_lines.specs.declared.Entry.{Entry}
use Rattle.desk_lines.specs.declared.Entry.TheVariants.{Call, Reply}
use Rattle.desk_lines.specs.declared.Line.{Line}
use Rattle.desk_lines.specs.Lines.{DeskLine, call_line, reply_line, bad_line, printed, printed_bad, line_for, line_in}
use Rattle.desk_lines.specs.Lines.{Prints}
use Rattle.desk.specs.Answered.{event_for, printed_for, state_for, Answers}

-- buffers of the least lengths
answer-least : answer_length delivered ≡ 9690
unfolding answer_length delivered
answer-least = refl

request_least : request_length delivered ≡ 1037
unfolding request_length store_length
request_least = refl

module _ (m b a q a' q' : List ℕ) (o : Outcome) (r : ℕ) (m' d d' : List ℕ) (n : length a ≡ 9690) (l : length q ≡ 1037)
  where
    lengths : (e : ℕ → ℕ → Event) → e (length a) (length q) ≡ e (answer_length delivered) (request_length delivered)
    lengths e = ap₂ e (n ∙ sym answer-least) (l ∙ sym request_least)

    pub call-answers : Promise m (call b (length a) (length q)) o m' (buffers a q) (buffers a' q')
        → Prints (printed (answer_in o a' q')) r d d'
        → Answers m (call_line b) r m' d d'
    unfolding printed_for state_for
    call-answers p w = let steps : (k : Kept m) → Steps (held m) _ o (held m') a' q' = λ k. (p.enters k.long).steps
        (kept_ready m k _) in record {
          prints = λ k. subst (λ (y : Event). Prints (printed (stepped m y).outcome.answer) r d d') (lengths (call b))
              (subst (λ (y : Answer). Prints (printed y) r d d') (steps k).answer w);
          state = λ k. subst (λ (y : Event). held m' ≡ (stepped m y).state) (lengths (call b)) (steps k).state;
          kept = λ k. promise_kept m _ o m' _ _ k p;
          fits = w.fits;
          same_length = p.own.same_length;
        }

    pub reply_answers : Promise m (reply b (length a) (length q)) o m' (buffers a q) (buffers a' q')
        → Prints (printed (answer_in o a' q')) r d d'
        → Answers m (reply_line b) r m' d d'
    unfolding printed_for state_for
    reply_answers p w = let steps : (k : Kept m) → Steps (held m) _ o (held m') a' q' = λ k. (p.enters k.long).steps
        (kept_ready m k _) in record {
          prints = λ k. subst (λ (y : Event). Prints (printed (stepped m y).outcome.answer) r d d') (lengths (reply b))
              (subst (λ (y : Answer). Prints (printed y) r d d') (steps k).answer w);
          state = λ k. subst (λ (y : Event). held m' ≡ (stepped m y).state) (lengths (reply b)) (steps k).state;
          kept = λ k. promise_kept m _ o m' _ _ k p;
          fits = w.fits;
          same_length = p.own.same_length;
        }

    pub entry_answers : (e : Entry) → Promise m (event_for e b (length a) (length q)) o m' (buffers a q) (buffers a' q')
        → Prints (printed (answer_in o a' q')) r d d'
        → Answers m (line_for e b) r m' d d'
    unfolding event_for line_for
    entry_answers Call = call-answers
    entry_answers Reply = reply_answers

-- a bad line changes nothing
pub bad_answers : (m : List ℕ) (r : ℕ) (d d' : List ℕ) → Prints printed_bad r d d' → Answers m bad_line r m d d'
unfolding printed_for state_for
bad_answers m r d d' w = record {
  prints = λ k. w;
  state = λ k. refl;
  kept = λ k. k;
  fits = w.fits;
  same_length =
      refl;
}

-- the line that was read
module _ (m : List ℕ) (x : DeskLine) (t : Option Line) (c : List ℕ) (known : line_in t c ≡ x) (r : ℕ) (m' d d' : List ℕ)
  where
    as_read : (y : DeskLine) → line_in t c ≡ y → Answers m y r m' d d' → Answers m x r m' d d'
    as_read y e h = subst (λ (z : DeskLine). Answers m z r m' d d') (sym e ∙ known) h

    pub line_read : (l : Line) (b : List ℕ) → t ≡ Some l → b ≡ take l.length c
        → Answers m (line_for l.entry b) r m' d d'
        → Answers m x r m' d d'
    unfolding line_in
    line_read l b e f = as_read (line_for l.entry b) (ap (λ (z : Option Line). line_in z c) e
        ∙ ap (line_for l.entry) (sym f))

    pub bad_line_lem : t ≡ None → Answers m bad_line r m' d d' → Answers m x r m' d d'
    unfolding line_in
    bad_line_lem e = as_read bad_line (ap (λ (z : Option Line). line_in z c) e)
