-- The promise of each entry, by what its tests found.
-- Assumes nothing.
use Rattle.std.specs.Prelude.{◌≡◌, ℕ, ◌<◌, ◌≤◌, length, take, drop}
use Rattle.std.proofs.Math.Path.{refl, ap, subst}
use Rattle.std.proofs.Common.{sym, ◌∙◌, arith}
use mathlib.Core.List.{List, [], ◌++◌}
use Rattle.lists.specs.All.{Bytes}
use Rattle.lists.specs.PartLaws.{overwrite_none}
use Rattle.digest.specs.Sha256.{sha256}
use Rattle.filesystem.specs.Tables.{ID_BYTES, PAGES, DIGEST_BYTES, page_total}
use Rattle.filesystem.specs.Image.{current}
use Rattle.memory.specs.Layout.{memory_size}
use Rattle.rules.specs.Skeleton.{Event, call, reply, save, load, EventBytes, Answer, done, ask, refused, stopped}
use Rattle.rules.specs.Skeleton.{answer_bytes, request_bytes, at_front, Buffers, buffers_after, answer_length}
use Rattle.rules.specs.Skeleton.{request_length}
use Rattle.rules.specs.Rules.{Move, refuse, judge}
use Rattle.configuration.specs.Delivered.{delivered}
use Rattle.machine.specs.Machine.{Result, apply, step, fresh, guard as digest_store}
use Rattle.machine.specs.Consistent.{Consistent}
use Rattle.guard_state.specs.Waits.{stops}
use Rattle.refusals.specs.Numbers.{number_of}
use Rattle.refusals.specs.laws.NumberLaws.{number_positive}
use Rattle.refusals.specs.declared.Refusal.{Refusal}
use Rattle.refusals.specs.declared.Refusal.TheVariants.{ShortBuffer}
use Rattle.outcomes.specs.declared.Outcome.{Outcome}
use Rattle.outcomes.specs.declared.Outcome.TheVariants.{Done, Refused}
use Rattle.outcomes.specs.Sent.{settled, Leaves}
use Rattle.outcomes.specs.laws.SentLaws.{refusal_sends, sends_leaves}
use Rattle.saves.specs.Saved.{save_move, saved_into, load_move, loaded_from, Saves, Loads}
use Rattle.saves.specs.laws.SavedLaws.{refusal_saves}
use Rattle.guard.specs.Promise.{GuardState, held, step_of, first_of, Ready, Steps, Enters, Saving, Own, Promise}
use Rattle.guard.specs.Promise.{SavePromise, LoadPromise, FreshPromise, buffers}
use Rattle.guard.specs.laws.FrontLaws.{of_fronts, front-own}
use Rattle.guard.specs.laws.EventLaws.{First, turned_away, goes_on_lem, call_next, reply_next, call-first, reply_first}
use Rattle.guard.specs.laws.EventLaws.{save_first, load-first}

-- the delivered digest and width
pub digest-delivered : delivered.digest ≡ sha256
unfolding delivered
digest-delivered = refl

pub width_delivered : delivered.width ≡ ID_BYTES
unfolding delivered
width_delivered = refl

-- a result that the memory and both buffers have is what is promised
leaves_buffers : (y : Answer) (a a' q q' : List ℕ) → a' ≡ at_front (answer_bytes y) a → q' ≡ at_front (request_bytes y) q
    → buffers a' q' ≡ buffers_after y (buffers a q)
unfolding answer_bytes request_bytes buffers_after
leaves_buffers (done n b) a a' q q' e f = λ i. buffers (e i) ((f ∙ overwrite_none 0 q 0) i)
leaves_buffers (ask b) a a' q q' e f = λ i. buffers ((e ∙ overwrite_none 0 a 0) i) (f i)
leaves_buffers (refused n) a a' q q' e f = λ i. buffers ((e ∙ overwrite_none 0 a 0) i) ((f ∙ overwrite_none 0 q 0) i)
leaves_buffers (stopped n) a a' q q' e f = λ i. buffers ((e ∙ overwrite_none 0 a 0) i) ((f ∙ overwrite_none 0 q 0) i)

-- An event and its move behind the first two numbers.
pub record Behind (s : GuardState) (e : Event) (busy quiet : ℕ) (v : Move) : Type 0 where
  pub first : judge delivered s.skeleton e ≡ First busy quiet s.skeleton v

module _ (s : GuardState) where
  pub call-behind : (b : List ℕ) (a q : ℕ) → Behind s (call b a q) 114 0 (call_next delivered s b a q)
  call-behind b a q = record { first = call-first delivered s b a q }

  pub reply_behind : (b : List ℕ) (a q : ℕ) → Behind s (reply b a q) 0 61 (reply_next delivered s b a q)
  reply_behind b a q = record { first = reply_first delivered s b a q }

  save_behind : (n : ℕ) → Behind s (save n) 114 0 (save_move delivered s n)
  save_behind n = record { first = save_first delivered s n }

  load-behind : (i d : List ℕ) → Behind s (load current i d) 114 0 (load_move delivered s i d)
  load-behind i d = record { first = load-first delivered s i d }

-- with the number r that was found: it is refused, or the machine goes on with the move
module _ (s : GuardState) {e : Event} {busy quiet : ℕ} {v : Move} (x : Behind s e busy quiet v) {r : ℕ}
    (t : r ≡ first_of busy quiet s.skeleton) where
  turned_move : (w : Refusal) → r ≡ number_of w → judge delivered s.skeleton e ≡ refuse (number_of w)
  turned_move w k = turned_away s busy quiet r t e v x.first (λ z. omega (arith, number_positive w, k, z)) ∙ ap refuse k

  move-stepped : r ≡ 0 → step_of s e ≡ apply delivered (digest_store delivered) s v
  unfolding step
  move-stepped z = ap (apply delivered (digest_store delivered) s) (goes_on_lem s busy quiet r t e v x.first z)

-- A call or a reply, with the answer buffer a and the request buffer q; the outcome is settled where it leaves.
module _ (m a q : List ℕ) {e : Event} {busy quiet : ℕ} {v : Move} (b : Behind (held m) e busy quiet v) {r : ℕ}
    (t : r ≡ first_of busy quiet (held m).skeleton) where
  entered : (o : Outcome) (n a' q' : List ℕ) (s : GuardState) → s ≡ settled delivered o (held n)
      → (Ready (held m) e → Leaves delivered (step_of (held m) e) o n a a' q q')
      → Enters (held m) e o s (buffers a q) (buffers a' q')
  unfolding settled stops
  entered o n a' q' s z f = record {
    steps = λ k. let l = f k in record { state = z ∙ l.state; answer = l.answer; count = l.count };
    buffers_after_lem = λ k. let l = f k in leaves_buffers _ a a' q q' l.filled l.request;
    stops = λ i h. ap (λ (x : GuardState). x.skeleton.stopped)
        (z ∙ ap (λ (x : Outcome). settled delivered x (held n)) h);
  }

  -- 5, 114 or 61
  pub turned : (w : Refusal) → r ≡ number_of w → Enters (held m) e (Refused w) (held m) (buffers a q) (buffers a q)
  unfolding step settled
  turned w h = entered (Refused w) m a q (held m) refl
      (λ k. sends_leaves delivered _ (Refused w) m q q
      (refusal_sends delivered (held m) _ w m q (turned_move (held m) b t w h) refl) a)

  module _ (z : r ≡ 0) where
    -- what the move comes to
    pub taken_as : {y : Result (digest_store delivered)} → apply delivered (digest_store delivered) (held m) v ≡ y
        → (o x : Outcome) (n m' a' q' : List ℕ) → x ≡ o → held m' ≡ settled delivered o (held n)
        → (Ready (held m) e → Leaves delivered y o n a a' q q')
        → Enters (held m) e x (held m') (buffers a q) (buffers a' q')
    taken_as w o x n m' a' q' i c f = subst (λ (p : Outcome). Enters (held m) e p (held m') (buffers a q)
        (buffers a' q')) (sym i)
        (entered o n a' q' (held m') c
        (λ k. subst (λ (y : Result (digest_store delivered)). Leaves delivered y o n a a' q q')
        (sym (move-stepped (held m) b t z ∙ w)) (f k)))

    -- 34 of a buffer
    pub refused_as_lem : (n : Refusal) → v ≡ refuse (number_of n)
        → Enters (held m) e (Refused n) (held m) (buffers a q) (buffers a q)
    unfolding settled
    refused_as_lem n w = taken_as refl (Refused n) (Refused n) m m a q refl refl
        (λ _. sends_leaves delivered _ (Refused n) m q q (refusal_sends delivered (held m) v n m q w refl) a)

-- what a call or a reply that goes on asks of the state
module _ (s : GuardState) (b : List ℕ) (a q : ℕ) (l : answer_length delivered ≤ a)
    (g : request_length delivered ≤ q) where
  pub call_ready : first_of 114 0 s.skeleton ≡ 0 → Ready s (call b a q) → Consistent delivered s
  unfolding Ready
  call_ready z k = k z l g

  pub reply_ready : first_of 0 61 s.skeleton ≡ 0 → Ready s (reply b a q) → Consistent delivered s
  unfolding Ready
  reply_ready z k = k z l g

-- A save into the buffer i, its digest into d.
module _ (m i d : List ℕ) {r : ℕ} (t : r ≡ first_of 114 0 (held m).skeleton) where
  saving : (o : Outcome) (m' i' d' : List ℕ) → Saves delivered (step_of (held m) (save (length i))) o m' i i' d d'
      → Saving (held m) o (held m') i i' d d'
  saving o m' i' d' h = record {
    steps = record { state = h.state; answer = h.answer; count = h.count };
    image = h.image;
    digest = h.digest;
  }

  pub save_turned : (w : Refusal) → r ≡ number_of w → Saving (held m) (Refused w) (held m) i i d d
  unfolding step
  save_turned w h = saving (Refused w) m i d (refusal_saves delivered m i d _ w
      (turned_move (held m) (save_behind (held m) (length i)) t w h))

  pub save_taken : r ≡ 0 → (o : Outcome) (m' i' d' : List ℕ)
      → (page_total (held m).skeleton.tables.nodes ≤ PAGES → Saves delivered
      (saved_into delivered (held m) (length i)) o m' i i' d d')
      → Ready (held m) (save (length i)) → Saving (held m) o (held m') i i' d d'
  unfolding saved_into Ready
  save_taken z o m' i' d' f k = saving o m' i' d'
      (subst (λ (y : Result (digest_store delivered)). Saves delivered y o m' i i' d d')
      (sym (move-stepped (held m) (save_behind (held m) (length i)) t z))
      (f (k (sym t ∙ z))))

-- A load of image i, of the current version, with digest d.
module _ (m i d : List ℕ) {r : ℕ} (t : r ≡ first_of 114 0 (held m).skeleton) where
  pub load-turned : (w : Refusal) → r ≡ number_of w → Steps (held m) (load current i d) (Refused w) (held m) [] []
  unfolding step settled
  load-turned w h =
      let l = refusal_sends delivered (held m) _ w m [] (turned_move (held m) (load-behind (held m) i d) t w h) refl in
      record { state = l.state; answer = l.answer []; count = l.count }

  pub load-taken : r ≡ 0 → (o : Outcome) (m' : List ℕ) → Loads delivered (loaded_from delivered (held m) i d) o m'
      → Steps (held m) (load current i d) o (held m') [] []
  unfolding loaded_from
  load-taken z o m' f =
      let l = subst (λ (y : Result (digest_store delivered)). Loads delivered y o m')
      (sym (move-stepped (held m) (load-behind (held m) i d) t z)) f in
      record { state = l.state; answer = l.answer; count = l.count }

-- a memory that is too short holds no guard
module _ (m : List ℕ) (less : length m < memory_size) where
  same : Own m m
  same = record { same_length = refl; behind = refl }

  pub call_short_memory : {e : Event} → EventBytes e → (b : Buffers) → Promise m e (Refused ShortBuffer) m b b
  call_short_memory x b = record {
    bytes = x;
    own = same;
    enters = λ h. absurd (omega arith);
    short = λ _.
        (refl, refl, refl);
  }

  pub save_short_memory : (i d : List ℕ) → length d ≡ DIGEST_BYTES → SavePromise m (Refused ShortBuffer) m i i d d
  save_short_memory i d n = record {
    own = same;
    room = n;
    saves = λ h. absurd (omega arith);
    short = λ _.
        (refl, refl, refl, refl);
  }

  pub load_short_memory : (i d : List ℕ) → Bytes i → Bytes d → LoadPromise m i d (Refused ShortBuffer) m
  unfolding EventBytes
  load_short_memory i d x y = record {
    bytes = (x, y);
    own = same;
    loads = λ h. absurd (omega arith);
    short = λ _.
        (refl, refl);
  }

  pub fresh_short_memory : FreshPromise m (Refused ShortBuffer) m
  fresh_short_memory = record {
    own = same;
    done = λ h. absurd (omega arith);
    state = λ h. absurd
        (omega arith);
    short = λ _. (refl, refl);
  }

-- the memory m, whose front became f
module _ (m f : List ℕ) (long : memory_size ≤ length m) (same : length f ≡ length (take memory_size m)) where
  pub call_promised : {e : Event} → EventBytes e → (r : Outcome) (b b' : Buffers)
      → Enters (held (take memory_size m)) e r (held f) b b'
      → Promise m e r (f ++ drop memory_size m) b b'
  call_promised {e = e} x r b b' h = record {
    bytes = x;
    own = front-own m f long same;
    enters = λ _. of_fronts m f long same (λ s s'. Enters s e r s' b b') h;
    short = λ l. absurd (omega arith);
  }

  pub save_promised : (r : Outcome) (i i' d d' : List ℕ) → length d ≡ DIGEST_BYTES
      → (Ready (held (take memory_size m)) (save (length i)) → Saving (held (take memory_size m)) r (held f) i i' d d')
      → SavePromise m r (f ++ drop memory_size m) i i' d d'
  save_promised r i i' d d' n h = record {
    own = front-own m f long same;
    room = n;
    saves = λ _. of_fronts m f long same (λ s s'. Ready s (save (length i)) → Saving s r s' i i' d d') h;
    short = λ l. absurd (omega arith);
  }

  pub load_promised : (i d : List ℕ) → Bytes i → Bytes d → (r : Outcome)
      → Steps (held (take memory_size m)) (load current i d) r (held f) [] []
      → LoadPromise m i d r (f ++ drop memory_size m)
  unfolding EventBytes
  load_promised i d x y r h = record {
    bytes = (x, y);
    own = front-own m f long same;
    loads = λ _. of_fronts m f long same (λ s s'. Steps s (load current i d) r s' [] []) h;
    short = λ l. absurd (omega arith);
  }

  pub fresh_promised : held f ≡ fresh delivered (digest_store delivered)
      → FreshPromise m (Done 0 0) (f ++ drop memory_size m)
  fresh_promised h = record {
    own = front-own m f long same;
    done = λ _. refl;
    state = λ _. of_fronts m f long same (λ s s'. s' ≡ fresh delivered (digest_store delivered)) h;
    short = λ l. absurd (omega arith);
  }
