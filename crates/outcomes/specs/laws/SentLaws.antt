-- What an event leaves, from the move that is known: a refusal, a stop, a request, a call that is done.
-- Assumes nothing.
use Rattle.std.specs.Prelude.{◌≡◌, refl, List, [], ℕ, zero, suc, ◌≤◌, length, take}
use Rattle.std.proofs.Math.Path.{ap}
use Rattle.std.proofs.Common.{sym, ◌∙◌, arith}
use Rattle.lists.specs.Parts.{overwrite}
use Rattle.lists.specs.PartLaws.{take_overwrite, overwrite_none}
use Rattle.filesystem.specs.Tables.{Tables}
use Rattle.rules.specs.Requests.{Pending}
use Rattle.rules.specs.Skeleton.{Config, Answer, done, ask, answer_bytes, request_bytes, at_front}
use Rattle.rules.specs.MapRules.{MapChange, maps_after, map_number}
use Rattle.rules.specs.Rules.{Move, refuse, halt, send, finish, remap}
use Rattle.machine.specs.Machine.{State, Result, Gathered, asking, ending, gave_up, apply, guard as digest_store}
use Rattle.guard_state.specs.State.{state_of, gathered_none}
use Rattle.guard_state.specs.Waits.{waits, ends, stops, remaps}
use Rattle.refusals.specs.Numbers.{number_of, reason_number}
use Rattle.refusals.specs.declared.Refusal.{Refusal}
use Rattle.refusals.specs.declared.Refusal.TheVariants.{NoSpace}
use Rattle.refusals.specs.declared.StopReason.{StopReason}
use Rattle.outcomes.specs.declared.Outcome.{Outcome}
use Rattle.outcomes.specs.declared.Outcome.TheVariants.{Done, Ask, Refused, Stopped}
use Rattle.outcomes.specs.Values.{length_of, bytes_in, answer_in}
use Rattle.outcomes.specs.Sent.{settled, Sends, Fills, Leaves}

-- an answer that no buffer changes has no bytes from there
none_taken : (l : ℕ) → take {A = ℕ} l [] ≡ []
none_taken zero = refl
none_taken (suc l) = refl

no-answer_bytes : (r : Outcome) (q' : List ℕ) (y : Answer) → answer_in r [] q' ≡ y → answer_bytes y ≡ []
unfolding answer_in answer_bytes
no-answer_bytes (Done n l) q' y e = ap answer_bytes (sym e) ∙ none_taken l
no-answer_bytes (Ask l) q' y e = ap answer_bytes (sym e)
no-answer_bytes (Refused n) q' y e = ap answer_bytes (sym e)
no-answer_bytes (Stopped n) q' y e = ap answer_bytes (sym e)

no-request_bytes : (r : Outcome) (a' : List ℕ) (y : Answer) → answer_in r a' [] ≡ y → request_bytes y ≡ []
unfolding answer_in request_bytes
no-request_bytes (Done n l) a' y e = ap request_bytes (sym e)
no-request_bytes (Ask l) a' y e = ap request_bytes (sym e) ∙ none_taken l
no-request_bytes (Refused n) a' y e = ap request_bytes (sym e)
no-request_bytes (Stopped n) a' y e = ap request_bytes (sym e)

module _ (c : Config) (x : Result (digest_store c)) (r : Outcome) where
  pub sends_leaves : (m q q' : List ℕ) → Sends c x r m q q' → (a : List ℕ) → Leaves c x r m a a q q'
  sends_leaves m q q' h a = record {
    state = h.state;
    answer = h.answer a;
    count = h.count;
    filled = sym (ap (λ (b : List ℕ). at_front b a) (no-answer_bytes r q' x.outcome.answer (h.answer []))
        ∙ overwrite_none 0 a 0);
    request = h.request;
  }

  pub fills_leaves : (m a a' : List ℕ) → Fills c x r m a a' → (q : List ℕ) → Leaves c x r m a a' q q
  fills_leaves m a a' h q = record {
    state = h.state;
    answer = h.answer q;
    count = h.count;
    filled = h.filled;
    request = sym (ap (λ (b : List ℕ). at_front b q) (no-request_bytes r a' x.outcome.answer (h.answer []))
        ∙ overwrite_none 0 q 0);
  }

-- a request goes out and the call waits
pub asking_sends : (c : Config) (s : State (digest_store c)) (y : Result (digest_store c)) (p : Pending) (x : List ℕ)
    (a : Gathered) (m q q' : List ℕ) (o : Outcome)
    → y ≡ asking c (digest_store c) s x p a → state_of c m ≡ waits c s p a → q' ≡ at_front x q → o ≡ Ask (length x)
    → length x ≤ length q → Sends c y o m q q'
unfolding answer_in length_of bytes_in settled request_bytes waits
asking_sends c s y p x a m q q' o z g u e h = record {
  state = ap (λ (n : Outcome). settled c n (state_of c m)) e ∙ g ∙ ap (λ d. d.state) (sym z);
  answer = λ b.
      ap (λ (n : Outcome). answer_in n b q') e
      ∙ ap ask (ap (take (length x)) u ∙ take_overwrite q 0 x (length x) (omega arith) (omega arith))
      ∙ ap (λ d. d.outcome.answer) (sym z);
  count = ap length_of e ∙ ap (λ d. bytes_in d.outcome.answer) (sym z);
  request = u ∙ ap (λ d. at_front (request_bytes d.outcome.answer) q) (sym z);
}

-- a full disk ends the call: refused, and nothing is pending
pub gave_up_sends : (c : Config) (s : State (digest_store c)) (m q : List ℕ)
    → state_of c m ≡ ends c s s.skeleton.tables s.contents
    → Sends c (gave_up c (digest_store c) s) (Refused NoSpace) m q q
unfolding answer_in length_of bytes_in settled request_bytes overwrite ends
gave_up_sends c s m q g = record { state = g; answer = λ a. refl; count = refl; request = refl }

-- a move that is known: a refusal changes nothing, a stop is for good, a request goes out and the call waits, a call is
-- done
module _ (c : Config) (s : State (digest_store c)) (v : Move) where
  pub refusal_sends : (e : Refusal) (m q : List ℕ) → v ≡ refuse (number_of e) → state_of c m ≡ s
      → Sends c (apply c (digest_store c) s v) (Refused e) m q q
  unfolding apply answer_in length_of bytes_in settled request_bytes overwrite
  refusal_sends e m q z g = record {
    state = g ∙ ap (λ d. (apply c (digest_store c) s d).state) (sym z);
    answer = λ a. ap (λ d. (apply c (digest_store c) s d).outcome.answer) (sym z);
    count = ap (λ d. bytes_in (apply c (digest_store c) s d).outcome.answer) (sym z);
    request = ap (λ d. at_front (request_bytes (apply c (digest_store c) s d).outcome.answer) q) (sym z);
  }

  pub stop_sends : (e : StopReason) (m q : List ℕ) → v ≡ halt (reason_number e) → state_of c m ≡ s
      → Sends c (apply c (digest_store c) s v) (Stopped e) m q q
  unfolding apply answer_in length_of bytes_in settled request_bytes overwrite stops
  stop_sends e m q z g = record {
    state = ap (stops c) g ∙ ap (λ d. (apply c (digest_store c) s d).state) (sym z);
    answer = λ a. ap (λ d. (apply c (digest_store c) s d).outcome.answer) (sym z);
    count = ap (λ d. bytes_in (apply c (digest_store c) s d).outcome.answer) (sym z);
    request = ap (λ d. at_front (request_bytes (apply c (digest_store c) s d).outcome.answer) q) (sym z);
  }

  pub done_sends : (t : Tables) (x : List (List (List ℕ))) (n : ℕ) (m q : List ℕ)
      → apply c (digest_store c) s v ≡ ending c (digest_store c) s (done n []) t x
      → state_of c m ≡ ends c s t x
      → Sends c (apply c (digest_store c) s v) (Done n 0) m q q
  unfolding answer_in length_of bytes_in settled request_bytes overwrite ends
  done_sends t x n m q z g = record {
    state = g ∙ ap (λ d. d.state) (sym z);
    answer = λ a. ap (λ d. d.outcome.answer) (sym z);
    count = ap (λ d. bytes_in d.outcome.answer) (sym z);
    request = ap (λ d. at_front (request_bytes d.outcome.answer) q) (sym z);
  }

  pub finish_sends : (t : Tables) (n : ℕ) (m q : List ℕ) → v ≡ finish t n [] → state_of c m ≡ ends c s t s.contents
      → Sends c (apply c (digest_store c) s v) (Done n 0) m q q
  unfolding apply
  finish_sends t n m q z g = done_sends t s.contents n m q (ap (apply c (digest_store c) s) z) g

  pub remap_sends : (x : MapChange) (m q : List ℕ) → v ≡ remap x
      → state_of c m ≡ remaps c s (maps_after x s.skeleton.maps)
      → Sends c (apply c (digest_store c) s v) (Done (map_number x) 0) m q q
  unfolding apply answer_in length_of bytes_in settled request_bytes overwrite remaps
  remap_sends x m q z g = record {
    state = g ∙ ap (λ d. (apply c (digest_store c) s d).state) (sym z);
    answer = λ a. ap (λ d. (apply c (digest_store c) s d).outcome.answer) (sym z);
    count = ap (λ d. bytes_in (apply c (digest_store c) s d).outcome.answer) (sym z);
    request = ap (λ d. at_front (request_bytes (apply c (digest_store c) s d).outcome.answer) q) (sym z);
  }

  pub request_sends : (p : Pending) (x m q q' : List ℕ) (o : Outcome) → v ≡ send p x
      → state_of c m ≡ waits c s p gathered_none → q' ≡ at_front x q
      → o ≡ Ask (length x) → length x ≤ length q
      → Sends c (apply c (digest_store c) s v) o m q q'
  unfolding apply
  request_sends p x m q q' o z g u e h = asking_sends c s _ p x gathered_none m q q' o (ap (apply c (digest_store c) s) z)
      g u e h
