-- A memory of zeros, in which no guard was made fresh: every event is refused 5 and changes nothing (SPECIFICATION
-- 6.5).
-- Assumes nothing.
use Rattle.std.proofs.Math.Path.{◌≡◌, sym}
use Rattle.std.proofs.Common.{◌∙◌}
use Rattle.std.specs.Prelude.{true, List, ℕ}
use native.Mathlib.Omega.{arith}
use Rattle.lists.specs.Pick.{pick_true}
use Rattle.rules.specs.Skeleton.{Event, call, reply, save, load, refused, plain}
use Rattle.configuration.specs.Delivered.{delivered}
use Rattle.machine.specs.Machine.{guard as digest_store}
use Rattle.machine.proofs.StepOutcomes.{after_stop}
use Rattle.guard_state.specs.laws.Zeros.{Zeros, zeros_stopped}
use Rattle.guard.specs.Promise.{GuardState, held, step_of, first_of, Ready}

module _ (s : GuardState) (h : s.skeleton.stopped ≡ true) where
  goes_never : (busy quiet : ℕ) → first_of busy quiet s.skeleton ≡ 0 → ⊥
  unfolding first_of
  goes_never busy quiet e = let z : ◌≡◌ {A = ℕ} 5 0 = sym (pick_true _ _ _ h) ∙ e in omega arith

  -- the promises of a stopped guard ask nothing
  pub stopped_ready : (e : Event) → Ready s e
  unfolding Ready
  stopped_ready (call b a q) = λ z. absurd (goes_never 114 0 z)
  stopped_ready (reply b a q) = λ z. absurd (goes_never 0 61 z)
  stopped_ready (save n) = λ z. absurd (goes_never 114 0 z)
  stopped_ready (load v i d) = tt

module _ (m : List ℕ) (h : Zeros m) where
  pub zeros_ready : (e : Event) → Ready (held m) e
  zeros_ready = stopped_ready (held m) (zeros_stopped delivered m h)

  pub zeros_refused : (e : Event) → step_of (held m) e ≡ record { outcome = plain (refused 5); state = held m }
  zeros_refused e = after_stop delivered (digest_store delivered) (held m) e (zeros_stopped delivered m h)
