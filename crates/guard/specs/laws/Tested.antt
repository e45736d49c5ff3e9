-- What every entry tests before it looks at what was handed in: 5, then 114 or 61.
-- Assumes nothing.
use Rattle.std.specs.Prelude.{◌≡◌, Bool, true, false, List, ℕ, ◌≤◌}
use Rattle.std.proofs.Math.Path.{ap, sym}
use Rattle.std.proofs.Common.{◌∙◌, arith}
use Rattle.lists.specs.Equal.{Is, is_t, is_f, is}
use Rattle.lists.specs.Pick.{pick, pick_true, pick-false, pick_ind}
use Rattle.memory.specs.Layout.{mem_of}
use Rattle.rules.specs.Skeleton.{Skeleton}
use Rattle.rules.specs.Rules.{is_idle}
use Rattle.configuration.specs.Delivered.{delivered}
use Rattle.guard_state.specs.Calls.{CREATING, LAST}
use Rattle.guard_state.specs.declared.Guard.{Guard}
use Rattle.guard_state.specs.State.{numbers_of, state_in, state_of}
use Rattle.guard.specs.Promise.{held, first_of}
use Rattle.guard.specs.Numbers.{waits}
use Rattle.guard.specs.laws.NumberLaws.{waits_between, busy-number, idle_number}

module _ (busy quiet : ℕ) (m : List ℕ) (g : Guard) (e : g ≡ numbers_of (mem_of m).head) where
  stop_known : (held m).skeleton.stopped ≡ g.stopped
  unfolding state_of state_in
  stop_known = ap (λ (x : Guard). x.stopped) (sym e)

  pub tested_stopped : g.stopped ≡ true → 5 ≡ first_of busy quiet (held m).skeleton
  unfolding first_of
  tested_stopped t = sym (pick_true _ _ _ (stop_known ∙ t))

  module _ (running : g.stopped ≡ false) (p : Bool) (tested : p ≡ waits g.call) where
    number : p ≡ waits (numbers_of (mem_of m).head).call
    number = tested ∙ ap (λ (x : Guard). waits x.call) e

    pub tested_busy : p ≡ true → busy ≡ first_of busy quiet (held m).skeleton
    unfolding first_of
    tested_busy t = sym (pick-false _ _ _ (stop_known ∙ running) ∙ pick-false _ _ _
        (busy-number delivered m (sym number ∙ t)))

    pub tested_quiet : p ≡ false → quiet ≡ first_of busy quiet (held m).skeleton
    unfolding first_of
    tested_quiet t = sym (pick-false _ _ _ (stop_known ∙ running) ∙ pick_true _ _ _
        (idle_number delivered m (sym number ∙ t)))

-- a reply that goes on: a call is pending, by its number
module _ (m : List ℕ) (t : first_of 0 61 (held m).skeleton ≡ 0) where
  abbrev here : Skeleton
  here = (held m).skeleton

  abbrev call : ℕ
  call = (numbers_of (mem_of m).head).call

  none_pending : is_idle here.pending ≡ true → ◌≡◌ {A = ℕ} (pick here.stopped 5 61) 0
  unfolding first_of
  none_pending i = sym (ap (λ (n : ℕ). pick here.stopped 5 n) (pick_true _ _ _ i)) ∙ t

  pub pending_number : (CREATING ≤ call) × (call ≤ LAST)
  pending_number = go (is (waits call))
    where
      go : Is (waits call) → (CREATING ≤ call) × (call ≤ LAST)
      go (is_t e) = waits_between _ e
      go (is_f e) = absurd (pick_ind (λ (n : ℕ). n ≡ 0 → ⊥) here.stopped (λ _ q. omega arith) (λ _ q. omega arith)
          (none_pending (idle_number delivered m e)))
