-- Whether a call is pending, by its number, is what the state says.
-- Assumes nothing.
use Rattle.std.specs.Prelude.{◌≡◌, ◌⊎◌, not, ◌&&◌, List, [], ◌∷◌, eqb, leb, length, get_or}
use Rattle.std.proofs.Math.Path.{refl, ap}
use Rattle.std.proofs.Common.{sym, ◌∙◌, inl, inr, arith, leb-true, leb-false, ne_eqb}
use Rattle.std.proofs.Math.Bool.{true, false}
use Prim.Native.Nat.{ℕ, zero, suc, ◌<◌, ◌≤◌}
use Rattle.std.proofs.lemmas.Bool.{eqb-false, not-true}
use Rattle.lists.specs.Equal.{and_fst, and_snd}
use Rattle.std.proofs.Math.ListN.{get_or-eq_default}
use Rattle.lists.specs.All.{All, both, none}
use Rattle.memory.specs.Layout.{mem_of}
use Rattle.tables.specs.View.{view_of}
use Rattle.rules.specs.Requests.{Pending, idle}
use Rattle.rules.specs.Skeleton.{Config}
use Rattle.rules.specs.Rules.{is_idle}
use Rattle.guard_state.specs.Calls.{IDLE, CREATING, LAST}
use Rattle.guard_state.specs.declared.Guard.{Guard}
use Rattle.guard_state.specs.State.{numbers_of, pendings, pending_in, state_in, state_of}
use Rattle.guard.specs.Numbers.{waits}

-- none of these is idle; past them there is nothing
module _ (F : Pending → Type 0) where
  there : (l : List Pending) → All F l → (k : ℕ) → k < length l → F (get_or l k idle)
  there [] none k h = absurd (omega arith)
  there (p ∷ l) (both e a) zero h = e
  there (p ∷ l) (both e a) (suc k) h = there l a k (omega arith)

pub waits_between : (n : ℕ) → waits n ≡ true → (CREATING ≤ n) × (n ≤ LAST)
unfolding waits
waits_between n e =
    let z : n ≡ 0 → ⊥ = eqb-false n 0 (not-true _ (and_fst _ _ e)) in
    (omega arith, leb-true n LAST (and_snd (not (eqb n 0)) _ e))

pub waits_idle : (n : ℕ) → n ≡ 0 → false ≡ waits n
unfolding waits
waits_idle n e = sym (ap (λ (k : ℕ). not (eqb k 0) && leb k LAST) e)

pub waits_some : (n : ℕ) → (n ≡ 0 → ⊥) → leb n LAST ≡ waits n
unfolding waits
waits_some n h = sym (ap (λ b. not b && leb n LAST) (ne_eqb n 0 h))

waits_not : (n : ℕ) → waits n ≡ false → (n ≡ 0) ⊎ (LAST < n)
unfolding waits
waits_not zero e = inl refl
waits_not (suc n) e =
    let z : not (eqb (suc n) 0) ≡ true = ap not (ne_eqb (suc n) 0 (λ q. absurd (omega arith))) in
    let h = leb-false (suc n) LAST (sym (ap (λ b. b && leb (suc n) LAST) z) ∙ e) in
    inr (omega arith)

module _ (c : Config) (m : List ℕ) where
  abbrev g : Guard
  g = numbers_of (mem_of m).head

  pub busy-number : waits g.call ≡ true → is_idle (state_of c m).skeleton.pending ≡ false
  unfolding state_of state_in view_of pending_in pendings is_idle
  busy-number e = go g.call (waits_between g.call e)
    where
      go : (n : ℕ) → (CREATING ≤ n) × (n ≤ LAST) → is_idle (get_or (pendings g (mem_of m).staged) n idle) ≡ false
      go zero h = absurd (omega arith)
      go (suc k) h =
          there (λ p. is_idle p ≡ false) _
          (both refl (both refl
          (both refl (both refl
          (both refl (both refl
          (both refl (both refl
          (both refl (both refl
          (both refl (both refl (both refl (both refl (both refl (both refl (both refl none)))))))))))))))))
          k
          (omega arith)

  pub idle_number : waits g.call ≡ false → is_idle (state_of c m).skeleton.pending ≡ true
  unfolding state_of state_in view_of pending_in pendings is_idle
  idle_number e = go (waits_not g.call e)
    where
      go : (g.call ≡ IDLE) ⊎ (LAST < g.call) → is_idle (get_or (pendings g (mem_of m).staged) g.call idle) ≡ true
      go (inl z) = ap (λ (n : ℕ). is_idle (get_or (pendings g (mem_of m).staged) n idle)) z
      go (inr h) = ap is_idle (get_or-eq_default (pendings g (mem_of m).staged) idle {n = g.call} (omega arith))
