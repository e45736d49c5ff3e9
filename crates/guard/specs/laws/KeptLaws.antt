-- The memory of a guard stays one: a fresh guard's is, and so is the memory that an entry leaves.
-- Assumes nothing.
use Rattle.std.specs.Prelude.{◌≡◌, List, ℕ, ◌≤◌, length}
use Rattle.std.proofs.Common.{sym, subst, arith}
use Rattle.filesystem.specs.Image.{current}
use Rattle.filesystem.specs.ImageLaws.{Digest}
use Rattle.filesystem.specs.Sound.{to_sound}
use Rattle.memory.specs.Layout.{memory_size}
use Rattle.digest.specs.laws.Laws.{length-sha256, bytes-sha256}
use Rattle.rules.specs.Skeleton.{Event, call, reply, save, load, EventBytes, Buffers}
use Rattle.configuration.specs.Delivered.{delivered}
use Rattle.machine.specs.Consistent.{Consistent}
use Rattle.machine.proofs.ConsistentLaws.{step_consistent, fresh_consistent}
use Rattle.outcomes.specs.declared.Outcome.{Outcome}
use Rattle.guard.specs.Promise.{Kept, held, stepped, Ready, Promise, FreshPromise, SavePromise, LoadPromise}

digest_fits : (s : List ℕ) → Digest (delivered.digest s)
unfolding delivered
digest_fits s = (length-sha256 s, bytes-sha256 s)

-- the memory of a guard is ready for every event
pub kept_ready : (m : List ℕ) → Kept m → (e : Event) → Ready (held m) e
unfolding Ready
kept_ready m k (call b a q) = λ _ _ _. k.consistent
kept_ready m k (reply b a q) = λ _ _ _. k.consistent
kept_ready m k (save n) = λ _. (to_sound delivered.width _
    k.consistent.holds.valid.tables.nodes_valid.sound).pages
kept_ready m k (load v i d) = tt

pub fresh_kept : (m : List ℕ) (r : Outcome) (m' : List ℕ) → memory_size ≤ length m → FreshPromise m r m' → Kept m'
unfolding delivered
fresh_kept m r m' h p = record {
  long = omega (arith, p.own.same_length, h);
  consistent = subst (Consistent delivered) (sym (p.state h)) (fresh_consistent delivered (omega arith));
}

-- what a step leaves
pub step_kept : (m m' : List ℕ) (e : Event) → EventBytes e → Kept m → length m' ≡ length m
    → held m' ≡ (stepped m e).state → Kept m'
step_kept m m' e b k n s = record {
  long = omega (arith, n, k.long);
  consistent = subst (Consistent delivered) (sym s)
      (step_consistent delivered digest_fits (held m) e b k.consistent);
}

pub promise_kept : (m : List ℕ) (e : Event) (r : Outcome) (m' : List ℕ) (b b' : Buffers) → Kept m
    → Promise m e r m' b b' → Kept m'
promise_kept m e r m' b b' k p = step_kept m m' e p.bytes k p.own.same_length
    ((p.enters k.long).steps (kept_ready m k e)).state

pub save_kept : (m : List ℕ) (r : Outcome) (m' i i' d d' : List ℕ) → Kept m → SavePromise m r m' i i' d d' → Kept m'
unfolding EventBytes
save_kept m r m' i i' d d' k p =
    step_kept m m' (save (length i)) tt k p.own.same_length
    (p.saves k.long (kept_ready m k (save (length i)))).steps.state

pub load_kept : (m i d : List ℕ) (r : Outcome) (m' : List ℕ) → Kept m → LoadPromise m i d r m' → Kept m'
load_kept m i d r m' k p =
    step_kept m m' (load current i d) p.bytes k p.own.same_length (p.loads k.long).state
