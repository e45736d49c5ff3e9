-- Laws of specs/Ended.antt.
-- Assumes nothing.
use Rattle.std.specs.Prelude.{◌≡◌, refl}
use Rattle.std.proofs.Math.Path.{ap}
use Rattle.std.proofs.Common.{sym, ◌∙◌}
use mathlib.Core.List.{List, []}
use Prim.Native.Nat.{ℕ, ◌<◌}
use Rattle.lists.specs.Parts.{overwrite}
use Rattle.memory.specs.Layout.{Mem, mem_of, with_opens}
use Rattle.tables.specs.View.{View, view_of, with_change, cursor_at, staged_digests}
use Rattle.tables.specs.laws.ViewLaws.{view_cursor}
use Rattle.filesystem.specs.Tables.{set_cursor}
use Rattle.rules.specs.Pages.{Change}
use Rattle.rules.specs.Skeleton.{Config, done, request_bytes}
use Rattle.machine.specs.Machine.{State, trimmed, finish_change, zero_digest, guard as digest_store}
use Rattle.guard_state.specs.declared.Guard.{Guard}
use Rattle.guard_state.specs.State.{numbers_of, state_in, state_of}
use Rattle.guard_state.specs.Waits.{resting_state}
use Rattle.outcomes.specs.declared.Outcome.TheVariants.{Done}
use Rattle.outcomes.specs.Values.{length_of, bytes_in, answer_in}
use Rattle.outcomes.specs.Sent.{settled, Sends}
use Rattle.page_changes.specs.Ended.{Ended}

module _ (c : Config) (m : List ℕ) (q : Change) (k o size cursor from count number : ℕ)
    (h : Ended c m q k o size cursor from count number) where
  abbrev s : State (digest_store c)
  s = state_of c m

  abbrev g : Guard
  g = numbers_of (mem_of m).head

  change_rests : resting_state c
      (cursor_at o cursor (with_change (zero_digest c) k size from (staged_digests count (mem_of m).staged)
      (view_of g.nodes g.opens (mem_of m))))
      ≡ (finish_change c (digest_store c) (trimmed c (digest_store c) s count) k o q).state
  unfolding resting_state with_change view_of state_of state_in finish_change
  change_rests = λ i. finish_state (h.sized i) (h.moved i) (h.begins i) (sym h.staged i)
    where
      finish_state : ℕ → ℕ → ℕ → List (List ℕ) → State (digest_store c)
      finish_state z x f ds = resting_state c
          (cursor_at o x (with_change (zero_digest c) k z f ds (view_of g.nodes g.opens (mem_of m))))

  -- the memory m₁ has the change, m₂ the cursor, m₃ nothing pending
  pub change_sends : (n p : ℕ) (m₁ m₂ m₃ b : List ℕ) → n ≡ g.nodes → p ≡ g.opens
      → view_of n p (mem_of m₁) ≡ with_change (zero_digest c) k size from (staged_digests count (mem_of m).staged)
      (view_of n p (mem_of m))
      → mem_of m₂ ≡ with_opens (set_cursor (mem_of m₁).opens o cursor) (mem_of m₁)
      → state_of c m₃ ≡ resting_state c (view_of n p (mem_of m₂))
      → Sends c (finish_change c (digest_store c) (trimmed c (digest_store c) s count) k o q) (Done number 0) m₃ b b
  unfolding finish_change answer_in length_of bytes_in settled request_bytes overwrite
  change_sends n p m₁ m₂ m₃ b e f v w r =
      let l : o < p = rw f h.opened in
      record {
        state = r
            ∙ ap (λ (x : Mem). resting_state c (view_of n p x)) w
            ∙ ap (resting_state c) (view_cursor (mem_of m₁) n p o cursor l)
            ∙ ap (λ (x : View). resting_state c (cursor_at o cursor x)) v
            ∙ (λ i. resting_state c
            (cursor_at o cursor (with_change (zero_digest c) k size from (staged_digests count (mem_of m).staged)
            (view_of (e i) (f i) (mem_of m)))))
            ∙ change_rests;
        answer = λ a. ap (λ (x : ℕ). done x []) h.says;
        count = refl;
        request = refl;
      }
