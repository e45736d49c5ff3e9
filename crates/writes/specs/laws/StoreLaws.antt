-- A page of the pending write that goes out is what the machine stores.
-- Assumes nothing.
use Rattle.std.specs.Prelude.{◌≡◌, length, take}
use Rattle.std.proofs.Math.Path.{ap, ap₂}
use Rattle.std.proofs.Common.{sym, ◌∙◌, arith}
use mathlib.Core.List.{List, [], ◌∷◌, ◌++◌}
use Prim.Native.Nat.{ℕ, ◌+◌, ◌*◌, ◌≤◌, min, max}
use Rattle.lists.specs.Parts.{part}
use Rattle.filesystem.specs.Tables.{PAGE_BYTES, Node, OpenFile, node_at, open_at}
use Rattle.memory.specs.Layout.{mem_of, memory_size}
use Rattle.rules.specs.Pages.{writing, fill, size_sent}
use Rattle.rules.specs.Requests.{store_request, store_length}
use Rattle.rules.specs.Skeleton.{Config, at_front}
use Rattle.machine.specs.Machine.{State, Gathered, ask_store, guard as digest_store}
use Rattle.guard_state.specs.declared.Guard.{Guard}
use Rattle.guard_state.specs.State.{numbers_of, pending_in, pendings, staged_bytes, state_of}
use Rattle.guard_state.specs.Onward.{goes_on}
use Rattle.guard_state.specs.Waits.{waits}
use Rattle.guard_state.specs.laws.LoadedLaws.{open_loaded, node-there}
use Rattle.guard_state.specs.laws.Ranges.{bytes-length}
use Rattle.outcomes.specs.declared.Outcome.{Outcome}
use Rattle.outcomes.specs.declared.Outcome.TheVariants.{Ask}
use Rattle.outcomes.specs.Sent.{Sends}
use Rattle.page_changes.specs.Asked.{store_front}
use Rattle.page_changes.specs.laws.AskedLaws.{store_sends}
use Rattle.page_changes.specs.Sending.{Sending}
use Rattle.page_changes.specs.laws.SendingLaws.{change_progress, node_within, open_within}
use Rattle.writes.specs.Writing.{Writing, write_in}

module _ (c : Config) (m : List ℕ) (long : memory_size ≤ length m) where
  abbrev g : Guard
  g = numbers_of (mem_of m).head

  abbrev s : State (digest_store c)
  s = state_of c m

  module _ (i : ℕ) (h : Sending c m (write_in m) i) where
    pub page_goes_out : (r w b b' m' : List ℕ) (p d z : ℕ) (x : Outcome) → Writing g.call → p ≡ g.position
        → w ≡ take g.bytes (mem_of m).staged
        → d ≡ (open_at (mem_of m).opens g.opened).descriptor → z ≡ max (node_at (mem_of m).nodes g.node).size
        (min (g.position + g.bytes) (i * PAGE_BYTES + PAGE_BYTES))
        → b' ≡ at_front (store_request d i z (fill (writing p w) i r)) b → store_length ≤ length b → x ≡ Ask store_length
        → state_of c m' ≡ waits c s (pending_in (goes_on 10 i g) (mem_of m).staged)
        (record { bytes = []; digests = s.progress.digests ++ (c.digest (part store_front PAGE_BYTES b') ∷ []) })
        → Sends c (ask_store c (digest_store c) s g.node g.opened (write_in m) i r) x m' b b'
    unfolding write_in pending_in pendings staged_bytes goes_on size_sent
    page_goes_out r w b b' m' p d z x (k₁, k₂) u v e f y l o a =
        store_sends c s g.node g.opened (write_in m) i r d z m' b b' x (e
        ∙ ap (λ (t : OpenFile). t.descriptor) (open_loaded m c g.opened (open_within c m (write_in m) i h)))
        (f ∙ ap₂ (λ (j n : ℕ). max j (min (g.position + n) (i * PAGE_BYTES + PAGE_BYTES)))
        (ap (λ (t : Node). t.size) (node-there m c g.node (node_within c m (write_in m) i h)))
        (sym (bytes-length m long)))
        (ap (λ (t : Gathered). t.bytes) (change_progress c m (k₁, omega (arith, k₂))))
        (y ∙ ap₂ (λ (j : ℕ) (t : List ℕ). at_front (store_request d i z (fill (writing j t) i r)) b) u v) l o a
