-- A truncation that passed: done at once, or begun with its numbers in the header.
-- Assumes nothing.
use Rattle.std.specs.Prelude.{◌≡◌, refl, List, ℕ, ◌/◌, ◌<◌, ◌≤◌, length}
use Rattle.std.proofs.Math.Path.{ap, sym, subst}
use Rattle.std.proofs.Common.{◌∙◌, arith, leb-false, eq-eqb, ne_eqb, lt-ltb, le-ltb}
use Rattle.lists.specs.All.{both}
use Rattle.lists.specs.Checks.{Passed}
use Rattle.lists.specs.Equal.{or_fst}
use Rattle.lists.specs.Pick.{pick_true, pick-false}
use Rattle.filesystem.specs.Tables.{NODES, PAGE_BYTES, Node, OpenFile, Tables, node_at, open_at, find_handle}
use Rattle.memory.specs.Layout.{mem_of}
use Rattle.rules.specs.Calls.{truncate}
use Rattle.rules.specs.Pages.{page_at, shrinking, growing, truncating, first}
use Rattle.rules.specs.Requests.{Pending, cutting, cut_request, store_length}
use Rattle.rules.specs.Skeleton.{Config, at_front}
use Rattle.rules.specs.Rules.{Move, begin, file, call_checks, call_action}
use Rattle.machine.specs.Machine.{State, Result, asking, pages_from, apply, descriptor_at, guard as digest_store}
use Rattle.machine.specs.Consistent.{Consistent}
use Rattle.machine.proofs.GrowthLaws.{growth_asks}
use Rattle.handle_calls.specs.Passed.{PassedAt}
use Rattle.guard_state.specs.Calls.{SHRINK_FETCHING}
use Rattle.guard_state.specs.declared.Guard.{Guard}
use Rattle.guard_state.specs.State.{numbers_of, state_of, gathered_none}
use Rattle.guard_state.specs.laws.LoadedLaws.{node-there, open_loaded}
use Rattle.guard_state.specs.Onward.{truncate_numbers}
use Rattle.guard_state.specs.laws.Ranges.{in_range}
use Rattle.guard_state.specs.Waits.{waits, ends}
use Rattle.outcomes.specs.declared.Outcome.{Outcome}
use Rattle.outcomes.specs.declared.Outcome.TheVariants.{Done, Ask}
use Rattle.outcomes.specs.Sent.{Sends}
use Rattle.outcomes.specs.laws.SentLaws.{finish_sends, asking_sends}
use Rattle.page_changes.specs.laws.BegunLaws.{begun-pages, passed_open, passed_node}
use Rattle.truncations.specs.Shrinking.{Shrinking, shrink_in}
use Rattle.truncations.specs.laws.CutLaws.{cut_most}

-- its handle is known
passed_truncate : (t : Tables) (h n : ℕ) → Passed (call_checks t (truncate h n))
    → find_handle t.opens h < length t.opens
unfolding call_checks
passed_truncate t h n (both f _) = leb-false _ _ (or_fst _ _ f)

-- one that passed, by the places of its open file and its node
module _ (c : Config) (m : List ℕ) (held : Consistent c (state_of c m)) (handle size opened node : ℕ)
    (passed : PassedAt (state_of c m).skeleton.tables handle (truncate handle size) opened node) where
  abbrev s : State (digest_store c)
  s = state_of c m

  abbrev t : Tables
  t = (state_of c m).skeleton.tables

  abbrev g : Guard
  g = numbers_of (mem_of m).head

  abbrev move : Move
  move = call_action (state_of c m).skeleton.tables c.width (truncate handle size)

  open_there : opened < g.opens
  open_there = passed_open c m handle (truncate handle size) opened node passed
      (passed_truncate t handle size passed.checks)

  node-known : node < g.nodes
  node-known = passed_node c m handle (truncate handle size) opened node passed
      (passed_truncate t handle size passed.checks) held

  pub node-low : node < NODES
  node-low = omega (arith, node-known, (in_range g (mem_of m).head refl).nodes)

  module _ (z : ℕ) (sized : z ≡ (node_at (mem_of m).nodes node).size) where
    size_at_lem : z ≡ (file t handle).size
    size_at_lem = sized ∙ ap (λ (n : Node). n.size) (node-there m c node node-known)
        ∙ ap (λ (j : ℕ). (node_at t.nodes j).size) (sym passed.file_place_lem)

    pub truncate_done : size ≡ z → (m' q : List ℕ) → state_of c m' ≡ ends c s t s.contents
        → Sends c (apply c (digest_store c) s move) (Done 0 0) m' q q
    unfolding call_action
    truncate_done e m' q f = finish_sends c s _ t 0 m' q (pick_true _ _ _ (eq-eqb size _ (e ∙ size_at_lem))) f

    module _ (other : size ≡ z → ⊥) where
      begins : move ≡ begin node opened (truncating z size)
      unfolding call_action
      begins = pick-false _ _ _ (ne_eqb size _ (λ e. other (e ∙ sym size_at_lem)))
          ∙ (λ i. begin (passed.file_place_lem i) (passed.open_place_lem i) (truncating (sym size_at_lem i) size))

      -- to fewer bytes, to more
      shrinks : size < z → move ≡ begin node opened (shrinking size)
      unfolding truncating
      shrinks l = begins ∙ ap (begin node opened) (pick_true _ _ _ (lt-ltb size z l))

      grows : z ≤ size → move ≡ begin node opened (growing size)
      unfolding truncating
      grows l = begins ∙ ap (begin node opened) (pick-false _ _ _ (le-ltb size z l))

      abbrev d : ℕ
      d = (open_at (mem_of m).opens opened).descriptor

      pub growth_begins : z ≤ size → (x : Outcome) (m' b b' : List ℕ)
          → state_of c m' ≡ waits c s (cutting node opened (growing size)) gathered_none
          → b' ≡ at_front (cut_request d size) b → x ≡ Ask (length (cut_request d size)) → store_length ≤ length b
          → Sends c (apply c (digest_store c) s move) x m' b b'
      growth_begins l x m' b b' w u r h =
          let p = cutting node opened (growing size) in
          let e : d ≡ descriptor_at c (digest_store c) s opened = ap (λ (y : OpenFile). y.descriptor)
          (open_loaded m c opened open_there) in
          asking_sends c s _ p (cut_request d size) gathered_none m' b b' x
          (ap (apply c (digest_store c) s) (grows l) ∙ growth_asks c (digest_store c) s node opened size
          ∙ (λ i. asking c (digest_store c) s (cut_request (sym e i) size) p gathered_none))
          w u r (omega (arith, cut_most d size))

      -- the memory m₁ has its numbers
      module _ (m₁ : List ℕ) (numbers : numbers_of (mem_of m₁).head ≡ truncate_numbers (numbers_of (mem_of m).head)
          SHRINK_FETCHING node opened size) where
        abbrev g₁ : Guard
        g₁ = numbers_of (mem_of m₁).head

        pub begun_within : g₁.opened < g₁.opens
        unfolding truncate_numbers
        begun_within = subst (λ (x : Guard). x.opened < x.opens) (sym numbers) open_there

        pub shrink_begins : size < z → (p : Pending) → state_of c m₁ ≡ waits c s p gathered_none
            → (x : Outcome) (m' b b' : List ℕ)
            → Sends c (pages_from c (digest_store c) (state_of c m₁) g₁.node g₁.opened (shrink_in m₁)
            (g₁.size / PAGE_BYTES)) x m' b b'
            → Sends c (apply c (digest_store c) s move) x m' b b'
        unfolding truncate_numbers shrink_in first page_at
        shrink_begins l p e x m' b b' =
            subst (λ (v : Result (digest_store c)). Sends c v x m' b b')
            (ap (λ (j : Guard). pages_from c (digest_store c) (state_of c m₁) j.node j.opened (shrinking j.size)
            (j.size / PAGE_BYTES)) numbers
            ∙ ap (λ (y : State (digest_store c)). pages_from c (digest_store c) y node opened (shrinking size)
            (size / PAGE_BYTES)) e
            ∙ begun-pages c s p node opened (shrinking size)
            ∙ ap (apply c (digest_store c) s) (sym (shrinks l)))

pub shrink_call : (m m₁ : List ℕ) (k o z : ℕ)
    → numbers_of (mem_of m₁).head ≡ truncate_numbers (numbers_of (mem_of m).head) SHRINK_FETCHING k o z
    → Shrinking (numbers_of (mem_of m₁).head).call
unfolding truncate_numbers
shrink_call m m₁ k o z e = let n : (numbers_of (mem_of m₁).head).call ≡ SHRINK_FETCHING = ap (λ (x : Guard). x.call) e in
    (omega arith, omega arith)
