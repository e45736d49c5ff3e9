-- A write that passed: done at once, or begun with its numbers in the header and its bytes staged.
-- Assumes nothing.
use Rattle.std.specs.Prelude.{◌≡◌, refl, false, List, ℕ, ◌/◌, ◌<◌, ◌≤◌, max, ltb, length}
use Rattle.std.proofs.Math.Path.{ap, sym, subst}
use Rattle.std.proofs.Common.{◌∙◌, arith, leb-false, eq-eqb, ne_eqb}
use Rattle.lists.specs.All.{both}
use Rattle.lists.specs.Checks.{Passed}
use Rattle.lists.specs.Equal.{or_fst}
use Rattle.lists.specs.Pick.{pick_true, pick-false}
use Rattle.filesystem.specs.Tables.{NODES, PAGES, PAGE_BYTES, FILE_BYTES, OpenFile, Tables, open_at, find_handle}
use Rattle.filesystem.specs.Tables.{page_total}
use Rattle.filesystem.specs.Sound.{to_sound}
use Rattle.memory.specs.Layout.{mem_of}
use Rattle.rules.specs.Calls.{write}
use Rattle.rules.specs.Pages.{page_at, writing, first, last, size_after}
use Rattle.rules.proofs.PageLaws.{first-last}
use Rattle.rules.specs.Requests.{fetching}
use Rattle.rules.specs.Skeleton.{Config}
use Rattle.rules.specs.Rules.{Move, begin, file_place, opened as open_file, file, write_end, no_room, call_checks}
use Rattle.rules.specs.Rules.{call_action}
use Rattle.rules.specs.Valid.{ChangeFits}
use Rattle.rules.proofs.FitLaws.{grow_fits}
use Rattle.machine.specs.Machine.{State, Result, pages_from, apply, guard as digest_store}
use Rattle.machine.specs.Consistent.{Consistent}
use Rattle.handle_calls.specs.Passed.{PassedAt}
use Rattle.guard_state.specs.Calls.{FETCHING}
use Rattle.guard_state.specs.declared.Guard.{Guard}
use Rattle.guard_state.specs.State.{numbers_of, state_of, gathered_none}
use Rattle.guard_state.specs.laws.LoadedLaws.{open_loaded}
use Rattle.guard_state.specs.Onward.{write_numbers}
use Rattle.guard_state.specs.laws.Ranges.{in_range}
use Rattle.guard_state.specs.Waits.{waits, ends}
use Rattle.outcomes.specs.declared.Outcome.{Outcome}
use Rattle.outcomes.specs.declared.Outcome.TheVariants.{Done}
use Rattle.outcomes.specs.Sent.{Sends}
use Rattle.outcomes.specs.laws.SentLaws.{finish_sends}
use Rattle.page_changes.specs.laws.BegunLaws.{begun-pages, passed_open, passed_node}
use Rattle.page_changes.specs.Sending.{Sending}
use Rattle.writes.specs.Writing.{Writing, write_in}
use Rattle.writes.specs.laws.RepliedLaws.{fetch_waits}

-- its handle is known, its end and its pages have room
passed_write : (t : Tables) (h : ℕ) (d : List ℕ) → Passed (call_checks t (write h d))
    → (find_handle t.opens h < length t.opens) × (ltb FILE_BYTES (write_end t h d) ≡ false)
    × (no_room t (file_place t h) (max (file t h).size (write_end t h d)) ≡ false)
unfolding call_checks
passed_write t h d (both f (both g (both k _))) = (leb-false _ _ (or_fst _ _ f), g, k)

pub write-call : (m m₁ : List ℕ) (k o p n : ℕ) → numbers_of (mem_of m₁).head ≡ write_numbers (numbers_of (mem_of m).head) k
    o p n
    → Writing (numbers_of (mem_of m₁).head).call
unfolding write_numbers
write-call m m₁ k o p n e = let n : (numbers_of (mem_of m₁).head).call ≡ FETCHING = ap (λ (x : Guard). x.call) e in
    (omega arith, omega arith)

-- one that passed, by the places of its open file and its node
module _ (c : Config) (m : List ℕ) (held : Consistent c (state_of c m)) (handle : ℕ) (bytes : List ℕ) (opened node : ℕ)
    (passed : PassedAt (state_of c m).skeleton.tables handle (write handle bytes) opened node) where
  abbrev s : State (digest_store c)
  s = state_of c m

  abbrev t : Tables
  t = (state_of c m).skeleton.tables

  abbrev g : Guard
  g = numbers_of (mem_of m).head

  abbrev move : Move
  move = call_action (state_of c m).skeleton.tables c.width (write handle bytes)

  open_there : opened < g.opens
  open_there = passed_open c m handle (write handle bytes) opened node passed
      (passed_write t handle bytes passed.checks).0

  pub node-low : node < NODES
  node-low =
      omega (
        arith,
        passed_node c m handle (write handle bytes) opened node passed
            (passed_write t handle bytes passed.checks).0 held,
        (in_range g (mem_of m).head refl).nodes,
      )

  pub write_done : length bytes ≡ 0 → (m' q : List ℕ) → state_of c m' ≡ ends c s t s.contents
      → Sends c (apply c (digest_store c) s move) (Done 0 0) m' q q
  unfolding call_action
  write_done e m' q f = finish_sends c s _ t 0 m' q (pick_true _ _ _ (eq-eqb (length bytes) 0 e)) f

  module _ (some : length bytes ≡ 0 → ⊥) (z : ℕ) (read : z ≡ (open_at (mem_of m).opens opened).cursor) where
    cursor_at_lem : z ≡ (open_file t handle).cursor
    cursor_at_lem =
        read ∙ ap (λ (o : OpenFile). o.cursor) (open_loaded m c opened open_there)
        ∙ ap (λ (j : ℕ). (open_at t.opens j).cursor) (sym passed.open_place_lem)

    grows : ChangeFits t.nodes t.opens node opened (writing z bytes)
    grows =
        let (h, l, r) = passed_write t handle bytes passed.checks in
        let f = grow_fits c s.skeleton held.holds.valid.tables handle bytes h some l r in
        subst (λ (j : ℕ). ChangeFits t.nodes t.opens node opened (writing j bytes)) (sym cursor_at_lem)
        (subst (λ (i : ℕ). ChangeFits t.nodes t.opens i opened (writing (open_file t handle).cursor bytes))
        passed.file_place_lem
        (subst (λ (i : ℕ). ChangeFits t.nodes t.opens (file_place t handle) i (writing (open_file t handle).cursor
        bytes)) passed.open_place_lem f))

    pub cursor_most : z ≤ FILE_BYTES
    unfolding size_after
    cursor_most = omega (arith, grows.most)

    begins : move ≡ begin node opened (writing z bytes)
    unfolding call_action
    begins = pick-false _ _ _ (ne_eqb (length bytes) 0 some)
        ∙ (λ i. begin (passed.file_place_lem i) (passed.open_place_lem i) (writing (sym cursor_at_lem i) bytes))

    -- the memory m₁ has its numbers and its bytes
    module _ (m₁ : List ℕ) (numbers : numbers_of (mem_of m₁).head ≡ write_numbers (numbers_of (mem_of m).head) node opened
        z (length bytes))
        (waiting : state_of c m₁ ≡ waits c (state_of c m) (fetching node opened (writing z bytes) 0) gathered_none) where
      abbrev g₁ : Guard
      g₁ = numbers_of (mem_of m₁).head

      begun_change : write_in m₁ ≡ writing z bytes
      unfolding write_numbers waits
      begun_change =
          let e : fetching g₁.node g₁.opened (write_in m₁) g₁.page ≡ fetching node opened (writing z bytes) 0 =
          sym (fetch_waits c m₁ (ap (λ (x : Guard). x.call) numbers))
          ∙ ap (λ (x : State (digest_store c)). x.skeleton.pending) waiting in
          cc

      same_tables : (state_of c m₁).skeleton.tables ≡ t
      unfolding waits
      same_tables = ap (λ (x : State (digest_store c)). x.skeleton.tables) waiting

      pub begun-sending : Sending c m₁ (write_in m₁) (z / PAGE_BYTES)
      unfolding write_numbers first page_at
      begun-sending =
          let f : first (write_in m₁) ≡ z / PAGE_BYTES = ap first begun_change in
          let l : last (write_in m₁) ≡ last (writing z bytes) = ap last begun_change in
          let d : g₁.digests ≡ 0 = ap (λ (x : Guard). x.digests) numbers in
          record {
            fits =
                subst (λ (x : Tables). ChangeFits x.nodes x.opens g₁.node g₁.opened (write_in m₁))
                (sym same_tables)
                (subst (λ (x : Guard). ChangeFits t.nodes t.opens x.node x.opened (write_in m₁))
                (sym numbers)
                (subst (ChangeFits t.nodes t.opens node opened) (sym begun_change) grows));
            room = subst (λ (x : Tables). page_total x.nodes ≤ PAGES) (sym same_tables)
                (to_sound c.width t.nodes held.holds.valid.tables.nodes_valid.sound).pages;
            from = omega (arith, f);
            to = omega (arith, f, l, first-last (writing z bytes) _ grows.fits);
            sent = omega (arith, d, f);
          }

      pub write-begins : (x : Outcome) (m' b b' : List ℕ)
          → Sends c (pages_from c (digest_store c) (state_of c m₁) g₁.node g₁.opened (write_in m₁) (z / PAGE_BYTES)) x
          m' b b'
          → Sends c (apply c (digest_store c) s move) x m' b b'
      unfolding write_numbers first page_at
      write-begins x m' b b' =
          subst (λ (v : Result (digest_store c)). Sends c v x m' b b')
          ((λ i. pages_from c (digest_store c) (waiting i) (numbers i).node (numbers i).opened (begun_change i)
          (z / PAGE_BYTES))
          ∙ begun-pages c s (fetching node opened (writing z bytes) 0) node opened (writing z bytes)
          ∙ ap (apply c (digest_store c) s) (sym begins))
