-- What the header's numbers are read as: of a call that waits, of one that has ended, of a stop, of a fresh guard.
-- Assumes nothing.
use Rattle.std.specs.Prelude.{◌≡◌, ℕ, zero, suc, ◌+◌, ◌%◌, ◌≤◌, ◌<◌, eqb, length, get_or, take, drop, set}
use Rattle.std.proofs.Math.Path.{refl, ap, ap₂}
use Rattle.std.proofs.Common.{◌∙◌, mod-eq_of_lt, arith}
use mathlib.Core.List.{List, [], ◌∷◌, ◌++◌}
use Rattle.lists.specs.Cells.{tab}
use Rattle.lists.specs.Parts.{overwrite}
use Rattle.lists.specs.PartLaws.{take_overwrite}
use Rattle.filesystem.specs.Tables.{NODES, NAME_BYTES, DATA_BYTES, root, pages_for}
use Rattle.filesystem.specs.MemoryMaps.{MAPS}
use Rattle.filesystem.specs.Image.{divide}
use Rattle.memory.specs.Layout.{Mem, mem_of, head_numbers, open_rows, with_head, with_nodes, with_staged}
use Rattle.memory.specs.laws.MemLaws.{length_head}
use Rattle.rules.specs.Requests.{Pending, idle, asked}
use Rattle.rules.specs.Skeleton.{Config}
use Rattle.machine.specs.Machine.{Gathered, fresh, guard as digest_store}
use Rattle.tables.specs.View.{view_of}
use Rattle.guard_state.specs.Calls.{OnNode, for_open, for_remove, for_chmod, for_readdir, for_stat, question_on}
use Rattle.guard_state.specs.State.{numbers_of, state_with, state_in, state_of, cleared_head, cleared_call, cleared_span}
use Rattle.guard_state.specs.State.{pendings, pending_in, gathered_in, gathered_none, map_count}
use Rattle.guard_state.specs.Waits.{waits, ends, stops, remaps, resting_state}

-- a number within its limit is read as it is
pub kept : (x n : ℕ) → x < n → x % n ≡ x
kept x n h = mod-eq_of_lt h

-- a name that was staged, by the length under `bytes`
pub staged_name : (s x : List ℕ) → length x ≤ NAME_BYTES → take (length x % (DATA_BYTES + 1)) (overwrite s 0 x) ≡ x
staged_name s x h =
    ap (λ (n : ℕ). take n (overwrite s 0 x)) (kept (length x) (DATA_BYTES + 1) (omega arith))
    ∙ take_overwrite s 0 x (length x) (omega arith) (omega arith)

-- the first n numbers, one by one
pub head_cells : (n : ℕ) (h : List ℕ) → n ≤ length h → h ≡ tab n (λ i. get_or h i 0) ++ drop n h
unfolding tab
head_cells zero h f = refl
head_cells (suc n) [] f = absurd (omega arith)
head_cells (suc n) (x ∷ h) f = ap (λ (l : List ℕ). x ∷ l) (head_cells n h (omega arith))

abbrev clears : List ℕ → List ℕ
clears h = cleared_span (cleared_call h)

pub head_cleared : (h : List ℕ) → length h ≡ head_numbers → clears h ≡ cleared_head h
unfolding cleared_head tab
head_cleared h e = ap clears (head_cells 17 h (omega arith))

-- a call's number taken back, the others left
head_idle : (h : List ℕ) → length h ≡ head_numbers
    → set (set h 2 1) 3 0 ≡ set (set (tab 17 (λ i. get_or h i 0) ++ drop 17 h) 2 1) 3 0
head_idle h e = ap (λ (l : List ℕ). set (set l 2 1) 3 0) (head_cells 17 h (omega arith))

-- numbers that are read as a pending call, over the tables as they are; s is staged
module _ (c : Config) (m x y s : List ℕ) (e : mem_of x ≡ with_head y (with_staged s (mem_of m)))
    (n : get_or y 0 0 ≡ get_or (mem_of m).head 0 0) (o : get_or y 1 0 ≡ get_or (mem_of m).head 1 0)
    (l : get_or y 16 0 ≡ get_or (mem_of m).head 16 0) where
  pub staged_waits : (p : Pending) (a : Gathered) → get_or y 2 0 ≡ 1 → pending_in (numbers_of y) s ≡ p
      → gathered_in (numbers_of y) s ≡ a
      → state_of c x ≡ waits c (state_of c m) p a
  unfolding state_in state_of view_of map_count waits numbers_of
  staged_waits p a z f g =
      ap (λ (t : Mem). let q = numbers_of t.head in state_in c q (view_of q.nodes q.opens t)) e
      ∙ (λ i. state_with c (view_of (n i % (NODES + 1)) (o i % (open_rows + 1)) (mem_of m))
      (take (l i % (MAPS + 1)) (mem_of m).maps) (f i) (eqb (z i) 0) (g i))

pub waits_as : (c : Config) (m x y : List ℕ) → mem_of x ≡ with_head y (mem_of m) → get_or y 0 0 ≡ get_or (mem_of m).head 0 0
    → get_or y 1 0 ≡ get_or (mem_of m).head 1 0 → get_or y 16 0 ≡ get_or (mem_of m).head 16 0
    → (p : Pending) (a : Gathered) → get_or y 2 0 ≡ 1 → pending_in (numbers_of y) (mem_of m).staged ≡ p
    → gathered_in (numbers_of y) (mem_of m).staged ≡ a → state_of c x ≡ waits c (state_of c m) p a
waits_as c m x y = staged_waits c m x y (mem_of m).staged

-- a call on a node, its mode or its rights under both
module _ (h s : List ℕ) (k number : ℕ) (small : k < NODES) where
  abbrev on_node : ℕ → List ℕ
  on_node call = set (set (set (set (cleared_head h) 3 call) 4 k) 8 number) 9 number

  pub node_pending : {call : ℕ} → OnNode call → pending_in (numbers_of (on_node call)) s ≡ asked (question_on call k number)
  unfolding cleared_head numbers_of pendings pending_in question_on
  node_pending for_open = ap (λ (n : ℕ). asked (question_on 2 n number)) (kept k NODES small)
  node_pending for_remove = ap (λ (n : ℕ). asked (question_on 4 n number)) (kept k NODES small)
  node_pending for_chmod = ap (λ (n : ℕ). asked (question_on 5 n number)) (kept k NODES small)
  node_pending for_readdir = ap (λ (n : ℕ). asked (question_on 6 n number)) (kept k NODES small)
  node_pending for_stat = ap (λ (n : ℕ). asked (question_on 7 n number)) (kept k NODES small)

  pub node_gathered : {call : ℕ} → OnNode call → gathered_in (numbers_of (on_node call)) s ≡ gathered_none
  unfolding cleared_head numbers_of gathered_in
  node_gathered for_open = refl
  node_gathered for_remove = refl
  node_gathered for_chmod = refl
  node_gathered for_readdir = refl
  node_gathered for_stat = refl

-- what is pending, by the call's number
pub pending_at : (c : Config) (m : List ℕ) (k : ℕ) → (numbers_of (mem_of m).head).call ≡ k
    → (state_of c m).skeleton.pending ≡ get_or (pendings (numbers_of (mem_of m).head) (mem_of m).staged) k idle
unfolding state_of state_in view_of pending_in
pending_at c m k e = ap (λ (i : ℕ). get_or (pendings (numbers_of (mem_of m).head) (mem_of m).staged) i idle) e

-- nothing is pending; a stop
module _ (c : Config) (m x : List ℕ) where
  pub ends_as : mem_of x ≡ with_head (set (set (mem_of m).head 2 1) 3 0) (mem_of m)
      → state_of c x ≡ ends c (state_of c m) (state_of c m).skeleton.tables (state_of c m).contents
  unfolding state_of state_in view_of map_count numbers_of tab pendings pending_in gathered_in ends
  ends_as e =
      ap (λ (s : Mem). let g = numbers_of s.head in state_in c g (view_of g.nodes g.opens s))
      (e ∙ ap (λ (h : List ℕ). with_head h (mem_of m)) (head_idle (mem_of m).head (length_head m)))

  pub stops_as : mem_of x ≡ with_head (set (cleared_head (mem_of m).head) 2 0) (mem_of m)
      → state_of c x ≡ stops c (state_of c m)
  unfolding state_of state_in view_of map_count numbers_of cleared_head pendings pending_in gathered_in stops
  stops_as e = ap (λ (s : Mem). let g = numbers_of s.head in state_in c g (view_of g.nodes g.opens s)) e

  pub rests_as : (n o : ℕ) → n ≤ NODES → o ≤ open_rows
      → mem_of x ≡ with_head (set (set (cleared_head (mem_of m).head) 0 n) 1 o) (mem_of m)
      → state_of c x ≡ resting_state c (view_of n o (mem_of m))
  unfolding state_of state_in view_of map_count numbers_of cleared_head pendings pending_in gathered_in resting_state
  rests_as n o f g e =
      ap (λ (s : Mem). let q = numbers_of s.head in state_in c q (view_of q.nodes q.opens s)) e
      ∙ ap₂ (λ i j. resting_state c (view_of i j (mem_of m))) (kept n (NODES + 1) (omega arith))
      (kept o (open_rows + 1) (omega arith))

  -- a call is done that left n maps, in these rows
  pub remaps_as : (n : ℕ) → n ≤ MAPS → mem_of x ≡ with_head (set (set (set (mem_of m).head 2 1) 3 0) 16 n) (mem_of m)
      → state_of c x ≡ remaps c (state_of c m) (take n (mem_of m).maps)
  unfolding state_of state_in view_of map_count numbers_of tab pendings pending_in gathered_in remaps
  remaps_as n f e =
      ap (λ (s : Mem). let g = numbers_of s.head in state_in c g (view_of g.nodes g.opens s))
      (e ∙ ap (λ (h : List ℕ). with_head (set h 16 n) (mem_of m)) (head_idle (mem_of m).head (length_head m)))
      ∙ ap (λ (k : ℕ). remaps c (state_of c m) (take k (mem_of m).maps)) (kept n (MAPS + 1) (omega arith))

first-row : {A : Type 0} (l : List A) (x : A) → 0 < length l → take 1 (set l 0 x) ≡ x ∷ []
first-row [] x h = absurd (omega arith)
first-row (y ∷ l) x h = refl

-- the root's row, and nothing pending
pub rests_fresh : (c : Config) (m : Mem) → 0 < length m.nodes → get_or m.head 16 0 ≡ 0
    → resting_state c (view_of 1 0 (with_nodes (set m.nodes 0 root) m)) ≡ fresh c (digest_store c)
unfolding resting_state view_of map_count divide pages_for
rests_fresh c m h z = rw (first-row m.nodes root h, z)
