-- A change of a file's bytes, read from the header: the numbers as it begins, what it has gathered, and the state as it
-- goes on.
-- Assumes nothing.
use Rattle.std.specs.Prelude.{◌≢◌, ◌≡◌, false, ℕ, zero, suc, ◌+◌, ◌-◌, ◌*◌, ◌%◌, ◌≤◌, ◌<◌, length, take, set}
use Rattle.std.proofs.Math.Path.{refl, ap, sym}
use Rattle.std.proofs.Common.{ap₂, ◌∙◌, arith, get_or-drop, get_or-set_same, get_or-set_other}
use mathlib.Core.List.{List, [], ◌∷◌, ◌++◌}
use Rattle.std.proofs.Math.ListN.{get_or}
use Rattle.lists.specs.Cells.{tab}
use Rattle.lists.specs.Pick.{pick}
use Rattle.lists.specs.Rows.{rows}
use Rattle.lists.specs.Parts.{overwrite}
use Rattle.filesystem.specs.Tables.{NODES, FILE_BYTES, DATA_BYTES}
use Rattle.filesystem.specs.MemoryMaps.{MAPS}
use Rattle.memory.specs.Layout.{Mem, mem_of, head_numbers, open_rows, new_digests, digest_width, data_size, memory_size}
use Rattle.memory.specs.Layout.{with_head, with_staged}
use Rattle.memory.specs.laws.MemLaws.{length_head, length-staged}
use Rattle.rules.specs.Requests.{asked, Pending, idle, creating, opening, closing, removing, changing, listing, stating}
use Rattle.rules.specs.Requests.{reading, fetching, storing, cutting, mapping, unmapping, renaming}
use Rattle.rules.specs.Pages.{writing, shrinking, growing}
use Rattle.rules.specs.Skeleton.{Config}
use Rattle.machine.specs.Machine.{Gathered}
use Rattle.tables.specs.View.{view_of, staged_digests}
use Rattle.guard_state.specs.Calls.{FETCHING, CUTTING, GROWING, Truncating, for_shrink, for_growth, truncation_on}
use Rattle.guard_state.specs.declared.Guard.{Guard}
use Rattle.guard_state.specs.State.{file_pages, numbers_of, pendings, pending_in, gathered_in, gathered_none}
use Rattle.guard_state.specs.State.{gathered_bytes, gathered_digests, staged_bytes, state_with, state_in, state_of}
use Rattle.guard_state.specs.State.{cleared_head, map_count}
use Rattle.guard_state.specs.laws.StageLaws.{bytes-kept, digests_more}
use Rattle.guard_state.specs.Waits.{waits}
use Rattle.guard_state.specs.Onward.{write_numbers, truncate_numbers, goes_on}
use Rattle.guard_state.specs.laws.WaitLaws.{kept, head_cells, waits_as}

-- as it begins
module _ (h : List ℕ) (k o : ℕ) (f : k < NODES) (g : o < open_rows) where
  pub write_numbers_lem : (p n : ℕ) → p ≤ FILE_BYTES → n ≤ DATA_BYTES
      → numbers_of (set (set (set (set (set (cleared_head h) 3 9) 4 k) 5 o) 10 p) 14 n) ≡ write_numbers (numbers_of h) k o p
      n
  unfolding numbers_of cleared_head write_numbers
  write_numbers_lem p n a b = λ i. record {
    nodes = get_or h 0 0 % (NODES + 1);
    opens = get_or h 1 0 % (open_rows + 1);
    stopped = false;
    call = FETCHING;
    node = kept k NODES f i;
    opened = kept o open_rows g i;
    parent = 0;
    kind = 0;
    mode = 0;
    rights = 0;
    position = kept p (FILE_BYTES + 1) (omega arith) i;
    count = 0;
    size = 0;
    page = 0;
    bytes = kept n (DATA_BYTES + 1) (omega arith) i;
    digests = 0;
  }

  pub truncate_numbers_lem : (call z : ℕ) → z ≤ FILE_BYTES
      → numbers_of (set (set (set (set (cleared_head h) 3 call) 4 k) 5 o) 12 z) ≡ truncate_numbers (numbers_of h) call k o z
  unfolding numbers_of cleared_head truncate_numbers
  truncate_numbers_lem call z a = λ i. record {
    nodes = get_or h 0 0 % (NODES + 1);
    opens = get_or h 1 0 % (open_rows + 1);
    stopped = false;
    call = call;
    node = kept k NODES f i;
    opened = kept o open_rows g i;
    parent = 0;
    kind = 0;
    mode = 0;
    rights = 0;
    position = 0;
    count = 0;
    size = kept z (FILE_BYTES + 1) (omega arith) i;
    page = 0;
    bytes = 0;
    digests = 0;
  }

-- a truncation that begins: what it waits for, and that it has gathered nothing
module _ (g : Guard) (s : List ℕ) (k o z : ℕ) where
  pub truncate_pending : {call : ℕ} → Truncating call
      → pending_in (truncate_numbers g call k o z) s ≡ truncation_on call k o z
  unfolding pending_in pendings truncate_numbers truncation_on pick
  truncate_pending for_shrink = refl
  truncate_pending for_growth = refl

  pub truncate_gathered : {call : ℕ} → Truncating call → gathered_in (truncate_numbers g call k o z) s ≡ gathered_none
  unfolding gathered_in truncate_numbers staged_digests rows
  truncate_gathered for_shrink = refl
  truncate_gathered for_growth = refl

-- what it has gathered
five : {A : Type 0} (x d : A) (n : ℕ) → n ≤ 4 → get_or (x ∷ x ∷ x ∷ x ∷ x ∷ []) n d ≡ x
five x d zero h = refl
five x d (suc zero) h = refl
five x d (suc (suc zero)) h = refl
five x d (suc (suc (suc zero))) h = refl
five x d (suc (suc (suc (suc zero)))) h = refl
five x d (suc (suc (suc (suc (suc n))))) h = absurd (omega arith)

abbrev gathereds : Guard → List ℕ → List Gathered
gathereds g s =
    let n = gathered_none in
    let d = gathered_digests g s in
    n ∷ n ∷ n ∷ n ∷ n ∷ n ∷ n ∷ n ∷ gathered_bytes g s ∷ d ∷ d ∷ d ∷ d ∷ d ∷ []

pub gathered_change : (g : Guard) (s : List ℕ) → FETCHING ≤ g.call → g.call ≤ CUTTING
    → gathered_in g s ≡ gathered_digests g s
unfolding gathered_in
gathered_change g s a b =
    let e : g.call ≡ 9 + (g.call - 9) = omega arith in
    ap (λ (i : ℕ). get_or (gathereds g s) i gathered_none) e ∙ sym (get_or-drop 9 (gathereds g s) (g.call - 9) gathered_none)
    ∙ five (gathered_digests g s) gathered_none (g.call - 9) (omega arith)

-- a growth stores no page
pub gathered_growth : (g : Guard) (s : List ℕ) → g.call ≡ GROWING → gathered_in g s ≡ gathered_none
unfolding gathered_in
gathered_growth g s e = ap (λ (i : ℕ). get_or (gathereds g s) i gathered_none) e

-- of the staging area, what is pending holds the call's bytes
pub pending_kept : (g : Guard) (s t : List ℕ) → staged_bytes g s ≡ staged_bytes g t → pending_in g s ≡ pending_in g t
unfolding pending_in pendings
pending_kept g s t e =
    ap
    (λ (b : List ℕ).
    get_or
    (idle
    ∷ asked (creating g.parent g.kind g.mode b)
    ∷ asked (opening g.node g.rights)
    ∷ asked (closing g.opened)
    ∷ asked (removing g.node)
    ∷ asked (changing g.node g.mode)
    ∷ asked (listing g.node)
    ∷ asked (stating g.node)
    ∷ reading g.node g.opened g.position g.count g.page
    ∷ fetching g.node g.opened (writing g.position b) g.page
    ∷ storing g.node g.opened (writing g.position b) g.page
    ∷ fetching g.node g.opened (shrinking g.size) g.page
    ∷ storing g.node g.opened (shrinking g.size) g.page
    ∷ cutting g.node g.opened (shrinking g.size)
    ∷ cutting g.node g.opened (growing g.size)
    ∷ asked (mapping g.size)
    ∷ asked (unmapping g.parent)
    ∷ asked (renaming g.node g.parent b)
    ∷ [])
    g.call idle)
    e

-- it waits for something else: numbers 2, 3 and 13 of the header
abbrev onward_head : (call page : ℕ) → List ℕ → List ℕ
onward_head call page h = set (set (set h 2 1) 3 call) 13 page

abbrev onward_numbers : (call page : ℕ) → Guard → Guard
onward_numbers call page g = let x = goes_on call page g in record {
  nodes = x.nodes;
  opens = x.opens;
  stopped = false;
  call = x.call;
  node = x.node;
  opened = x.opened;
  parent = x.parent;
  kind = x.kind;
  mode = x.mode;
  rights = x.rights;
  position = x.position;
  count = x.count;
  size = x.size;
  page = x.page;
  bytes = x.bytes;
  digests = x.digests;
}

numbers-onward : (h : List ℕ) (call page : ℕ) → length h ≡ head_numbers → page ≤ file_pages
    → numbers_of (onward_head call page h) ≡ onward_numbers call page (numbers_of h)
unfolding numbers_of goes_on tab
numbers-onward h call page e f =
    ap (λ (x : List ℕ). numbers_of (onward_head call page x)) (head_cells 16 h (omega arith))
    ∙ ap (λ (x : ℕ). onward_numbers call x (numbers_of h)) (kept page (file_pages + 1) (omega arith))

-- the counts stay, and with them the tables
module _ (h : List ℕ) (call page : ℕ) where
  count-onward : (k : ℕ) → k ≢ 2 → k ≢ 3 → k ≢ 13 → get_or (onward_head call page h) k 0 ≡ get_or h k 0
  count-onward k a b f =
      get_or-set_other (set (set h 2 1) 3 call) 13 k page 0 f ∙ get_or-set_other (set h 2 1) 3 k call 0 b
      ∙ get_or-set_other h 2 k 1 0 a

  stop_onward : 2 < length h → get_or (onward_head call page h) 2 0 ≡ 1
  stop_onward f =
      get_or-set_other (set (set h 2 1) 3 call) 13 2 page 0 (omega arith) ∙ get_or-set_other (set h 2 1) 3 2 call 0
      (omega arith) ∙ get_or-set_same h 2 1 0 f

pub goes_on_lem : (c : Config) (m x : List ℕ) (call page : ℕ) → FETCHING ≤ (numbers_of (mem_of m).head).call
    → (numbers_of (mem_of m).head).call ≤ CUTTING → FETCHING ≤ call → call ≤ CUTTING
    → page ≤ file_pages
    → mem_of x ≡ with_head (onward_head call page (mem_of m).head) (mem_of m)
    → state_of c x ≡ waits c (state_of c m) (pending_in (goes_on call page (numbers_of (mem_of m).head)) (mem_of m).staged)
    (state_of c m).progress
unfolding state_of state_in view_of pending_in pendings staged_bytes goes_on
goes_on_lem c m x call page a b f g p e =
    let h = (mem_of m).head in
    let s = (mem_of m).staged in
    let n = numbers-onward h call page (length_head m) p in
    let was : gathered_in (numbers_of h) s ≡ gathered_digests (numbers_of h) s = gathered_change (numbers_of h) s a b in
    let is : gathered_in (numbers_of (onward_head call page h)) s ≡ gathered_in (numbers_of h) s =
    ap (λ (q : Guard). gathered_in q s) n ∙ gathered_change (onward_numbers call page (numbers_of h)) s f g ∙ sym was in
    waits_as c m x (onward_head call page h) e (count-onward h call page 0 (omega arith) (omega arith) (omega arith))
    (count-onward h call page 1 (omega arith) (omega arith) (omega arith))
    (count-onward h call page 16 (omega arith) (omega arith) (omega arith))
    (pending_in (goes_on call page (numbers_of h)) s) (gathered_in (numbers_of h) s)
    (stop_onward h call page (omega (arith, length_head m))) (ap (λ (q : Guard). pending_in q s) n) is

-- the header's count of new digests, and the staging area, say nothing of the tables
waits_over : (c : Config) (m x y s : List ℕ) (p : Pending) (a : Gathered)
    → mem_of x ≡ with_head y (with_staged s (mem_of m))
    → get_or y 0 0 ≡ get_or (mem_of m).head 0 0 → get_or y 1 0 ≡ get_or (mem_of m).head 1 0
    → get_or y 16 0 ≡ get_or (mem_of m).head 16 0
    → waits c (state_of c x) p a ≡ waits c (state_of c m) p a
unfolding state_of state_in view_of map_count waits numbers_of
waits_over c m x y s p a e n o l =
    ap (λ (t : Mem). let q = numbers_of t.head in waits c (state_in c q (view_of q.nodes q.opens t)) p a) e
    ∙ (λ i. state_with c (view_of (n i % (NODES + 1)) (o i % (open_rows + 1)) (mem_of m))
    (take (l i % (MAPS + 1)) (mem_of m).maps) p false a)

-- one digest more: number 15 of the header
abbrev digest_numbers : ℕ → Guard → Guard
digest_numbers n g = record {
  nodes = g.nodes;
  opens = g.opens;
  stopped = g.stopped;
  call = g.call;
  node = g.node;
  opened = g.opened;
  parent = g.parent;
  kind = g.kind;
  mode = g.mode;
  rights = g.rights;
  position = g.position;
  count = g.count;
  size = g.size;
  page = g.page;
  bytes = g.bytes;
  digests = n;
}

numbers-digest : (h : List ℕ) (n : ℕ) → length h ≡ head_numbers → n ≤ new_digests → numbers_of (set h 15 n) ≡ digest_numbers
    n (numbers_of h)
unfolding numbers_of tab
numbers-digest h n e f =
    ap (λ (x : List ℕ). numbers_of (set x 15 n)) (head_cells 16 h (omega arith))
    ∙ ap (λ (x : ℕ). digest_numbers x (numbers_of h)) (kept n (new_digests + 1) (omega arith))

abbrev sent_digests : List (List ℕ) → Gathered
sent_digests l = record { bytes = []; digests = l }

-- a digest is staged behind those before
module _ (m x d : List ℕ) (k : ℕ) (at : k ≡ (numbers_of (mem_of m).head).digests) (room : k < new_digests)
    (wide : length d ≡ digest_width) (fits : memory_size ≤ length m)
    (e : mem_of x ≡ with_head (set (mem_of m).head 15 (k + 1))
    (with_staged (overwrite (mem_of m).staged (data_size + k * digest_width) d) (mem_of m))) where
  numbers-sent : numbers_of (mem_of x).head ≡ digest_numbers (k + 1) (numbers_of (mem_of m).head)
  numbers-sent = ap (λ (t : Mem). numbers_of t.head) e ∙ numbers-digest (mem_of m).head (k + 1) (length_head m)
      (omega arith)

  -- the call is as it was
  pub call-sent : (numbers_of (mem_of x).head).call ≡ (numbers_of (mem_of m).head).call
  call-sent = ap (λ (g : Guard). g.call) numbers-sent

  pending_sent : (call page : ℕ)
      → pending_in (goes_on call page (numbers_of (mem_of x).head)) (mem_of x).staged ≡ pending_in
      (goes_on call page (numbers_of (mem_of m).head)) (mem_of m).staged
  unfolding numbers_of goes_on pending_in pendings staged_bytes
  pending_sent call page =
      let g = goes_on call page (numbers_of (mem_of m).head) in
      ap (λ (q : Guard). pending_in (goes_on call page q) (mem_of x).staged) numbers-sent
      ∙ ap (λ (t : Mem). pending_in g t.staged) e
      ∙ pending_kept g (overwrite (mem_of m).staged (data_size + k * digest_width) d) (mem_of m).staged
      (bytes-kept (mem_of m).staged (length-staged m fits) d g k (omega arith) wide room)

  progress-sent : (c : Config) → FETCHING ≤ (numbers_of (mem_of m).head).call → (numbers_of (mem_of m).head).call ≤ CUTTING
      → (state_of c x).progress ≡ record { bytes = []; digests = (state_of c m).progress.digests ++ (d ∷ []) }
  unfolding state_of state_in view_of
  progress-sent c a b =
      let g = numbers_of (mem_of m).head in
      let s = overwrite (mem_of m).staged (data_size + k * digest_width) d in
      let n = digest_numbers (k + 1) g in
      let y : staged_digests k (mem_of m).staged ≡ (gathered_in g (mem_of m).staged).digests =
      ap (λ (i : ℕ). staged_digests i (mem_of m).staged) at
      ∙ sym (ap (λ (q : Gathered). q.digests) (gathered_change g (mem_of m).staged a b)) in
      ap (λ (q : Guard). gathered_in q (mem_of x).staged) numbers-sent
      ∙ ap (λ (t : Mem). gathered_in n t.staged) e
      ∙ gathered_change n s a b
      ∙ ap sent_digests (digests_more (mem_of m).staged (length-staged m fits) d k wide room)
      ∙ ap (λ (l : List (List ℕ)). sent_digests (l ++ (d ∷ []))) y

  -- a state that goes on from there
  pub goes_on-sent : (c : Config) (call page : ℕ) → FETCHING ≤ (numbers_of (mem_of m).head).call
      → (numbers_of (mem_of m).head).call ≤ CUTTING
      → waits c (state_of c x) (pending_in (goes_on call page (numbers_of (mem_of x).head)) (mem_of x).staged)
      (state_of c x).progress
      ≡ waits c (state_of c m) (pending_in (goes_on call page (numbers_of (mem_of m).head)) (mem_of m).staged)
      (record { bytes = []; digests = (state_of c m).progress.digests ++ (d ∷ []) })
  goes_on-sent c call page a b =
      ap₂ (waits c (state_of c x)) (pending_sent call page) (progress-sent c a b)
      ∙ waits_over c m x (set (mem_of m).head 15 (k + 1)) (overwrite (mem_of m).staged (data_size + k * digest_width) d) _
      _ e
      (get_or-set_other (mem_of m).head 15 0 (k + 1) 0 (omega arith)) (get_or-set_other (mem_of m).head 15 1 (k + 1) 0
      (omega arith)) (get_or-set_other (mem_of m).head 15 16 (k + 1) 0 (omega arith))
