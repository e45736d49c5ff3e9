-- Laws of specs/Taken.antt.
-- Assumes nothing.
use Rattle.std.specs.Prelude.{◌≡◌, Bool, eqb, take}
use Rattle.std.proofs.Math.Path.{refl, ap, sym, subst}
use Rattle.std.proofs.Common.{◌∙◌, eqb-true}
use Rattle.std.proofs.Math.Bool.{true, false, not}
use mathlib.Core.List.{List, [], ◌∷◌, ◌++◌}
use Prim.Native.Nat.{ℕ, ◌+◌, ◌-◌, ◌*◌, ◌<◌, ◌≤◌, max}
use native.Mathlib.Omega.{arith}
use Rattle.std.proofs.Math.ListN.{length, get_or}
use Rattle.std.proofs.Math.Seq.{length-take-le}
use Rattle.lists.specs.Pick.{pick}
use Rattle.lists.specs.Equal.{equal}
use Rattle.lists.specs.Checks.{decide}
use Rattle.digest.specs.Sha256.{sha256}
use Rattle.filesystem.specs.Tables.{NODES, PAGES, PAGE_BYTES, FILE_BYTES, DATA_BYTES, Node, Tables, node_at, pages_for}
use Rattle.filesystem.specs.Tables.{page_total}
use Rattle.filesystem.specs.Image.{in_limits, divide}
use Rattle.filesystem.specs.Sound.{to_sound, to_limits, by_kind}
use Rattle.memory.specs.Layout.{mem_of, memory_size, open_rows}
use Rattle.memory.specs.laws.MemLaws.{length-staged}
use Rattle.tables.specs.View.{tables_in, view_of}
use Rattle.tables.specs.laws.RowsInUse.{count-opens}
use Rattle.rules.specs.Pages.{page_at, page_part}
use Rattle.rules.specs.Requests.{Pending, reading}
use Rattle.rules.specs.Skeleton.{Config}
use Rattle.rules.specs.Rules.{halt, read_page, reply_checks, map_reasons, reasons, reply_action, tells_full}
use Rattle.rules.specs.Rules.{full_action}
use Rattle.rules.specs.Valid.{PendingFits, ReadingFits}
use Rattle.rules.specs.Modest.{Gathers}
use Rattle.rules.proofs.Lengths.{gather_more}
use Rattle.machine.specs.Machine.{State, Result, Gathered, read_on, apply, guard as digest_store}
use Rattle.machine.specs.Consistent.{Consistent}
use Rattle.guard_state.specs.Calls.{READING}
use Rattle.guard_state.specs.declared.Guard.{Guard}
use Rattle.guard_state.specs.State.{numbers_of, staged_bytes, pendings, gathered_none, gathered_read, gathered_digests}
use Rattle.guard_state.specs.State.{gathered_in, state_in, state_of, file_pages}
use Rattle.guard_state.specs.laws.WaitLaws.{pending_at}
use Rattle.guard_state.specs.laws.LoadedLaws.{counts_fit, tables-loaded, nodes-loaded, node-there}
use Rattle.replies.specs.Judged.{page_reason}
use Rattle.refusals.specs.Numbers.{reason_number}
use Rattle.refusals.specs.declared.StopReason.{StopReason}
use Rattle.refusals.specs.laws.NumberLaws.{reason_positive}
use Rattle.outcomes.specs.declared.Outcome.{Outcome}
use Rattle.outcomes.specs.declared.Outcome.TheVariants.{Stopped}
use Rattle.outcomes.specs.Sent.{Sends, Leaves}
use Rattle.outcomes.specs.laws.SentLaws.{sends_leaves, stop_sends}
use Rattle.outcomes.specs.Answered.{taken, answered}
use Rattle.reads.specs.laws.PageLaws.{staged_more}
use Rattle.reads.specs.Taken.{InRead}

-- The reply, by the reason that was found.

-- reasons side by side with what they lead to
module _ {A : Type 0} (f : ℕ → A) (u : A) where
  reason_stops : (x y : Bool) (b : ℕ) → b ≡ pick x (pick y 0 5) 1 → 0 < b → pick x (pick y u (f 5)) (f 1) ≡ f b
  unfolding pick
  reason_stops true true b e h = absurd (omega arith)
  reason_stops true false b e h = ap f (sym e)
  reason_stops false y b e h = ap f (sym e)

  reason_passes : (x y : Bool) → ◌≡◌ {A = ℕ} 0 (pick x (pick y 0 5) 1) → pick x (pick y u (f 5)) (f 1) ≡ u
  unfolding pick
  reason_passes true true e = refl
  reason_passes true false e = absurd (omega arith)
  reason_passes false y e = absurd (omega arith)

module _ (c : Config) (hashed : c.digest ≡ sha256) (s : State (digest_store c)) (r : List ℕ) (k o p n i : ℕ)
    (waiting : s.skeleton.pending ≡ reading k o p n i) where
  abbrev kept : List ℕ
  kept = get_or (get_or s.contents k []) i []

  abbrev onward : Result (digest_store c)
  onward = read_on c (digest_store c) s k o p n i ((digest_store c).gather s.progress p n i r)

  page_taken_lem : (x : Bool) → apply c (digest_store c) s (decide halt ((1, not x) ∷ []) (read_page k o p n i r))
      ≡ pick x (pick (equal (c.digest r) kept) onward (apply c (digest_store c) s (halt 5)))
      (apply c (digest_store c) s (halt 1))
  unfolding apply decide pick not
  page_taken_lem true = refl
  page_taken_lem false = refl

  page_answered : answered c s r
      ≡ pick (eqb (length r) PAGE_BYTES) (pick (equal (sha256 r) kept) onward (apply c (digest_store c) s (halt 5)))
      (apply c (digest_store c) s (halt 1))
  unfolding answered taken reasons reply_checks map_reasons reply_action pick
  page_answered =
      let t = s.skeleton.tables in
      ap (λ (x : Pending). apply c (digest_store c) s (pick (tells_full c.width r x) (full_action x)
      (decide halt (reply_checks c.width t r x ++ map_reasons s.skeleton.maps r x)
      (reply_action c.width t r x)))) waiting
      ∙ page_taken_lem (eqb (length r) PAGE_BYTES)
      ∙ ap (λ (d : List ℕ → List ℕ).
      pick (eqb (length r) PAGE_BYTES) (pick (equal (d r) kept) onward (apply c (digest_store c) s (halt 5)))
      (apply c (digest_store c) s (halt 1))) hashed

  -- another length or another digest stops the guard
  pub page_stops : (b : StopReason) (x q : List ℕ) → reason_number b ≡ page_reason kept r → state_of c x ≡ s
      → Sends c (answered c s r) (Stopped b) x q q
  unfolding page_reason
  page_stops b x q e g =
      let z = page_answered ∙ reason_stops (λ j. apply c (digest_store c) s (halt j)) onward (eqb (length r) PAGE_BYTES)
      (equal (sha256 r) kept) (reason_number b) e (reason_positive b) in
      subst (λ (y : Result (digest_store c)). Sends c y (Stopped b) x q q) (sym z)
      (stop_sends c s (halt (reason_number b)) b x q refl g)

  -- else the read goes on
  pub page_goes_on : (m a a' q q' : List ℕ) (v : Outcome) → 0 ≡ page_reason kept r → Leaves c onward v m a a' q q'
      → Leaves c (answered c s r) v m a a' q q'
  unfolding page_reason
  page_goes_on m a a' q q' v e l =
      let z = page_answered ∙ reason_passes (λ j. apply c (digest_store c) s (halt j)) onward (eqb (length r) PAGE_BYTES)
      (equal (sha256 r) kept) e in
      subst (λ (y : Result (digest_store c)). Leaves c y v m a a' q q') (sym z) l

pub no_reason_long : (d r : List ℕ) → 0 ≡ page_reason d r → length r ≡ PAGE_BYTES
unfolding page_reason pick
no_reason_long d r e = eqb-true (length r) PAGE_BYTES (go (eqb (length r) PAGE_BYTES) (equal (sha256 r) d) e)
  where
    go : (x y : Bool) → ◌≡◌ {A = ℕ} 0 (pick x (pick y 0 5) 1) → x ≡ true
    go true y z = refl
    go false y z = absurd (omega arith)

-- The pending read, by the header's numbers.
module _ (c : Config) (m : List ℕ) (called : (numbers_of (mem_of m).head).call ≡ READING) where
  abbrev g : Guard
  g = numbers_of (mem_of m).head

  pub read_pending : (state_of c m).skeleton.pending ≡ reading g.node g.opened g.position g.count g.page
  unfolding pendings
  read_pending = pending_at c m 8 called

  pub read_gathered : (state_of c m).progress ≡ gathered_read (take g.bytes (mem_of m).staged)
  unfolding state_of state_in view_of gathered_in staged_bytes
  read_gathered =
      let none : Gathered = gathered_none in
      let some : Gathered = gathered_digests g (mem_of m).staged in
      ap (λ (i : ℕ). get_or
      (none ∷ none ∷ none ∷ none ∷ none ∷ none ∷ none ∷ none ∷ gathered_read (take g.bytes (mem_of m).staged) ∷ some
      ∷ some ∷ some ∷ some ∷ some ∷ []) i none) called

-- the numbers of a read are within their limits
pub record Within (g : Guard) : Type 0 where
  pub node_most : g.node < NODES
  pub open_most : g.opened < open_rows
  pub position_most : g.position ≤ FILE_BYTES
  pub count_most : g.count ≤ DATA_BYTES
  pub page_most : g.page ≤ file_pages
  pub bytes_most : g.bytes ≤ DATA_BYTES

numbers_within : (h : List ℕ) → Within (numbers_of h)
unfolding numbers_of
numbers_within h = record {
  node_most = omega arith;
  open_most = omega arith;
  position_most = omega arith;
  count_most = omega arith;
  page_most = omega arith;
  bytes_most = omega arith;
}

pub loaded_within : (h : List ℕ) (g : Guard) → g ≡ numbers_of h → Within g
loaded_within h g e = subst Within (sym e) (numbers_within h)

-- what a consistent state has of the pending read, in the numbers that were loaded
pub record Reads (m : List ℕ) (g : Guard) : Type 0 where
  pub known : g.node < g.nodes
  pub open_known : g.opened < g.opens
  pub page_known : g.page < pages_for (node_at (mem_of m).nodes g.node).size
  pub room : page_total (take g.nodes (mem_of m).nodes) ≤ PAGES
  pub inside : InRead g.position g.count g.page
  pub staged : g.bytes ≡ max g.position (g.page * PAGE_BYTES) - g.position

small : (w : ℕ) (n : Node) → in_limits w n ≡ true → n.size ≤ FILE_BYTES
small w n e = by_kind (n.size ≤ FILE_BYTES) (to_limits w n e) (λ _ h. h) (λ _ h. omega arith)

module _ (c : Config) (m : List ℕ) (called : (numbers_of (mem_of m).head).call ≡ READING) (long : memory_size ≤ length m)
    (ok : Consistent c (state_of c m)) where
  pub consistent_reads : Reads m (numbers_of (mem_of m).head)
  unfolding pages_for page_at tables_in
  consistent_reads =
      let g = numbers_of (mem_of m).head in
      let t = (state_of c m).skeleton.tables in
      let f = counts_fit m g refl in
      let v = ok.holds.valid in
      let r : ReadingFits t.nodes t.opens g.node g.opened g.position g.count g.page =
      subst (λ (x : Pending). PendingFits t.nodes t.opens x) (read_pending c m called) v.pending in
      let b : (g.count ≤ DATA_BYTES) × (length (state_of c m).progress.bytes ≡ max g.position (g.page * 1024) -
      g.position) =
      subst (λ (x : Pending). Gathers x (state_of c m).progress.bytes) (read_pending c m called) ok.gathers in
      let s = to_sound c.width t.nodes v.tables.nodes_valid.sound in
      let n = nodes-loaded m g refl c in
      let o : length t.opens ≡ g.opens = ap (λ (x : Tables). length x.opens) (sym (tables-loaded m g refl c))
      ∙ count-opens m g.opens f.1 in
      let k : g.node < g.nodes = omega (arith, n, r.opened.known) in
      let z : (node_at (mem_of m).nodes g.node).size ≡ (node_at t.nodes g.node).size = ap (λ (x : Node). x.size)
      (node-there m c g.node k) in
      let most = small c.width (node_at t.nodes g.node) (s.limits g.node r.opened.known) in
      let w = r.within in
      let from = r.from in
      let to = r.to in
      let l : length (state_of c m).progress.bytes ≡ g.bytes =
      ap (λ (x : Gathered). length x.bytes) (read_gathered c m called)
      ∙ length-take-le g.bytes (mem_of m).staged
      (omega (arith, length-staged m long, (numbers_within (mem_of m).head).bytes_most)) in
      record {
        known = k;
        open_known = omega (arith, o, r.opened.open_known);
        page_known = omega arith;
        room = subst (λ (x : Tables). page_total x.nodes ≤ PAGES) (sym (tables-loaded m g refl c)) s.pages;
        inside = record { from = omega arith; to = to; most = omega arith };
        staged = sym l ∙ b.1;
      }

-- The page that came, judged by the numbers that were loaded.
abbrev kept_page : List ℕ → Guard → List ℕ
kept_page m g = get_or (get_or (divide (take g.nodes (mem_of m).nodes) (mem_of m).digests) g.node []) g.page []

abbrev Judges : (m r : List ℕ) → Guard → ℕ → Type 0
Judges m r g b =
    g.node < g.nodes → g.page < pages_for (node_at (mem_of m).nodes g.node).size
    → page_total (take g.nodes (mem_of m).nodes) ≤ PAGES
    → b ≡ page_reason (kept_page m g) r

module _ (c : Config) (m r : List ℕ) (g : Guard) (e : g ≡ numbers_of (mem_of m).head)
    (called : (numbers_of (mem_of m).head).call ≡ READING) (long : memory_size ≤ length m)
    (ok : Consistent c (state_of c m)) where
  pub loaded-reads : Reads m g
  loaded-reads = subst (Reads m) (sym e) (consistent_reads c m called long ok)

  loaded_pending : (state_of c m).skeleton.pending ≡ reading g.node g.opened g.position g.count g.page
  loaded_pending = read_pending c m called ∙ ap (λ (x : Guard). reading x.node x.opened x.position x.count
      x.page) (sym e)

  pub loaded_gathered : (state_of c m).progress ≡ gathered_read (take g.bytes (mem_of m).staged)
  loaded_gathered = read_gathered c m called ∙ ap (λ (x : Guard). gathered_read (take x.bytes (mem_of m).staged))
      (sym e)

  -- what is staged and the page's part are at most what the read gives
  pub loaded_fits : g.bytes + length (page_part r g.position g.count g.page) ≤ DATA_BYTES
  unfolding page_at
  loaded_fits =
      let w = loaded_within (mem_of m).head g e in
      let l = loaded-reads in
      let i = l.inside in
      let s = length-take-le g.bytes (mem_of m).staged (omega (arith, length-staged m long, w.bytes_most)) in
      let n = staged_more m (page_part r g.position g.count g.page) g.bytes w.bytes_most long in
      let f = gather_more (take g.bytes (mem_of m).staged) r g.position g.count g.page (s ∙ l.staged)
      (omega (arith, i.from)) i.to in
      omega (arith, n, f, w.count_most)

  loaded-kept : kept_page m g ≡ get_or (get_or (state_of c m).contents g.node []) g.page []
  unfolding state_of state_in view_of
  loaded-kept = ap (λ (x : Guard). get_or (get_or (divide (take x.nodes (mem_of m).nodes) (mem_of m).digests) g.node
      []) g.page []) e

  module _ (b : ℕ) (judged : Judges m r g b) where
    reason : b ≡ page_reason (get_or (get_or (state_of c m).contents g.node []) g.page []) r
    reason = let l = loaded-reads in judged l.known l.page_known l.room
        ∙ ap (λ (d : List ℕ). page_reason d r) loaded-kept

    pub loaded-long : b ≡ 0 → length r ≡ PAGE_BYTES
    loaded-long z = no_reason_long _ r (sym z ∙ reason)

    pub loaded-stops : c.digest ≡ sha256 → (x : StopReason) → reason_number x ≡ b → (a q : List ℕ)
        → Leaves c (answered c (state_of c m) r) (Stopped x) m a a q q
    loaded-stops h x z a q =
        sends_leaves c (answered c (state_of c m) r) (Stopped x) m q q
        (page_stops c h (state_of c m) r g.node g.opened g.position g.count g.page loaded_pending x m q
        (z ∙ reason) refl) a

    pub loaded-goes_on : c.digest ≡ sha256 → b ≡ 0 → (x a a' q q' : List ℕ) (v : Outcome)
        → Leaves c (read_on c (digest_store c) (state_of c m) g.node g.opened g.position g.count g.page
        ((digest_store c).gather (state_of c m).progress g.position g.count g.page r)) v x a a' q q'
        → Leaves c (answered c (state_of c m) r) v x a a' q q'
    loaded-goes_on h z x a a' q q' v l =
        page_goes_on c h (state_of c m) r g.node g.opened g.position g.count g.page loaded_pending x a a'
        q q' v (sym z ∙ reason) l
