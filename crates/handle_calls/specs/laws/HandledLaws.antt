-- The calls by handle check after check, and the tables of a memory read through the rows in use.
-- Assumes nothing.
use Rattle.std.specs.Prelude.{◌≡◌, Bool, true, false, not, ℕ, ◌/◌, ◌%◌, ◌≤◌, ◌<◌, eqb, length, take, Result, Ok, Err}
use Rattle.std.specs.Prelude.{IfOk, OnOk, IsErrAnd}
use Rattle.std.proofs.Math.Path.{refl, ap}
use Rattle.std.proofs.Common.{sym, subst, ◌∙◌, arith, get_or-take}
use mathlib.Core.List.{List, []}
use Rattle.std.proofs.Math.ListN.{get_or-eq_default}
use Rattle.std.proofs.Math.Seq.{set_out}
use borrow.Author.Tests.{leb-false, le-leb, lt-leb, lt-ltb, le-ltb}
use Rattle.lists.specs.Equal.{or_fst}
use Rattle.lists.specs.Pick.{pick}
use Rattle.lists.specs.Checks.{decide, check_last, check_stops}
use Rattle.filesystem.specs.Tables.{PAGES, Node, OpenFile, Tables, no_node, node_at, open_at, absent, find_id}
use Rattle.filesystem.specs.Tables.{find_handle}
use Rattle.filesystem.specs.Tables.{pages_for, page_total, set_size}
use Rattle.filesystem.specs.Image.{sound_nodes}
use Rattle.filesystem.specs.Sound.{to_sound}
use Rattle.memory.specs.Layout.{mem_of, open_rows}
use Rattle.rules.specs.Calls.{Call}
use Rattle.rules.specs.Rules.{no_room}
use Rattle.handle_calls.specs.Judged.{at_file, handled_for, Judgement, lacks_right, found_with, end_checked}
use Rattle.handle_calls.specs.declared.Handled.{Handled}
use Rattle.refusals.specs.Numbers.{Judged, number_of, numbered}
use Rattle.refusals.specs.declared.Refusal.{Refusal}
use Rattle.refusals.specs.laws.NumberLaws.{passed_on}
use Rattle.tables.specs.View.{tables_in}
use Rattle.tables.specs.laws.RowsInUse.{count-opens, open_front}
use Rattle.tables.specs.laws.ContentLaws.{total-split}
use Rattle.tables.specs.laws.ChangeLaws.{total-set}

abbrev pub opened_of : Judged Handled → ℕ
opened_of (Ok p) = p.opened
opened_of (Err x) = 0

abbrev pub node_of : Judged Handled → ℕ
node_of (Ok p) = p.node
node_of (Err x) = 0

-- A judgement: of a refusal, of an open file in place k, and read at tables that are the memory's.
module _ {m : List ℕ} {n o h : ℕ} {q : Call} where
  pub judged_refused : (x : ℕ) → ((w : ℕ) → sound_nodes w (take n (mem_of m).nodes) ≡ true
      → handled_for (tables_in n o (mem_of m)) h q ≡ Err x)
      → Judgement m n o h q (Err x)
  judged_refused x e = record {
    judged = λ w s. sym (e w s);
    there = λ i j f. absurd (let z : ◌≡◌ {A = ℕ} 0 1 = cc in
        omega arith);
  }

  -- a bad handle, passed on
  pub judged_bad : (r : Result Handled Refusal) (e : Refusal) → IsErrAnd r (λ y. y ≡ e) → number_of e ≡ 9
      → ((w : ℕ) → sound_nodes w (take n (mem_of m).nodes) ≡ true → handled_for (tables_in n o (mem_of m)) h q ≡ Err 9)
      → Judgement m n o h q (numbered r)
  judged_bad r e p b f = subst (Judgement m n o h q) (sym (passed_on r e p ∙ ap Err b)) (judged_refused 9 f)

  pub judged_open : (k j : ℕ) → k < o → ((w : ℕ) → sound_nodes w (take n (mem_of m).nodes) ≡ true
      → handled_for (tables_in n o (mem_of m)) h q ≡ at_file k j)
      → Judgement m n o h q (at_file k j)
  judged_open k j l e = record {
    judged = λ w s. sym (e w s);
    there = λ i z f. let p : k ≡ i = ap opened_of f in omega arith;
  }

  pub judged-at : (r : Judged Handled) → Judgement m n o h q r → (t : Tables) → tables_in n o (mem_of m) ≡ t → (w : ℕ)
      → sound_nodes w t.nodes ≡ true
      → r ≡ handled_for t h q
  unfolding tables_in
  judged-at r g t e w s = g.judged w (subst (λ (x : Tables). sound_nodes w x.nodes ≡ true) (sym e) s)
      ∙ ap (λ (x : Tables). handled_for x h q) e

-- what an end that was judged says of the open file
module _ (r : Result Handled Refusal) (k : ℕ) (Q : Type 0) where
  pub judged_place : IfOk r (λ p. (p.opened ≡ k) × Q) → (i j : ℕ) → numbered r ≡ at_file i j → i ≡ k
  judged_place = go r
    where
      go : (r : Result Handled Refusal) → IfOk r (λ p. (p.opened ≡ k) × Q) → (i j : ℕ) → numbered r ≡ at_file i j
          → i ≡ k
      go (Ok p) h i j e = sym (ap opened_of e) ∙ h.0
      go (Err b) h i j e = absurd (let z : ◌≡◌ {A = ℕ} 0 1 = cc in omega arith)

  pub judged_rest : IfOk r (λ p. (p.opened ≡ k) × Q) → OnOk r Q
  judged_rest = go r
    where
      go : (r : Result Handled Refusal) → IfOk r (λ p. (p.opened ≡ k) × Q) → OnOk r Q
      go (Ok p) h = h.1
      go (Err b) h = tt

-- a size, within the nodes and past them
pub size-front : (n : ℕ) (ns : List Node) (k : ℕ) → k < n → (node_at (take n ns) k).size ≡ (node_at ns k).size
unfolding node_at
size-front n ns k h = ap (λ (x : Node). x.size) (get_or-take n ns k no_node h)

pub size_past : (ns : List Node) (k : ℕ) → length ns ≤ k → (node_at ns k).size ≡ 0
unfolding node_at
size_past ns k h = ap (λ (x : Node). x.size) (get_or-eq_default ns no_node h)

-- sound nodes have room: past them no size changes, and a file that gets no page takes none
module _ (w : ℕ) (t : Tables) (k size : ℕ) (s : sound_nodes w t.nodes ≡ true) where
  pub room_past : length t.nodes ≤ k → no_room t k size ≡ false
  unfolding no_room set_size
  room_past h = le-ltb _ _ (subst (λ (p : ℕ). p ≤ PAGES) (sym (ap page_total (set_out t.nodes k _ h)))
      (to_sound w t.nodes s).pages)

  pub room_left : k < length t.nodes → pages_for size ≤ pages_for (node_at t.nodes k).size → no_room t k size ≡ false
  unfolding no_room
  room_left h l =
      let p = (to_sound w t.nodes s).pages in
      let a = total-split t.nodes k h in
      let b = total-set t.nodes k size h in
      le-ltb PAGES (page_total (set_size t.nodes k size)) (omega arith)

-- a right that an open file lacks
module _ (os : List OpenFile) (right k : ℕ) where
  pub lacks_absent : length os ≤ k → lacks_right os right k ≡ true
  unfolding lacks_right
  lacks_absent h = rw (le-leb (length os) k h)

  pub lacks_there : k < length os → lacks_right os right k ≡ not (eqb ((open_at os k).rights / right % 2) 1)
  unfolding lacks_right
  lacks_there h = rw (lt-leb (length os) k h)

  has_there : lacks_right os right k ≡ false → k < length os
  unfolding lacks_right
  has_there e = leb-false (length os) k (or_fst _ _ e)

-- the open file that was looked for: it is there and has the right, or 9
module _ (os : List OpenFile) (h right : ℕ) where
  pub found_absent : length os ≤ find_handle os h → found_with os h right ≡ Err 9
  unfolding found_with
  found_absent l = check_stops Err 9 _ [] _ (lacks_absent os right (find_handle os h) l)

  pub found_lacking : lacks_right os right (find_handle os h) ≡ true → found_with os h right ≡ Err 9
  unfolding found_with
  found_lacking e = check_stops Err 9 _ [] _ e

  pub found_right : lacks_right os right (find_handle os h) ≡ false → found_with os h right ≡ Ok (find_handle os h)
  unfolding found_with
  found_right e = check_last Err 9 _ _ e

  -- what an answer says
  pub with_err : (b : ℕ) → Err b ≡ found_with os h right → (b ≡ 9) × (lacks_right os right (find_handle os h) ≡ true)
  unfolding found_with decide pick
  with_err b e = go (lacks_right os right (find_handle os h)) e
    where
      go : (l : Bool) → ◌≡◌ {A = Judged ℕ} (Err b) (pick l (Err 9) (Ok (find_handle os h))) → (b ≡ 9) × (l ≡ true)
      go true e = (cc, refl)
      go false e = absurd (let z : ◌≡◌ {A = ℕ} 0 1 = cc in omega arith)

  pub with_ok : (k : ℕ) → Ok k ≡ found_with os h right → (k ≡ find_handle os h) × (lacks_right os right k ≡ false)
  unfolding found_with decide pick
  with_ok k e = go (lacks_right os right (find_handle os h)) refl e
    where
      go : (l : Bool) → lacks_right os right (find_handle os h) ≡ l
          → ◌≡◌ {A = Judged ℕ} (Ok k) (pick l (Err 9) (Ok (find_handle os h)))
          → (k ≡ find_handle os h) × (lacks_right os right k ≡ false)
      go true q e = absurd (let z : ◌≡◌ {A = ℕ} 0 1 = cc in omega arith)
      go false q e = let p : k ≡ find_handle os h = cc in (p, ap (lacks_right os right) p ∙ q)

-- an open file with a right, among those of a memory
module _ (m : List ℕ) (o right k : ℕ) (fits : o ≤ open_rows) (has : lacks_right (take o (mem_of m).opens) right k ≡ false)
  where
    pub has-place : k < o
    has-place = let e = count-opens m o fits in let h = has_there (take o (mem_of m).opens) right k has in omega arith

    pub has_cursor : (open_at (mem_of m).opens k).cursor ≡ (open_at (take o (mem_of m).opens) k).cursor
    has_cursor = ap (λ (x : OpenFile). x.cursor) (sym (open_front o (mem_of m).opens k has-place))

-- where the position is past the end, and where not
module _ (ns : List Node) (h k p node size : ℕ) (known : node ≡ find_id ns h) (sized : size ≡ (node_at ns node).size) where
  pub size-known : size ≡ (node_at ns (find_id ns h)).size
  size-known = sized ∙ ap (λ (j : ℕ). (node_at ns j).size) known

  pub end_past : size < p → end_checked ns h k p ≡ Err 22
  unfolding end_checked
  end_past l = let e = size-known in check_stops Err 22 _ [] _ (lt-ltb (node_at ns (find_id ns h)).size p
      (omega arith))

  pub end_within_lem : p ≤ size → end_checked ns h k p ≡ at_file k node
  unfolding end_checked
  end_within_lem l = let e = size-known in check_last Err 22 _ _ (le-ltb (node_at ns (find_id ns h)).size p
      (omega arith)) ∙ ap (λ (j : ℕ). at_file k j) (sym known)

-- the open file of a call is in place k
module _ (t : Tables) (h k : ℕ) (found : k ≡ find_handle t.opens h) where
  pub there : absent t.opens (find_handle t.opens h) ≡ absent t.opens k
  there = ap (absent t.opens) (sym found)

  pub allowed : (right : ℕ) → lacks_right t.opens right (find_handle t.opens h) ≡ lacks_right t.opens right k
  allowed right = ap (lacks_right t.opens right) (sym found)
