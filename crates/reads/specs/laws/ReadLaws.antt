-- A read that was judged and begun is what the machine makes of the call.
-- Assumes nothing.
use Rattle.std.specs.Prelude.{◌≡◌, refl, Bool, true, false, List, leb, length, take}
use Rattle.std.proofs.Math.Path.{ap, ap₂, subst}
use Rattle.std.proofs.Common.{sym, ◌∙◌, arith, leb-true, leb-false, ne_eqb}
use Prim.Native.Nat.{ℕ, ◌-◌, ◌<◌, ◌≤◌, min}
use Rattle.lists.specs.Equal.{Is, is_t, is_f, is}
use Rattle.lists.specs.Pick.{pick, pick-false}
use Rattle.lists.specs.Checks.{decide}
use Rattle.lists.specs.LittleEndian.{encode}
use Rattle.filesystem.specs.Tables.{NODES, FILE_BYTES, Node, OpenFile, Tables, node_at, open_at}
use Rattle.filesystem.specs.Image.{sound_nodes}
use Rattle.filesystem.specs.Sound.{to_sound, by_kind, limits_at}
use Rattle.memory.specs.Layout.{mem_of}
use Rattle.tables.specs.laws.RowsInUse.{count-nodes}
use Rattle.rules.specs.Calls.{read}
use Rattle.rules.specs.Pages.{page_at}
use Rattle.rules.specs.Requests.{reading, fetch_request, store_length}
use Rattle.rules.specs.Skeleton.{Config, at_front}
use Rattle.rules.specs.Rules.{Move, refuse, send, call_checks, call_action, read_action}
use Rattle.machine.specs.Machine.{State, apply, guard as digest_store}
use Rattle.refusals.specs.Numbers.{Judged, number_of}
use Rattle.handle_calls.specs.declared.Handled.{Handled}
use Rattle.std.specs.Prelude.{Err}
use Rattle.handle_calls.specs.Judged.{at_file, handled_for}
use Rattle.handle_calls.specs.laws.HandledLaws.{size_past}
use Rattle.handle_calls.specs.laws.MoveLaws.{move_refused, move_passed, passed_at}
use Rattle.guard_state.specs.State.{numbers_of, state_of, gathered_none}
use Rattle.guard_state.specs.laws.LoadedLaws.{node-loaded, open_loaded}
use Rattle.guard_state.specs.Waits.{waits, ends}
use Rattle.refusals.specs.declared.Refusal.{Refusal}
use Rattle.outcomes.specs.declared.Outcome.{Outcome}
use Rattle.outcomes.specs.declared.Outcome.TheVariants.{Done, Ask, Refused}
use Rattle.outcomes.specs.Sent.{Sends}
use Rattle.outcomes.specs.laws.SentLaws.{refusal_sends, finish_sends, request_sends}
use Rattle.outcomes.specs.Started.{started_by}
use Rattle.reads.specs.Begun.{read_of, left_of}

-- what is left to read, step by step
module _ (m : List ℕ) (c : Config) where
  pub left-loaded : (n o k count left over size cursor : ℕ) → n ≡ (numbers_of (mem_of m).head).nodes
      → o < (numbers_of (mem_of m).head).opens
      → left ≡ min count over → over ≡ size - cursor
      → size ≡ (node_at (take n (mem_of m).nodes) k).size → cursor ≡ (open_at (mem_of m).opens o).cursor
      → left ≡ left_of (state_of c m).skeleton.tables o k count
  unfolding left_of
  left-loaded n o k count left over size cursor e h l x y z =
      l ∙ ap (min count) x
      ∙ ap₂ (λ (i j : ℕ). min count (i - j)) (y ∙ ap (λ (f : Node). f.size) (node-loaded m c n k e)) (z
      ∙ ap (λ (f : OpenFile). f.cursor) (open_loaded m c o h))

-- a place that has a size is a node's
pub sized_within : (m : List ℕ) (n k : ℕ) → n ≤ NODES → 0 < (node_at (take n (mem_of m).nodes) k).size → k < n
sized_within m n k h l = go (leb n k) refl
  where
    go : (b : Bool) → leb n k ≡ b → k < n
    go true e = absurd (omega (
      arith,
      size_past (take n (mem_of m).nodes) k
          (omega (arith, count-nodes m n h, leb-true n k e)),
      l,
    ))
    go false e = leb-false n k e

pub fetch_most : (d i : ℕ) → length (fetch_request d i) ≤ store_length
unfolding fetch_request store_length encode
fetch_most d i = omega arith

-- a read that passed, by the places of its open file and its node
module _ (c : Config) (s : State (digest_store c)) (o k count : ℕ) where
  abbrev there : Tables
  there = s.skeleton.tables

  pub none_sends : (n : ℕ) (m q : List ℕ) → n ≡ left_of there o k count → n ≡ 0
      → state_of c m ≡ ends c s there s.contents
      → Sends c (apply c (digest_store c) s (read_of there o k (left_of there o k count))) (Done 0 0) m q q
  unfolding read_of pick
  none_sends n m q e z g = finish_sends c s _ there 0 m q (ap (read_of there o k) (sym e ∙ z)) g

  pub page_sends : (n p : ℕ) (row : OpenFile) (m q q' : List ℕ) (r : Outcome) → n ≡ left_of there o k count → (n ≡ 0 → ⊥)
      → row ≡ open_at there.opens o
      → p ≡ row.cursor
      → state_of c m ≡ waits c s (reading k o p n (page_at p)) gathered_none
      → q' ≡ at_front (fetch_request row.descriptor (page_at p)) q
      → r ≡ Ask (length (fetch_request row.descriptor (page_at p)))
      → store_length ≤ length q → Sends c (apply c (digest_store c) s (read_of there o k (left_of there o k count))) r m q
      q'
  unfolding read_of
  page_sends n p row m q q' r e z y x g u v h =
      let w = ap (read_of there o k) (sym e) ∙ pick-false _ _ _ (ne_eqb n 0 z)
      ∙ ap₂ (λ (i : ℕ) (f : OpenFile). send (reading k o i n (page_at i)) (fetch_request f.descriptor (page_at i)))
      (sym (x ∙ ap (λ (f : OpenFile). f.cursor) y)) (sym y) in
      request_sends c s _ _ (fetch_request row.descriptor (page_at p)) m q q' r w g u v
      (omega (arith, fetch_most row.descriptor (page_at p), h))

-- no file is too large
pub size_most : (w : ℕ) (ns : List Node) → sound_nodes w ns ≡ true → (k : ℕ) → (node_at ns k).size ≤ FILE_BYTES
size_most w ns s k = go (is (leb (length ns) k))
  where
    go : Is (leb (length ns) k) → (node_at ns k).size ≤ FILE_BYTES
    go (is_t e) = omega (arith, size_past ns k (leb-true _ _ e))
    go (is_f e) = by_kind ((node_at ns k).size ≤ FILE_BYTES) (limits_at w ns (to_sound w ns s) k (leb-false _ _ e))
        (λ x y. y) (λ x y. omega arith)

-- a read that was judged
module _ (t : Tables) (h count : ℕ) (r : Judged Handled) (known : r ≡ handled_for t h (read h count)) where
  read-move : (w i j : ℕ) → r ≡ at_file i j → decide refuse (call_checks t (read h count))
      (call_action t w (read h count)) ≡ read_of t i j (left_of t i j count)
  unfolding call_action read_action read_of left_of
  read-move w i j e =
      let p = passed_at t h (read h count) r known i j e in
      move_passed t h (read h count) r known _ i j e ∙ ap₂ (λ (x y : ℕ). read_of t x y (left_of t x y count))
      p.open_place_lem p.file_place_lem

  read_stop : (w n : ℕ) → r ≡ Err n → decide refuse (call_checks t (read h count))
      (call_action t w (read h count)) ≡ refuse n
  read_stop w n e = move_refused t h (read h count) r known _ n e

module _ (c : Config) (s : State (digest_store c)) (h count : ℕ) (r : Judged Handled)
    (known : r ≡ handled_for s.skeleton.tables h (read h count)) where
  pub refused_sends : (b : Refusal) (m q : List ℕ) → r ≡ Err (number_of b) → state_of c m ≡ s
      → Sends c (started_by c s (read h count)) (Refused b) m q q
  unfolding started_by
  refused_sends b m q e g =
      refusal_sends c s _ b m q (read_stop s.skeleton.tables h count r known c.width (number_of b) e) g

  pub read_sends : (i j : ℕ) (m q q' : List ℕ) (o : Outcome) → r ≡ at_file i j
      → Sends c (apply c (digest_store c) s (read_of s.skeleton.tables i j (left_of s.skeleton.tables i j count)))
      o m q q'
      → Sends c (started_by c s (read h count)) o m q q'
  unfolding started_by
  read_sends i j m q q' o e x = subst (λ (v : Move). Sends c (apply c (digest_store c) s v) o m q q')
      (sym (read-move s.skeleton.tables h count r known c.width i j e)) x
