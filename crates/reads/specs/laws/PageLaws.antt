-- A page of a read that came is what the machine makes of the reply.
-- Assumes nothing.
use Rattle.std.specs.Prelude.{◌≡◌, refl, List, [], ◌∷◌, ◌++◌, ℕ, suc, ◌+◌, ◌-◌, ◌*◌, ◌<◌, ◌≤◌, min, max, length, get_or, take}
use Rattle.std.proofs.Common.{ap, ap₂, sym, ◌∙◌, arith, length-append, length-take-le, le-leb}
use Rattle.std.proofs.lemmas.Bool.{lt-leb}
use Rattle.lists.specs.Pick.{pick_true, pick-false}
use Rattle.lists.specs.PartLaws.{length_part, get_d_part, take_overwrite}
use Rattle.lists.specs.Parts.{part}
use Rattle.lists.specs.Cells.{tab, tab_cong}
use Rattle.filesystem.specs.Tables.{PAGE_BYTES, DATA_BYTES, open_at, set_cursor}
use Rattle.memory.specs.Layout.{Mem, mem_of, memory_size, with_opens}
use Rattle.memory.specs.laws.MemLaws.{length-staged}
use Rattle.tables.specs.View.{view_of}
use Rattle.tables.specs.laws.ViewLaws.{view_cursor}
use Rattle.rules.specs.Pages.{bytes_at, page_part}
use Rattle.rules.specs.Requests.{reading, fetch_request, store_length}
use Rattle.rules.specs.Skeleton.{Config, done, answer_bytes, at_front}
use Rattle.machine.specs.Machine.{State, Result, Gathered, read_on, asking, ending, guard as digest_store}
use Rattle.guard_state.specs.State.{numbers_of, state_in, state_of, gathered_read}
use Rattle.guard_state.specs.Waits.{waits, ends, resting_state}
use Rattle.outcomes.specs.declared.Outcome.{Outcome}
use Rattle.outcomes.specs.declared.Outcome.TheVariants.{Done, Ask}
use Rattle.outcomes.specs.Values.{length_of, bytes_in, answer_in}
use Rattle.outcomes.specs.Sent.{settled, Fills, Sends}
use Rattle.outcomes.specs.laws.SentLaws.{asking_sends}
use Rattle.reads.specs.Begun.{cursor_to}
use Rattle.reads.specs.laws.ReadLaws.{fetch_most}

module _ (c : Config) (s : State (digest_store c)) (k o p n i : ℕ) where
  asks_next : (a : Gathered) → i * PAGE_BYTES + PAGE_BYTES < p + n
      → read_on c (digest_store c) s k o p n i a ≡ asking c (digest_store c) s
      (fetch_request (open_at s.skeleton.tables.opens o).descriptor (suc i)) (reading k o p n (suc i)) a
  unfolding read_on
  asks_next a h = pick-false _ _ _ (lt-leb (p + n) (i * PAGE_BYTES + PAGE_BYTES) h)

  -- the next page is asked for
  pub next_sends : (d j : ℕ) (b x y m q q' : List ℕ) (r : Outcome) → d ≡ (open_at s.skeleton.tables.opens
      o).descriptor → j ≡ suc i
      → i * PAGE_BYTES + PAGE_BYTES < p + n → s.progress ≡ gathered_read b
      → y ≡ page_part x p n i → state_of c m ≡ waits c s (reading k o p n j) (gathered_read (b ++ y))
      → q' ≡ at_front (fetch_request d j) q → r ≡ Ask (length (fetch_request d j)) → store_length ≤ length q
      → Sends c (read_on c (digest_store c) s k o p n i ((digest_store c).gather s.progress p n i x)) r m q q'
  next_sends d j b x y m q q' r u v h f g w z e l =
      let a = (digest_store c).gather s.progress p n i x in
      let t : read_on c (digest_store c) s k o p n i a ≡ asking c (digest_store c) s (fetch_request d j) (reading k o p n j)
      (gathered_read (b ++ y)) =
      asks_next a h ∙ (λ t. asking c (digest_store c) s (fetch_request (sym u t) (sym v t)) (reading k o p n (sym v t))
      (record { bytes = (f t).bytes ++ sym g t; digests = (f t).digests })) in
      asking_sends c s _ (reading k o p n j) (fetch_request d j) (gathered_read (b ++ y)) m q q' r t w z e
      (omega (arith, fetch_most d j, l))

-- a cursor that was set, and nothing pending
pub cursor_ends : (c : Config) (m x : List ℕ) (o e : ℕ) → o < (numbers_of (mem_of m).head).opens
    → mem_of x ≡ with_opens (set_cursor (mem_of m).opens o e) (mem_of m)
    → ends c (state_of c x) (state_of c x).skeleton.tables (state_of c x).contents ≡ ends c (state_of c m)
    (cursor_to (state_of c m).skeleton.tables o e) (state_of c m).contents
unfolding ends state_of state_in view_of resting_state
cursor_ends c m x o e h f =
    let g = numbers_of (mem_of m).head in
    ap (λ (t : Mem). let q = numbers_of t.head in resting_state c (view_of q.nodes q.opens t)) f
    ∙ ap (resting_state c) (view_cursor (mem_of m) g.nodes g.opens o e h)

-- the last page came: the bytes stand at the front of the answer buffer
pub last_fills : (c : Config) (s : State (digest_store c)) (k o p n i l : ℕ) (b x y m a a' : List ℕ)
    → p + n ≤ i * PAGE_BYTES + PAGE_BYTES
    → s.progress ≡ gathered_read b → y ≡ page_part x p n i
    → state_of c m ≡ ends c s (cursor_to s.skeleton.tables o (p + n)) s.contents → a' ≡ at_front (b ++ y) a
    → l ≡ length (b ++ y)
    → Fills c (read_on c (digest_store c) s k o p n i ((digest_store c).gather s.progress p n i x)) (Done n l) m a a'
unfolding read_on answer_in length_of bytes_in settled answer_bytes ends
last_fills c s k o p n i l b x y m a a' h f g w z e =
    let t : read_on c (digest_store c) s k o p n i ((digest_store c).gather s.progress p n i x) ≡ ending c
    (digest_store c) s (done n (b ++ y)) (cursor_to s.skeleton.tables o (p + n)) s.contents =
    pick_true _ _ _ (le-leb (p + n) (i * PAGE_BYTES + PAGE_BYTES) h)
    ∙ (λ t. ending c (digest_store c) s (done n ((f t).bytes ++ sym g t)) (cursor_to s.skeleton.tables o (p + n))
    s.contents) in
    record {
      state = w ∙ ap (λ (d : Result (digest_store c)). d.state) (sym t);
      answer = λ q.
          ap (done n) (ap (λ (j : ℕ). take j a') e ∙ ap (take (length (b ++ y))) z
          ∙ take_overwrite a 0 (b ++ y) (length (b ++ y)) (omega arith) (omega arith))
          ∙ ap (λ (d : Result (digest_store c)). d.outcome.answer) (sym t);
      count = e ∙ ap (λ (d : Result (digest_store c)). bytes_in d.outcome.answer) (sym t);
      filled = z ∙ ap (λ (d : Result (digest_store c)). at_front (answer_bytes d.outcome.answer) a) (sym t);
    }

-- how many they are
pub staged_more : (m y : List ℕ) (n : ℕ) → n ≤ DATA_BYTES → memory_size ≤ length m → length (take n (mem_of m).staged
    ++ y) ≡ n + length y
staged_more m y n h f =
    let e = length-staged m f in
    length-append (take n (mem_of m).staged) y
    ∙ ap (λ (i : ℕ). i + length y) (length-take-le n (mem_of m).staged (omega arith))

-- a part of a page, cell by cell
own_cells : (b : List ℕ) → b ≡ tab (length b) (λ j. get_or b j 0)
unfolding tab
own_cells [] = refl
own_cells (x ∷ b) = ap (λ (l : List ℕ). x ∷ l) (own_cells b)

part_cells : (x : List ℕ) (a k : ℕ) → a + k ≤ length x → part a k x ≡ bytes_at x a k
unfolding bytes_at
part_cells x a k h =
    own_cells (part a k x)
    ∙ ap (λ (i : ℕ). tab i (λ j. get_or (part a k x) j 0)) (length_part a k x h)
    ∙ tab_cong k _ _ (λ j l. get_d_part a k j x 0 l)

pub page_part_lem : (x : List ℕ) (p n i s e : ℕ) → length x ≡ PAGE_BYTES → s ≡ max p (i * PAGE_BYTES) - i * PAGE_BYTES
    → e ≡ min (p + n) (i * PAGE_BYTES + PAGE_BYTES) - i * PAGE_BYTES → s ≤ e
    → part s (e - s) x ≡ page_part x p n i
unfolding page_part
page_part_lem x p n i s e h f g l =
    let b : s + (e - s) ≤ length x = omega arith in
    let k : e - s ≡ min (p + n) (i * PAGE_BYTES + PAGE_BYTES) - max p (i * PAGE_BYTES) = omega arith in
    part_cells x s (e - s) b ∙ ap₂ (bytes_at x) f k
