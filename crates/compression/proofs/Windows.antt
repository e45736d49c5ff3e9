-- The message schedule: its words by the recurrence, and the code's windows of sixteen words on it.
-- Assumes nothing.
use Rattle.std.proofs.Common.{◌≡◌, ℕ, zero, suc, ◌+◌, ◌-◌, ◌<◌, List, [], ◌∷◌, length, get_or, sym, refl, ap, ◌∙◌}
use Rattle.std.proofs.Common.{subst, add-zero, add_assoc, suc-add, zero-add, arith, lit<, length-append}
use lib.ListN.{get_or-append}
use lib.Seq.{get_or_at}
use Rattle.compression.proofs.Congruence.{window-equal}
use Rattle.compression.specs.Compression.{K, sum, block, next_word, schedule, rounds, compress}
use Rattle.compression.specs.Windows.{Window, window, loaded, mixed, slid, slid_four, sixteen, later, Rolling}
use Rattle.compression.specs.declared.State.{State}

from-0 : (x : State) (v : List ℕ) → sixteen x (window K 0) (window v 0) ≡ rounds x v 16
unfolding sixteen rounds window
from-0 x v = refl

from-16 : (x : State) (v : List ℕ) → sixteen (rounds x v 16) (window K 16) (window v 16) ≡ rounds x v 32
unfolding sixteen rounds window
from-16 x v = refl

from-32 : (x : State) (v : List ℕ) → sixteen (rounds x v 32) (window K 32) (window v 32) ≡ rounds x v 48
unfolding sixteen rounds window
from-32 x v = refl

from-48 : (x : State) (v : List ℕ) → sixteen (rounds x v 48) (window K 48) (window v 48) ≡ rounds x v 64
unfolding sixteen rounds window
from-48 x v = refl

module _ (m : List ℕ) (whole : length m ≡ 16) where
  length-schedule : (n : ℕ) → length (schedule m n) ≡ 16 + n
  unfolding schedule
  length-schedule zero = whole
  length-schedule (suc n) = omega (
    arith,
    length-append (schedule m n) (next_word (schedule m n) (16 + n) ∷ []),
    length-schedule n,
  )

  -- a word stays as it is in every longer schedule
  more : (n i : ℕ) → i < 16 + n → get_or (schedule m (suc n)) i 0 ≡ get_or (schedule m n) i 0
  unfolding schedule
  more n i h = get_or-append (schedule m n) (next_word (schedule m n) (16 + n) ∷ []) 0 i
      (omega (arith, length-schedule n))

  kept : (k n i : ℕ) → i < 16 + n → get_or (schedule m (k + n)) i 0 ≡ get_or (schedule m n) i 0
  kept zero n i h = rw zero-add
  kept (suc k) n i h = rw suc-add (more (k + n) i (omega arith) ∙ kept k n i h)

  word_at : (n : ℕ) → get_or (schedule m (suc n)) (16 + n) 0 ≡ next_word (schedule m n) (16 + n)
  unfolding schedule
  word_at n = get_or_at (schedule m n) (next_word (schedule m n) (16 + n)) [] 0 (16 + n) (length-schedule n)

  -- the recurrence, in the whole schedule
  recurrence : (n : ℕ) → n < 48 → get_or (schedule m 48) (16 + n) 0 ≡ next_word (schedule m 48) (16 + n)
  unfolding next_word
  recurrence n h =
      let last : (i : ℕ) → i < 16 + suc n → get_or (schedule m 48) i 0 ≡ get_or (schedule m (suc n)) i 0 =
      λ i p. subst (λ (k : ℕ). get_or (schedule m k) i 0 ≡ get_or (schedule m (suc n)) i 0) (omega arith)
      (kept (47 - n) (suc n) i p) in
      let old : (i : ℕ) → i < 16 + n → get_or (schedule m n) i 0 ≡ get_or (schedule m 48) i 0 =
      λ i p. sym (more n i p) ∙ sym (last i (omega arith)) in
      last (16 + n) (omega arith) ∙ word_at n
      ∙ rw (
        old (16 + n - 2) (omega arith),
        old (16 + n - 7) (omega arith),
        old (16 + n - 15) (omega arith),
        old
            (16 + n - 16) (omega arith),
      )

  -- a window moves along the schedule
  mixed-next : (t : ℕ) → t < 48 → mixed (get_or (schedule m 48) (t + 14) 0) (get_or (schedule m 48) (t + 9) 0)
      (get_or (schedule m 48) (t + 1) 0) (get_or (schedule m 48) (t + 0) 0) ≡ get_or (schedule m 48) (t + 16) 0
  unfolding mixed next_word
  mixed-next t h =
      let e : (i j : ℕ) → i ≡ j → get_or (schedule m 48) i 0 ≡ get_or (schedule m 48) j 0 = λ i j p. ap
      (λ (k : ℕ). get_or (schedule m 48) k 0) p in
      rw (
        e (t + 14) (16 + t - 2) (omega arith),
        e (t + 9) (16 + t - 7) (omega arith),
        e (t + 1) (16 + t - 15)
            (omega arith),
        e (t + 0) (16 + t - 16) (omega arith),
        e (t + 16) (16 + t) (omega arith),
      )
      (sym (recurrence t h))

  slid-window : (t : ℕ) → t < 48 → slid (window (schedule m 48) t) ≡ window (schedule m 48) (t + 1)
  unfolding slid window
  slid-window t h = rw (mixed-next t h) (simp add_assoc)

  slid_four_lem : (t : ℕ) → t < 45 → slid_four (window (schedule m 48) t) ≡ window (schedule m 48) (t + 4)
  unfolding slid_four
  slid_four_lem t h =
      rw (
        slid-window t (omega arith),
        slid-window (t + 1) (omega arith),
        slid-window (t + 1 + 1) (omega arith),
        slid-window (t + 1 + 1 + 1) (omega arith),
      ) (simp add_assoc)

  later-window : (t : ℕ) → t < 33 → later (window (schedule m 48) t) ≡ window (schedule m 48) (t + 16)
  later-window t h =
      rw (
        slid_four_lem t (omega arith),
        slid_four_lem (t + 4) (omega arith),
        slid_four_lem (t + 4 + 4) (omega arith),
        slid_four_lem
            (t + 4 + 4 + 4) (omega arith),
      ) (simp add_assoc)

  first-window : window m 0 ≡ window (schedule m 48) 0
  unfolding window schedule
  first-window =
      let e : (i : ℕ) → i < 16 → get_or m i 0 ≡ get_or (schedule m 48) i 0 = λ i h. sym (kept 48 0 i h) in
      window-equal (e 0 (lit< tt)) (e 1 (lit< tt)) (e 2 (lit< tt)) (e 3 (lit< tt)) (e 4 (lit< tt)) (e 5 (lit< tt))
      (e 6 (lit< tt)) (e 7 (lit< tt)) (e 8 (lit< tt)) (e 9 (lit< tt)) (e 10 (lit< tt)) (e 11 (lit< tt))
      (e 12 (lit< tt)) (e 13 (lit< tt)) (e 14 (lit< tt)) (e 15 (lit< tt))

  -- four times sixteen rounds on the code's windows are the compression of the block
  compressed : (x : State) (w : Window) → w ≡ window m 0
      → compress x m ≡ sum (sixteen (sixteen (sixteen (sixteen x (window K 0) w) (window K 16) (later w)) (window K 32)
      (later (later w))) (window K 48) (later (later (later w)))) x
  unfolding compress
  compressed x w e =
      rw (
        e,
        first-window,
        later-window 0 (lit< tt),
        later-window 16 (lit< tt),
        later-window 32 (lit< tt),
        from-0 x
            (schedule m 48),
        from-16 x (schedule m 48),
        from-32 x (schedule m 48),
        from-48 x (schedule m 48),
      )

loaded-window : (p : List ℕ) (i : ℕ) → loaded p i ≡ window (block p i) 0
unfolding loaded window block
loaded-window p i = rw add-zero

-- the compression of the block at byte i, as the code has it
pub compressed_block : (x : State) (p : List ℕ) (i : ℕ)
    → compress x (block p i) ≡ sum
    (sixteen (sixteen (sixteen (sixteen x (window K 0) (loaded p i)) (window K 16) (later (loaded p i)))
    (window K 32) (later (later (loaded p i)))) (window K 48) (later (later (later (loaded p i))))) x
unfolding block
compressed_block x p i = compressed (block p i) refl x (loaded p i) (loaded-window p i)

-- the same from what each of the code's calls gives
pub compressed_rolling : (x : State) (p : List ℕ) (i : ℕ) {l w1 w2 w3 w4 : Window} {s1 s2 s3 s4 r : State}
    → l ≡ loaded p i → Rolling x (window K 0) l s1 w1 → Rolling s1 (window K 16) w1 s2 w2
    → Rolling s2 (window K 32) w2 s3 w3 → Rolling s3 (window K 48) w3 s4 w4 → r ≡ sum s4 x → r ≡ compress x (block p i)
compressed_rolling x p i el a b c d e =
    rw (e, d.state, c.state, c.words, b.state, b.words, a.state, a.words, el) (sym (compressed_block x p i))
