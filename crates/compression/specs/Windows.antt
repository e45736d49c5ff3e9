-- What the code's windows of sixteen words and its steps of sixteen rounds are, in the terms of the standard's
-- definitions.
-- Assumes nothing.
use Rattle.std.specs.Prelude.{◌≡◌, ℕ, ◌+◌, List, [], ◌∷◌, slice_index}
use Rattle.compression.specs.Compression.{◌⊞◌, σ0, σ1, word, round}
use Rattle.compression.specs.declared.State.{State}

-- sixteen words of the message schedule, one after the other
abbrev pub Window : Type 0
Window = List ℕ

-- the words t to t + 15 of a schedule
unfoldable pub window : List ℕ → ℕ → Window
window v t =
    slice_index v (t + 0) ∷ slice_index v (t + 1) ∷ slice_index v (t + 2) ∷ slice_index v (t + 3) ∷ slice_index v
    (t + 4) ∷ slice_index v (t + 5) ∷ slice_index v (t + 6) ∷ slice_index v (t + 7) ∷ slice_index v (t + 8) ∷
    slice_index v (t + 9) ∷ slice_index v (t + 10) ∷ slice_index v (t + 11) ∷ slice_index v (t + 12) ∷ slice_index
    v (t + 13) ∷ slice_index v (t + 14) ∷ slice_index v (t + 15) ∷ []

-- the words of the block that starts at byte i
unfoldable pub loaded : List ℕ → ℕ → Window
loaded p i =
    word p i ∷ word p (i + 4) ∷ word p (i + 8) ∷ word p (i + 12) ∷ word p (i + 16) ∷ word p (i + 20) ∷ word p (i +
    24) ∷ word p (i + 28) ∷ word p (i + 32) ∷ word p (i + 36) ∷ word p (i + 40) ∷ word p (i + 44) ∷ word p (i +
    48) ∷ word p (i + 52) ∷ word p (i + 56) ∷ word p (i + 60) ∷ []

-- a word of the schedule, of the words 2, 7, 15 and 16 before it
unfoldable pub mixed : ℕ → ℕ → ℕ → ℕ → ℕ
mixed p q r s = σ1 p ⊞ q ⊞ σ0 r ⊞ s

-- the sixteen words from one further on
unfoldable pub slid : Window → Window
slid w =
    slice_index w 1 ∷ slice_index w 2 ∷ slice_index w 3 ∷ slice_index w 4 ∷ slice_index w 5 ∷ slice_index w 6 ∷
    slice_index w 7 ∷ slice_index w 8 ∷ slice_index w 9 ∷ slice_index w 10 ∷ slice_index w 11 ∷ slice_index w 12 ∷
    slice_index w 13 ∷ slice_index w 14 ∷ slice_index w 15 ∷ mixed (slice_index w 14) (slice_index w 9)
    (slice_index w 1) (slice_index w 0) ∷ []

unfoldable pub slid_four : Window → Window
slid_four w = slid (slid (slid (slid w)))

-- sixteen rounds, with the constants k and the words w
unfoldable pub sixteen : State → Window → Window → State
sixteen s k w =
    let s1 : State = round s (slice_index k 0) (slice_index w 0) in
    let s2 : State = round s1 (slice_index k 1) (slice_index w 1) in
    let s3 : State = round s2 (slice_index k 2) (slice_index w 2) in
    let s4 : State = round s3 (slice_index k 3) (slice_index w 3) in
    let s5 : State = round s4 (slice_index k 4) (slice_index w 4) in
    let s6 : State = round s5 (slice_index k 5) (slice_index w 5) in
    let s7 : State = round s6 (slice_index k 6) (slice_index w 6) in
    let s8 : State = round s7 (slice_index k 7) (slice_index w 7) in
    let s9 : State = round s8 (slice_index k 8) (slice_index w 8) in
    let s10 : State = round s9 (slice_index k 9) (slice_index w 9) in
    let s11 : State = round s10 (slice_index k 10) (slice_index w 10) in
    let s12 : State = round s11 (slice_index k 11) (slice_index w 11) in
    let s13 : State = round s12 (slice_index k 12) (slice_index w 12) in
    let s14 : State = round s13 (slice_index k 13) (slice_index w 13) in
    let s15 : State = round s14 (slice_index k 14) (slice_index w 14) in
    round s15 (slice_index k 15) (slice_index w 15)

-- the sixteen words after w
abbrev pub later : Window → Window
later w = slid_four (slid_four (slid_four (slid_four w)))

-- r and v are the state after sixteen rounds from s, and the words after w
pub record Rolling (s : State) (k w : Window) (r : State) (v : Window) : Type 0 where
  pub state : r ≡ sixteen s k w
  pub words : v ≡ later w
