-- A line printed piece by piece.
-- Assumes nothing.
use Rattle.std.specs.Prelude.{◌≡◌, refl, List, [], ◌∷◌, ◌++◌, ℕ, ◌+◌, ◌-◌, ◌*◌, ◌≤◌, ◌<◌, length, take, drop}
use Rattle.std.proofs.Common.{sym, ap, ◌∙◌, append_assoc, append-nil, arith, length-append, length-drop}
use Rattle.std.proofs.Common.{drop_of_length-le, length-take-le, drop_at, drop-drop, take_all}
use Rattle.lists.specs.Parts.{overwrite}
use Rattle.lists.specs.PartLaws.{overwrite_front, overwrite_next, overwrite_none}
use Rattle.text.specs.Ascii.{ascii}
use Rattle.text.specs.Digits.{decimal_of}
use Rattle.text.specs.laws.DigitLaws.{decimal_most}
use Rattle.text.specs.Hex.{hex_of}
use Rattle.text.specs.laws.HexCases.{length-hex_of}
use Rattle.rules.specs.Skeleton.{done, ask}
use Rattle.outcomes.specs.declared.Outcome.{Outcome}
use Rattle.outcomes.specs.declared.Outcome.TheVariants.{Done, Ask}
use Rattle.outcomes.specs.Values.{answer_in}
use Rattle.desk_lines.specs.Lines.{any_bytes, printed, Puts, Prints}

-- all that lies behind `at`, as a slice has it
pub all_behind : (l : List ℕ) (at n : ℕ) → n ≡ length l → take (n - at) (drop at l) ≡ drop at l
all_behind l at n e = take_all (n - at) (drop at l) (rw (e, length-drop at l) (omega arith))

-- what was written to the end of a buffer
pub digits_behind : (x l : List ℕ) {l' : List ℕ} (r : ℕ) → r + length x ≡ length l → l' ≡ take r l ++ x → drop r l' ≡ x
digits_behind x l r n e = rw e (drop_at (take r l) x r (length-take-le r l (omega arith)))

pub overwrite_behind : (l x : List ℕ) (at n : ℕ) → n ≡ length l
    → take at l ++ (overwrite (take (n - at) (drop at l)) 0 x ++ drop (n - at) (drop at l)) ≡ overwrite l at x
unfolding overwrite
overwrite_behind l x at n e =
    let z : drop (n - at) (drop at l) ≡ [] = drop_of_length-le (drop at l) {i = n - at}
    (rw (e, length-drop at l) (omega arith)) in
    rw (
      all_behind l at n e,
      z,
      overwrite_front (drop at l) x,
      drop-drop (length x) at l,
      append-nil (x
          ++ drop (at + length x) l),
    )

-- what was put at the front of a buffer fits in it
front_fits : (x d : List ℕ) → length x ≤ length (overwrite d 0 x)
front_fits x d = rw (overwrite_front d x, length-append x (drop (length x) d)) (omega arith)

prints_front : (x d d' : List ℕ) (r : ℕ) → d' ≡ overwrite d 0 x → r ≡ length x → Prints x r d d'
prints_front x d d' r e f = record { buffer = e; count = f; fits = rw (e, f) (front_fits x d) }

-- the first piece, and one more
pub prints_first : (x d d' : List ℕ) (r : ℕ) → Puts x 0 r d d' → Prints x r d d'
prints_first x d d' r h = let e = h.end in prints_front x d d' r h.buffer (omega arith)

pub prints_more : (p x l d d' : List ℕ) (k r : ℕ) → Prints p k l d → Puts x k r d d' → Prints (p ++ x) r l d'
prints_more p x l d d' k r g h =
    let a = g.count in
    let b = h.end in
    let n = length-append p x in
    prints_front (p ++ x) l d' r (h.buffer ∙ ap (λ (z : List ℕ). overwrite z k x) g.buffer
    ∙ overwrite_next l 0 p x k (omega arith) (omega arith)) (omega arith)

-- the same line, otherwise grouped
pub prints_as : (x y d d' : List ℕ) (r : ℕ) → Prints x r d d' → x ≡ y → Prints y r d d'
prints_as x y d d' r h e = rw e at h

-- an outcome's bytes stand at the front of a buffer
pub prints_done : (o : Outcome) (n k : ℕ) (b a q d d' : List ℕ) (r : ℕ) → o ≡ Done n k → b ≡ take k a
    → Prints (printed (done n b)) r d d'
    → Prints (printed (answer_in o a q)) r d d'
unfolding answer_in
prints_done o n k b a q d d' r e f h = rw (e, ← f) h

pub prints_ask : (o : Outcome) (k : ℕ) (b a q d d' : List ℕ) (r : ℕ) → o ≡ Ask k → b ≡ take k q
    → Prints (printed (ask b)) r d d'
    → Prints (printed (answer_in o a q)) r d d'
unfolding answer_in
prints_ask o k b a q d d' r e f h = rw (e, ← f) h

-- two pieces are one
pub puts_more : (x y d e f : List ℕ) (i k r : ℕ) → i ≤ length d → Puts x i k d e → Puts y k r e f
    → Puts (x ++ y) i r d f
puts_more x y d e f i k r h g p =
    let a = g.end in
    let b = p.end in
    let n = length-append x y in
    record {
      buffer = p.buffer ∙ ap (λ (z : List ℕ). overwrite z k y) g.buffer ∙ overwrite_next d i x y k (omega arith)
          (omega arith);
      end = omega arith;
    }

pub puts_as : (x y d d' : List ℕ) (i r : ℕ) → Puts x i r d d' → x ≡ y → Puts y i r d d'
puts_as x y d d' i r h e = rw e at h

-- no bytes are nothing; others have a space before them
pub puts_none : (b d : List ℕ) (i : ℕ) → length b ≡ 0 → Puts (any_bytes b) i i d d
unfolding any_bytes
puts_none [] d i h = record { buffer = sym (overwrite_none 0 d i); end = omega arith }
puts_none (x ∷ b) d i h = absurd (omega arith)

pub any_some : (b : List ℕ) → (length b ≡ 0 → ⊥) → ascii " " ++ hex_of b ≡ any_bytes b
unfolding any_bytes
any_some [] h = absurd (h refl)
any_some (x ∷ b) h = refl

-- lengths
pub length-number : (n : ℕ) → n < 18446744073709551616 → length (decimal_of n) ≤ 20
length-number n h = decimal_most 19 n (omega arith)

pub length-any : (b : List ℕ) → length (any_bytes b) ≤ 1 + 2 * length b
unfolding any_bytes ascii
length-any [] = omega arith
length-any (x ∷ b) = let e = length-hex_of (x ∷ b) in omega arith

-- the four lines from their pieces
pub ask_pieces : (q : List ℕ) → (ascii "ask " ++ hex_of q) ++ ascii "\n" ≡ printed (ask q)
unfolding printed
ask_pieces q = append_assoc (ascii "ask ") (hex_of q) (ascii "\n")

pub done_pieces : (n : ℕ) (b : List ℕ) → ((ascii "done " ++ decimal_of n) ++ any_bytes b) ++ ascii "\n" ≡ printed (done n b)
unfolding printed
done_pieces n b = simp append_assoc
