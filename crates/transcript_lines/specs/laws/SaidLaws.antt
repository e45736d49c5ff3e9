-- The line of an answer as the front of its buffer.
-- Assumes nothing.
use Rattle.std.specs.Prelude.{◌≡◌, refl, List, ◌++◌, ℕ, ◌+◌, ◌-◌, ◌*◌, ◌≤◌, ◌<◌, length, take}
use Rattle.std.proofs.Common.{sym, ap, ◌∙◌, arith, take-take, length-take-le, le-leb}
use Rattle.std.proofs.lemmas.Bool.{lt-leb}
use Rattle.lists.specs.Parts.{overwrite}
use Rattle.lists.specs.PartLaws.{take_overwrite, overwrite_all}
use Rattle.lists.specs.Pick.{pick_true, pick-false}
use Rattle.text.specs.Hex.{hex_of}
use Rattle.text.specs.laws.HexCases.{length-hex_of}
use Rattle.outcomes.specs.declared.Outcome.{Outcome}
use Rattle.outcomes.specs.declared.Outcome.TheVariants.{Done, Ask, Refused, Stopped}
use Rattle.desk_lines.specs.Lines.{Prints}
use Rattle.transcript_lines.specs.Room.{answer_line}
use Rattle.transcript_lines.specs.Said.{behind, saved_line, with_digest}

-- what was printed is the line
pub printed_front : (x d d' : List ℕ) (r : ℕ) → Prints x r d d' → take r d' ≡ x
printed_front x d d' r h =
    let e = h.count in
    ap (take r) h.buffer ∙ take_overwrite d 0 x r (omega arith) (omega arith)

module _ (b l x : List ℕ) (n : ℕ) (long : length b ≡ answer_line) (most : n ≤ answer_line) (line : take n b ≡ l)
  where
    size : length l ≡ n
    size = ap length (sym line) ∙ length-take-le n b (omega arith)

    pub put_full : answer_line - n < length x → l ≡ behind l x
    unfolding behind
    put_full h = let s = size in sym (pick-false _ _ _ (lt-leb (length l + length x) answer_line (omega arith)))

    pub put_room : length x ≤ answer_line - n → (b' : List ℕ) → b' ≡ overwrite b n x
        → take (n + length x) b' ≡ behind l x
    unfolding behind
    put_room h b' e =
        let s = size in
        ap (take (n + length x)) e ∙ take_overwrite b n x (n + length x) refl (omega arith)
        ∙ ap (λ (z : List ℕ). z ++ x) line
        ∙ sym (pick_true _ _ _ (le-leb (length l + length x) answer_line (omega arith)))

    -- without its last byte
    pub without_end : take (n - 1) b ≡ take (length l - 1) l
    without_end =
        let s = size in
        let m : length l - 1 ≡ n - 1 = omega arith in
        sym (ap (λ (z : ℕ). take z l) m ∙ ap (take (n - 1)) (sym line) ∙ take-take (n - 1) n b (omega arith))

-- digits that fill their buffer
pub digits_whole : (b d d' : List ℕ) → length d ≡ 2 * length b → d' ≡ overwrite d 0 (hex_of b) → d' ≡ hex_of b
digits_whole b d d' n e = e ∙ overwrite_all d (hex_of b) (n ∙ sym (length-hex_of b))

pub saved_done : (o : Outcome) (n l : ℕ) → o ≡ Done n l → (line digest : List ℕ)
    → with_digest line digest ≡ saved_line o line digest
unfolding saved_line
saved_done o n l e line digest = rw e refl

pub saved_else : (o : Outcome) → ((n l : ℕ) → o ≡ Done n l → ⊥) → (line digest : List ℕ)
    → line ≡ saved_line o line digest
unfolding saved_line
saved_else (Done n l) h line digest = absurd (h n l refl)
saved_else (Ask l) h line digest = refl
saved_else (Refused e) h line digest = refl
saved_else (Stopped e) h line digest = refl
