-- Which lines are calls and which are replies: exactly those that are spelled as SPECIFICATION 12.2 says, a letter, a
-- space, and bytes in
-- lower-case hexadecimal, at most 9,690 of them. All others are bad.
-- Assumes nothing.
use Rattle.std.specs.Prelude.{Result, Ok, Err, ◌≡◌, true, List, ◌++◌, ℕ, ◌+◌, ◌*◌, ◌≤◌, ◌<◌, length, drop}
use Rattle.std.proofs.Math.Path.{refl, ap}
use Rattle.std.proofs.Common.{sym, ◌∙◌, arith, length-append}
use Rattle.lists.specs.All as all
use Rattle.lists.specs.Pick.{pick, pick_ind}
use Rattle.text.specs.Ascii.{ascii}
use Rattle.text.specs.Hex.{hex_of, bytes_of, decode_of}
use Rattle.text.specs.laws.HexCases.{length-hex_of, length-bytes_of}
use Rattle.text.specs.laws.HexLaws.{bytes_of-hex_of, hex_of-bytes_of, bytes_of-bytes, decodes, decode-hex_of}
use Rattle.text.specs.Line.{begins}
use Rattle.text.specs.laws.LineLaws.{begins_is}
use Rattle.text.specs.declared.hex.DecodeError.{DecodeError}
use Rattle.desk_lines.specs.Lines.{most_bytes, DeskLine, call_line, reply_line, bad_line, decoded_as, hex_line, line_of}
use Rattle.desk_lines.specs.laws.LineLaws.{line_call, line_reply}

pub record Spells (word b s : List ℕ) : Type 0 where
  pub line : s ≡ word ++ hex_of b
  pub bytes : all.Bytes b
  pub most : length b ≤ most_bytes

abbrev pub LineIs : DeskLine → List ℕ → Type 0
LineIs (call_line b) s = Spells (ascii "c ") b s
LineIs (reply_line b) s = Spells (ascii "r ") b s
LineIs bad_line s = Unit {0}

module _ (word s : List ℕ) (two : length word ≡ 2) (begun : begins s word ≡ true) where
  behind : word ++ drop 2 s ≡ s
  behind = sym (begins_is s word begun ∙ ap (λ (n : ℕ). word ++ drop n s) two)

  spelled : (k : ℕ) → decode_of (drop 2 s) most_bytes ≡ Ok k → Spells word (bytes_of (drop 2 s)) s
  spelled k e =
      let d = decodes (drop 2 s) most_bytes k e in
      let n = length-bytes_of (drop 2 s) in
      record {
        line = sym (ap (λ (x : List ℕ). word ++ x) (hex_of-bytes_of (drop 2 s) d.digits d.even) ∙ behind);
        bytes = bytes_of-bytes (drop 2 s) d.digits d.even;
        most = omega arith;
      }

-- a line means what it is spelled as
module _ (s : List ℕ) where
  call_as : begins s (ascii "c ") ≡ true → (r : Result ℕ DecodeError) → decode_of (drop 2 s) most_bytes ≡ r
      → LineIs (decoded_as call_line (drop 2 s) r) s
  unfolding decoded_as ascii
  call_as h (Ok k) e = spelled (ascii "c ") s refl h k e
  call_as h (Err x) e = tt

  reply_as : begins s (ascii "r ") ≡ true → (r : Result ℕ DecodeError) → decode_of (drop 2 s) most_bytes ≡ r
      → LineIs (decoded_as reply_line (drop 2 s) r) s
  unfolding decoded_as ascii
  reply_as h (Ok k) e = spelled (ascii "r ") s refl h k e
  reply_as h (Err x) e = tt

  pub line-is : LineIs (line_of s) s
  unfolding line_of hex_line
  line-is =
      pick_ind (λ (x : DeskLine). LineIs x s) (begins s (ascii "c ")) (λ e. call_as e _ refl)
      (λ _. pick_ind (λ (x : DeskLine). LineIs x s) (begins s (ascii "r ")) (λ e. reply_as e _ refl) (λ _. tt))

-- and what is spelled so means it
module _ (b : List ℕ) (bytes : all.Bytes b) (most : length b ≤ most_bytes) where
  hex_spelled : (kind : List ℕ → DeskLine) → hex_line kind (hex_of b) ≡ kind b
  unfolding hex_line decoded_as
  hex_spelled kind = ap (decoded_as kind (hex_of b)) (decode-hex_of b most_bytes bytes most)
      ∙ ap kind (bytes_of-hex_of b bytes)

  pub call_spelled : line_of (ascii "c " ++ hex_of b) ≡ call_line b
  unfolding ascii begins pick
  call_spelled = line_call (ascii "c " ++ hex_of b) refl ∙ hex_spelled call_line

  pub reply_spelled : line_of (ascii "r " ++ hex_of b) ≡ reply_line b
  unfolding ascii begins pick
  reply_spelled = line_reply (ascii "r " ++ hex_of b) refl refl ∙ hex_spelled reply_line

-- so a line that is longer than any good one is bad, whatever its bytes
pub long_bad : (s : List ℕ) → 2 + 2 * most_bytes < length s → line_of s ≡ bad_line
long_bad s h = go (line_of s) (line-is s)
  where
    spelled_short : (word b : List ℕ) → length word ≡ 2 → Spells word b s → ⊥
    spelled_short word b two p =
        let e = ap length p.line in
        let n = length-append word (hex_of b) in
        let k = length-hex_of b in
        let most = p.most in
        absurd (omega arith)

    go : (x : DeskLine) → LineIs x s → x ≡ bad_line
    go (call_line b) p = absurd (unfold ascii in spelled_short (ascii "c ") b refl p)
    go (reply_line b) p = absurd (unfold ascii in spelled_short (ascii "r ") b refl p)
    go bad_line p = refl
