-- Laws of the desk's lines: how long they are, and what reading one comes to.
-- Assumes nothing.
use Rattle.std.specs.Prelude.{None, Some, Result, Ok, Err}
use Rattle.std.specs.Prelude.{◌≡◌, refl, true, false, List, ◌++◌, ℕ, ◌+◌, ◌-◌, ◌*◌, ◌≤◌, length, take, drop}
use Rattle.std.specs.Result.{result_ok}
use Rattle.std.proofs.Math.Path.{sym, ap}
use Rattle.std.proofs.Common.{◌∙◌, zero-add, arith, take-append-drop, length-take-le}
use Rattle.lists.specs.Pick.{pick_true, pick-false}
use Rattle.lists.specs.Parts.{part, overwrite}
use Rattle.lists.specs.PartLaws.{length_overwrite, overwrite_front, overwrite_part, overwrite_none, take_overwrite}
use Rattle.text.specs.Ascii.{ascii}
use Rattle.text.specs.Hex.{bytes_of, decode_of, decoded_in}
use Rattle.text.specs.laws.HexCases.{length-bytes_of}
use Rattle.text.specs.laws.HexLaws.{decodes}
use Rattle.text.specs.Line.{begins}
use Rattle.text.specs.declared.hex.DecodeError.{DecodeError}
use Rattle.filesystem.specs.Tables.{NODES, NAME_BYTES, ID_BYTES}
use Rattle.rules.specs.Skeleton.{Config, answer_length, at_front}
use Rattle.desk_lines.specs.declared.Entry.{Entry}
use Rattle.desk_lines.specs.declared.Entry.TheVariants.{Call, Reply}
use Rattle.desk_lines.specs.Lines.{most_bytes, DeskLine, call_line, reply_line, bad_line, decoded_as, hex_line, line_of}
use Rattle.desk_lines.specs.Lines.{line_for, line_bytes, line_in, Reads}

-- the least length of the answer buffer
pub most_answer : (c : Config) → c.width ≡ ID_BYTES → answer_length c ≡ most_bytes
unfolding answer_length
most_answer c e = ap (λ (w : ℕ). (NODES - 1) * (w + (2 + NAME_BYTES))) e

pub most_number : most_bytes ≡ 9690
most_number = refl

-- digits decoded into the first n bytes of a buffer
front_overwritten : (d x : List ℕ) (n : ℕ) → length x ≤ n → n ≤ length d → overwrite (take n d) 0 x
    ++ drop n d ≡ overwrite d 0 x
unfolding part
front_overwritten d x n h g =
    let l = length-take-le n d g in
    let m : length (overwrite (take n d) 0 x) ≡ n = length_overwrite (take n d) 0 x (omega arith) ∙ l in
    sym (overwrite_part d 0 n 0 x (omega arith) (omega arith) ∙ overwrite_front d (overwrite (take n d) 0 x)
    ∙ ap (λ (k : ℕ). overwrite (take n d) 0 x ++ drop k d) m)

pub decoded_front : (r : Result ℕ DecodeError) (s d : List ℕ) (n : ℕ) → n ≤ length d → decode_of s n ≡ r
    → decoded_in r s (take n d) ++ drop n d ≡ decoded_in r s d
unfolding decoded_in
decoded_front (Ok k) s d n h e =
    let f = decodes s n k e in
    front_overwritten d (bytes_of s) n (omega (arith, length-bytes_of s)) h
decoded_front (Err x) s d n h e = take-append-drop n d

pub line_bytes-for : (e : Entry) (b : List ℕ) → line_bytes (line_for e b) ≡ b
unfolding line_bytes line_for
line_bytes-for Call b = refl
line_bytes-for Reply b = refl

pub was_ok : (r : Result ℕ DecodeError) (k : ℕ) → result_ok r ≡ Some k → r ≡ Ok k
was_ok (Ok n) k e = cc
was_ok (Err x) k e = absurd (cc)

-- What was decoded of the digits s, r, as a line: the buffer before is d, now d'.
module _ (s d d' : List ℕ) (r : Result ℕ DecodeError) (answer : r ≡ decode_of s most_bytes)
    (left : d' ≡ decoded_in r s d) (room : most_bytes ≤ length d) where
  module _ (k : ℕ) (good : r ≡ Ok k) where
    good_line : (kind : List ℕ → DeskLine) → hex_line kind s ≡ kind (bytes_of s)
    unfolding hex_line decoded_as
    good_line kind = ap (decoded_as kind s) (sym answer ∙ good)

    good_buffer : d' ≡ at_front (bytes_of s) d
    unfolding decoded_in
    good_buffer = left ∙ ap (λ (x : Result ℕ DecodeError). decoded_in x s d) good

    good_most : (k ≡ length (bytes_of s)) × (k ≤ most_bytes)
    good_most = let f = decodes s most_bytes k (sym answer ∙ good) in (omega (arith, length-bytes_of s), f.fits)

    good_front : take k d' ≡ bytes_of s
    good_front = ap (take k) good_buffer ∙ take_overwrite d 0 (bytes_of s) k (good_most.0 ∙ sym (zero-add _))
        (omega arith)

    pub reads_good : (e : Entry) → Reads (hex_line (line_for e) s) (Some (record { entry = e; length = k })) d d'
    unfolding line_in
    reads_good e = record {
      line = ap (line_for e) good_front ∙ sym (good_line (line_for e));
      buffer = good_buffer ∙ ap (λ (x : List ℕ). at_front x d) (sym (ap line_bytes (good_line (line_for e))
          ∙ line_bytes-for e (bytes_of s)));
      most = good_most.1;
    }

-- a bad line leaves the buffer as it is
pub reads_bad : (x : DeskLine) (d d' : List ℕ) → x ≡ bad_line → d' ≡ d → Reads x None d d'
unfolding line_in line_bytes
reads_bad x d d' e f = record {
  line = sym e;
  buffer = f ∙ sym (overwrite_none 0 d 0) ∙ ap (λ (y : DeskLine). at_front (line_bytes y) d) (sym e);
  most = omega arith;
}

-- what was refused too
pub reads_refused : (kind : List ℕ → DeskLine) (s d d' : List ℕ) (r : Result ℕ DecodeError) → r ≡ decode_of s most_bytes
    → d' ≡ decoded_in r s d
    → result_ok r ≡ None
    → Reads (hex_line kind s) None d d'
unfolding hex_line decoded_as decoded_in
reads_refused kind s d d' (Ok k) answer left bad = absurd (cc)
reads_refused kind s d d' (Err e) answer left bad = reads_bad _ d d' (ap (decoded_as kind s) (sym answer)) left

-- which line it is
module _ (s : List ℕ) where
  pub line_call : begins s (ascii "c ") ≡ true → line_of s ≡ hex_line call_line (drop 2 s)
  unfolding line_of
  line_call h = pick_true _ _ _ h

  pub line_reply : begins s (ascii "c ") ≡ false → begins s (ascii "r ") ≡ true → line_of s ≡ hex_line reply_line (drop 2 s)
  unfolding line_of
  line_reply h g = pick-false _ _ _ h ∙ pick_true _ _ _ g

  pub line_bad : begins s (ascii "c ") ≡ false → begins s (ascii "r ") ≡ false → line_of s ≡ bad_line
  unfolding line_of
  line_bad h g = pick-false _ _ _ h ∙ pick-false _ _ _ g
