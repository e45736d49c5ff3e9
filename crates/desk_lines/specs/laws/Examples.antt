-- The desk's session (SPECIFICATION 12.6): what each line that is read means, and what is printed for each answer. And
-- lines that are bad.
-- Assumes nothing.
use Rattle.std.specs.Prelude.{◌≡◌, refl, List, [], ◌∷◌, map, ℕ, replicate}
use Prim.Native.String.{String}
use Rattle.lists.specs.Cells.{tab}
use Rattle.lists.specs.Pick.{pick}
use Rattle.lists.specs.Search.{place}
use Rattle.text.specs.Ascii.{ascii}
use Rattle.text.specs.Digits.{last_digits, decimal_of}
use Rattle.text.specs.Hex.{digit_of, value_of, half_of, hex_of, pair_of, bytes_of, decode_of}
use Rattle.text.specs.Line.{begins}
use Rattle.rules.specs.Skeleton.{done, ask, refused, stopped}
use Rattle.desk_lines.specs.Lines.{DeskLine, call_line, reply_line, bad_line, decoded_as, hex_line, line_of, any_bytes}
use Rattle.desk_lines.specs.Lines.{printed}

abbrev meanings : List String → List DeskLine
meanings s = map (λ x. line_of (ascii x)) s

abbrev texts : List String → List (List ℕ)
texts s = map ascii s

pub sample_read : meanings ("c 01072f61" ∷ "r 02000000" ∷ "c 03012f61" ∷ "r 00000000" ∷ "c 060200000005000000" ∷ "c 0402000000" ∷ "r ffffffff" ∷ "c 092f61" ∷ [])
    ≡ call_line (1 ∷ 7 ∷ 47 ∷ 97 ∷ []) ∷ reply_line (2 ∷ 0 ∷ 0 ∷ 0 ∷ []) ∷ call_line (3 ∷ 1 ∷ 47 ∷ 97 ∷ [])
    ∷ reply_line (0 ∷ 0 ∷ 0 ∷ 0 ∷ [])
    ∷ call_line (6 ∷ 2 ∷ 0 ∷ 0 ∷ 0 ∷ 5 ∷ 0 ∷ 0 ∷ 0 ∷ []) ∷ call_line (4 ∷ 2 ∷ 0 ∷ 0 ∷ 0 ∷ [])
    ∷ reply_line (255 ∷ 255 ∷ 255 ∷ 255 ∷ []) ∷ call_line (9 ∷ 47 ∷ 97 ∷ []) ∷ []
unfolding ascii line_of begins pick hex_line decoded_as decode_of place value_of bytes_of pair_of tab
sample_read = refl

pub sample_printed : map printed (ask (1 ∷ 7 ∷ 47 ∷ 97 ∷ []) ∷ done 2 [] ∷ ask (3 ∷ 1 ∷ 47 ∷ 97 ∷ []) ∷ done 2 []
    ∷ done 0 [] ∷ ask (4 ∷ 0 ∷ 0 ∷ 0 ∷ 0 ∷ []) ∷ stopped 2 ∷ refused 5 ∷ [])
    ≡ texts ("ask 01072f61\n" ∷ "done 2\n" ∷ "ask 03012f61\n" ∷ "done 2\n" ∷ "done 0\n" ∷ "ask 0400000000\n" ∷ "stopped 2\n" ∷ "refused 5\n" ∷ [])
unfolding ascii printed any_bytes hex_of digit_of half_of pick tab decimal_of last_digits
sample_printed = refl

-- bytes behind a number: a stat's
pub stat-printed : printed (done 65535 (2 ∷ 0 ∷ 0 ∷ 0 ∷ 1 ∷ 7 ∷ 255 ∷ 255 ∷ 0 ∷ 0 ∷ [])) ≡ ascii "done 65535 020000000107ffff0000\n"
unfolding ascii printed any_bytes hex_of digit_of half_of pick tab decimal_of last_digits
stat-printed = refl

-- an empty call and an empty reply are lines
pub empty-read : meanings ("c " ∷ "r " ∷ []) ≡ call_line [] ∷ reply_line [] ∷ []
unfolding ascii line_of begins pick hex_line decoded_as decode_of place value_of bytes_of pair_of tab
empty-read = refl

-- no line, no blank, two, one before or behind, an odd number of digits, upper case, another letter, a carriage return,
-- a tab
pub bad_read : meanings ("" ∷ "c" ∷ "c0d2f" ∷ "c  0d2f" ∷ " c 0d2f" ∷ "c 0d2f " ∷ "c 0d2" ∷ "c 0D2F" ∷ "C 0d2f" ∷ "s 23" ∷ "c 0g" ∷ "c 0d2f\r" ∷ "c\t0d2f" ∷ [])
    ≡ replicate 13 bad_line
unfolding ascii line_of begins pick hex_line decoded_as decode_of place value_of bytes_of pair_of tab
bad_read = refl
