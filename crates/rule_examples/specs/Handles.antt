-- Calls by handle: their numbers in order (SPECIFICATION 7.8), where nothing is sent. The limits of 27 and 28 stand in `Limits`.
use Rattle.std.specs.Prelude.{◌≡◌, refl, List, [], ◌∷◌}
use Rattle.filesystem.specs.Tables.{OpenFile}
use Rattle.rule_examples.specs.Bytes.{nothing}
use Rattle.rule_examples.specs.Given.{Item, file, root, opened, Given, given}
use Rattle.rule_examples.specs.Events.{close, seek, read, write, truncate, says}
use Rattle.rule_examples.specs.Rows.{is_done, is_refused, closes, fetches, cuts_to, ◌⇒◌, holds, ◌then◌, end, Row, row, one}
use Rattle.rule_examples.specs.Evaluation.{wrong}

-- `/r` is open for reading, `/w` for writing, `/b` for both; `/c` is not open
abbrev items : List Item
items = root ∷ file 2 1 7 "r" (1 ∷ 2 ∷ 3 ∷ []) ∷ file 3 1 7 "w" (4 ∷ 5 ∷ []) ∷ file 4 1 7 "b" (6 ∷ 7 ∷ 8 ∷ []) ∷ file 5 1 7 "c" (9 ∷ []) ∷ []

abbrev opens : List OpenFile
opens = opened 2 10 1 1 ∷ opened 3 11 2 1 ∷ opened 4 12 3 3 ∷ []

abbrev w : Given
w = given items opens

abbrev pub rows : List Row
rows =
    -- 9 where no open file has the handle
    one "9: close, not open" w (close 5) (is_refused 9)
    ∷ one "9: close, no such file" w (close 99) (is_refused 9)
    ∷ one "9: seek, not open" w (seek 5 0) (is_refused 9)
    ∷ one "9: read, not open" w (read 5 1) (is_refused 9)
    ∷ one "9: write, not open" w (write 5 (1 ∷ [])) (is_refused 9)
    ∷ one "9: truncate, not open" w (truncate 5 0) (is_refused 9)
    ∷ one "9: close by the descriptor" w (close 10) (is_refused 9)
    ∷ one "9: handle 0" w (close 0) (is_refused 9)
    ∷ one "9: the root's id" w (seek 1 0) (is_refused 9)
    -- a read needs the right 1 (SPECIFICATION 4.9)
    ∷ one "9: read without right 1" w (read 3 1) (is_refused 9)
    ∷ one "9: read of no bytes without right 1" w (read 3 0) (is_refused 9)
    ∷ one "read with right 1" w (read 2 1) (fetches 10 0)
    -- a write and a truncation the right 2
    ∷ one "9: write without right 2" w (write 2 (1 ∷ [])) (is_refused 9)
    ∷ one "9: write of no bytes without right 2" w (write 2 nothing) (is_refused 9)
    ∷ one "write with right 2" w (write 3 (1 ∷ [])) (fetches 11 0)
    ∷ one "9: truncate without right 2" w (truncate 2 1) (is_refused 9)
    ∷ one "9: truncate to the same size without right 2" w (truncate 2 3) (is_refused 9)
    ∷ one "truncate with right 2" w (truncate 3 0) (cuts_to 11 0)
    -- rights 3 are both
    ∷ row "read with rights 3" w (seek 4 0 ⇒ is_done 0 nothing then read 4 1 ⇒ fetches 12 0 then end)
    ∷ one "write with rights 3" w (write 4 (1 ∷ [])) (fetches 12 0)
    ∷ one "truncate with rights 3" w (truncate 4 0) (cuts_to 12 0)
    -- close and seek none
    ∷ row "close with right 1" w
    (close 2 ⇒ closes 10 then holds items opens then says 0 ⇒ is_done 0 nothing then holds items (opened 3 11 2 1 ∷ opened 4 12 3 3 ∷ []) then close 2 ⇒ is_refused 9 then end)
    ∷ row "close with right 2" w (close 3 ⇒ closes 11 then says 0 ⇒ is_done 0 nothing then holds items (opened 2 10 1 1 ∷ opened 4 12 3 3 ∷ []) then end)
    ∷ one "seek with right 1" w (seek 2 0) (is_done 0 nothing)
    ∷ one "seek with right 2" w (seek 3 0) (is_done 0 nothing)
    -- seek sets the cursor, from 0 up to the size (SPECIFICATION 2.6); done with the position
    ∷ row "seek to a place" w (seek 2 2 ⇒ is_done 2 nothing then holds items (opened 2 10 1 2 ∷ opened 3 11 2 1 ∷ opened 4 12 3 3 ∷ []) then end)
    ∷ row "seek back" w (seek 4 1 ⇒ is_done 1 nothing then holds items (opened 2 10 1 1 ∷ opened 3 11 2 1 ∷ opened 4 12 3 1 ∷ []) then end)
    ∷ row "seek to the size" w (seek 2 3 ⇒ is_done 3 nothing then holds items (opened 2 10 1 3 ∷ opened 3 11 2 1 ∷ opened 4 12 3 3 ∷ []) then end)
    -- 22 beyond the size; 9 comes first
    ∷ one "22: seek beyond the size" w (seek 2 4) (is_refused 22)
    ∷ one "22: seek, 8 bytes are read" w (seek 2 4294967297) (is_refused 22)
    ∷ one "22: seek, the eighth byte" w (seek 2 72057594037927937) (is_refused 22)
    ∷ one "9 before 22: seek" w (seek 5 2) (is_refused 9)
    -- a truncation beyond the size cuts to it; 27 asks all 8 bytes; 9 comes first
    ∷ one "truncate beyond the size" w (truncate 4 4) (cuts_to 12 4)
    ∷ one "27: truncate, 8 bytes are read" w (truncate 4 4294967301) (is_refused 27)
    ∷ one "27: truncate, the eighth byte" w (truncate 4 72057594037927940) (is_refused 27)
    ∷ one "27: truncate to 2^64 - 1" w (truncate 4 18446744073709551615) (is_refused 27)
    ∷ one "9 before 27: truncate" w (truncate 5 65537) (is_refused 9)
    ∷ one "9 before 27: truncate without right 2" w (truncate 2 65537) (is_refused 9)
    -- a read or write of no bytes and a truncation to the same size send nothing (SPECIFICATION 5.2); done with 0
    ∷ row "read of no bytes" w (read 2 0 ⇒ is_done 0 nothing then holds items opens then end)
    ∷ row "read at the end" w (read 4 7 ⇒ is_done 0 nothing then holds items opens then end)
    ∷ row "write of no bytes" w (write 3 nothing ⇒ is_done 0 nothing then holds items opens then end)
    ∷ row "truncation to the same size" w (truncate 4 3 ⇒ is_done 0 nothing then holds items opens then end)
    ∷ []

pub rows_hold : wrong rows ≡ []
unfolding wrong
rows_hold = refl
