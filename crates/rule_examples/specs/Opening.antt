-- Open: its numbers in order (SPECIFICATION 7.7), and what it leaves. The limit of 24 stands in `Limits`.
use Rattle.std.specs.Prelude.{◌≡◌, refl, List, [], ◌∷◌, ◌++◌, map, ℕ}
use Rattle.filesystem.specs.Tables.{OpenFile}
use Rattle.rule_examples.specs.Bytes.{bytes_of, nothing}
use Rattle.rule_examples.specs.Given.{Item, folder, file, root, opened, Given, given}
use Rattle.rule_examples.specs.Events.{open_for, close, says, gives}
use Rattle.rule_examples.specs.Rows.{is_done, is_refused, asks, closes, ◌⇒◌, holds, ◌then◌, end, sends_itself, Row, row, one, passes}
use Rattle.rule_examples.specs.Evaluation.{wrong}

-- `/d` is a folder with no bit; `/a` is open for reading; `/m` has mode 4 and is open too
abbrev items : List Item
items = root ∷ folder 2 1 0 "d" ∷ file 3 1 7 "a" (1 ∷ []) ∷ file 4 1 4 "m" nothing ∷ file 5 1 7 "b" (1 ∷ 2 ∷ []) ∷ []

abbrev opens : List OpenFile
opens = opened 3 7 1 1 ∷ opened 4 8 1 0 ∷ []

abbrev w : Given
w = given items opens

-- a file of this mode
abbrev moded : (mode : ℕ) → Given
moded m = given (root ∷ file 2 1 m "a" nothing ∷ []) []

abbrev covered : (rights : ℕ) → (mode : ℕ) → Row
covered r m = passes "the mode covers the rights" (moded m) (open_for r "/a")

abbrev uncovered : (rights : ℕ) → (mode : ℕ) → Row
uncovered r m = one "13: the mode does not cover the rights" (moded m) (open_for r "/a") (is_refused 13)

abbrev pub rows : List Row
rows =
    -- 21 of a directory
    one "21: open /" w (open_for 1 "/") (is_refused 21)
    ∷ one "21: open a folder" (given (root ∷ folder 2 1 7 "d" ∷ []) []) (open_for 1 "/d") (is_refused 21)
    ∷ one "21 before 13" w (open_for 3 "/d") (is_refused 21)
    -- 13 before 16, 16 of an open file
    ∷ one "13 before 16" w (open_for 2 "/m") (is_refused 13)
    ∷ one "16: open twice" w (open_for 1 "/a") (is_refused 16)
    ∷ passes "no 16: another file is open" w (open_for 1 "/b")
    -- the open file has its rights, the descriptor of the reply, cursor 0 (SPECIFICATION 9.6); done with the id
    ∷ row "open is done" w
    (open_for 2 "/b" ⇒ asks (3 ∷ 2 ∷ bytes_of "/b") then holds items opens then gives 900 ⇒ is_done 5 nothing then holds items (opens ++ (opened 5 900 2 0 ∷ [])) then end)
    ∷ row "open for reading" (moded 7)
    (sends_itself (open_for 1 "/a") then gives 0 ⇒ is_done 2 nothing
    then holds (root ∷ file 2 1 7 "a" nothing ∷ []) (opened 2 0 1 0 ∷ []) then end)
    ∷ row "open for writing" (moded 7)
    (sends_itself (open_for 2 "/a") then gives 0 ⇒ is_done 2 nothing
    then holds (root ∷ file 2 1 7 "a" nothing ∷ []) (opened 2 0 2 0 ∷ []) then end)
    ∷ row "open for both" (moded 7) (sends_itself (open_for 3 "/a") then gives 0 ⇒ is_done 2 nothing then holds (root ∷ file 2 1 7 "a" nothing ∷ []) (opened 2 0 3 0 ∷ []) then end)
    -- a file that was closed may be opened again, and its descriptor given again
    ∷ row "open, close, open" (moded 7)
    (sends_itself (open_for 1 "/a") then gives 4 ⇒ is_done 2 nothing then open_for 1 "/a" ⇒ is_refused 16 then close 2 ⇒ closes 4 then says 0 ⇒ is_done 0 nothing
    then sends_itself (open_for 1 "/a") then gives 4 ⇒ is_done 2 nothing then end)
    -- the table of 24 entries (SPECIFICATION 4.8)
    ∷ (map (uncovered 1) (0 ∷ 1 ∷ 2 ∷ 3 ∷ []) ++ (map (covered 1) (4 ∷ 5 ∷ 6 ∷ 7 ∷ [])
    ++ (map (uncovered 2) (0 ∷ 1 ∷ 4 ∷ 5 ∷ []) ++ (map (covered 2) (2 ∷ 3 ∷ 6 ∷ 7 ∷ [])
    ++ (map (uncovered 3) (0 ∷ 1 ∷ 2 ∷ 3 ∷ 4 ∷ 5 ∷ []) ++ map (covered 3) (6 ∷ 7 ∷ []))))))

pub rows_hold : wrong rows ≡ []
unfolding wrong
rows_hold = refl
