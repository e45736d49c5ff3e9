-- Readdir, stat and chmod: their numbers in order (SPECIFICATION 7.7), and what they give.
use Rattle.std.specs.Prelude.{◌≡◌, refl, List, [], ◌∷◌, ◌++◌}
use Rattle.filesystem.specs.Tables.{OpenFile}
use Rattle.rule_examples.specs.Bytes.{bytes_of, nothing}
use Rattle.rule_examples.specs.Given.{Item, folder, file, sized, root_of, root, opened, Given, given}
use Rattle.rule_examples.specs.Events.{replies, open_for, read, chmod, readdir, stat, says, entry, stat_of}
use Rattle.rule_examples.specs.Rows.{is_done, is_refused, asks, fetches, ◌⇒◌, holds, ◌then◌, end, sends_itself, Row, row, one, passes}
use Rattle.rule_examples.specs.Evaluation.{wrong}

-- `/n` is a file without any bit; `/b` a folder with all bits but 4; `/d` one with bit 4 alone; `/s` is open for reading
abbrev items : List Item
items =
    root ∷ file 2 1 0 "n" nothing ∷ folder 3 1 3 "b" ∷ folder 4 1 4 "d" ∷ file 5 4 7 "one" nothing ∷ folder 6 4 7 "two"
    ∷ file 7 6 7 "deep" nothing ∷ file 8 1 6 "s" (1 ∷ 2 ∷ 3 ∷ []) ∷ []

abbrev opens : List OpenFile
opens = opened 8 5 1 2 ∷ []

abbrev w : Given
w = given items opens

abbrev pub rows : List Row
rows =
    -- 20 of a file, before 13
    one "20: readdir of a file" w (readdir "/s") (is_refused 20)
    ∷ one "20 before 13: readdir" w (readdir "/n") (is_refused 20)
    -- 13 (bit 4), of the folder itself; no other bit of it
    ∷ one "13: readdir without bit 4" w (readdir "/b") (is_refused 13)
    ∷ passes "no 13: readdir with bit 4 alone" w (readdir "/d")
    ∷ passes "no 13: readdir of a root with bit 4 alone" (given (root_of 4 ∷ []) []) (readdir "/")
    ∷ one "13: readdir of a root without bit 4" (given (root_of 3 ∷ []) []) (readdir "/") (is_refused 13)
    -- readdir is done with the number of entries and the reply; each child and no grandchild
    ∷ row "readdir is done" w
    (readdir "/d" ⇒ asks (12 ∷ bytes_of "/d") then replies (entry 5 1 "one" ++ entry 6 2 "two") ⇒ is_done 2 (entry 5 1 "one" ++ entry 6 2 "two")
    then holds items opens then end)
    ∷ row "readdir of an empty folder" (given (root ∷ []) []) (sends_itself (readdir "/") then replies nothing ⇒ is_done 0 nothing then end)
    -- stat is done with the size and the reply; no bit of the node is asked
    ∷ row "stat of a file" w (stat "/s" ⇒ asks (13 ∷ bytes_of "/s") then replies (stat_of 8 1 6 3) ⇒ is_done 3 (stat_of 8 1 6 3) then holds items opens then end)
    ∷ row "stat of a file without any bit" w (sends_itself (stat "/n") then replies (stat_of 2 1 0 0) ⇒ is_done 0 (stat_of 2 1 0 0) then end)
    ∷ row "stat of a folder" w (sends_itself (stat "/b") then replies (stat_of 3 2 3 0) ⇒ is_done 0 (stat_of 3 2 3 0) then end)
    ∷ row "stat of the root" w (sends_itself (stat "/") then replies (stat_of 1 2 7 0) ⇒ is_done 0 (stat_of 1 2 7 0) then end)
    ∷ row "stat of a large file" (given (root ∷ sized 2 1 7 "a" 65536 ∷ []) []) (sends_itself (stat "/a") then replies (stat_of 2 1 7 65536) ⇒ is_done 65536 (stat_of 2 1 7 65536) then end)
    -- chmod sets the mode, and the rights of an open file stay (SPECIFICATION 4.7); done with 0
    ∷ row "chmod of an open file" w
    (chmod 0 "/s" ⇒ asks (11 ∷ 0 ∷ bytes_of "/s") then holds items opens then says 0 ⇒ is_done 0 nothing
    then holds
    (root ∷ file 2 1 0 "n" nothing ∷ folder 3 1 3 "b" ∷ folder 4 1 4 "d" ∷ file 5 4 7 "one" nothing ∷ folder 6 4 7 "two"
    ∷ file 7 6 7 "deep" nothing ∷ file 8 1 0 "s" (1 ∷ 2 ∷ 3 ∷ []) ∷ [])
    opens
    then read 8 1 ⇒ fetches 5 0 then end)
    ∷ row "chmod of a file without any bit" w (sends_itself (chmod 7 "/n") then says 0 ⇒ is_done 0 nothing then sends_itself (open_for 3 "/n") then end)
    ∷ row "chmod of a folder without any bit" (given (root ∷ folder 2 1 0 "d" ∷ file 3 2 7 "a" nothing ∷ []) [])
    (sends_itself (chmod 5 "/d") then says 0 ⇒ is_done 0 nothing
    then holds (root ∷ folder 2 1 5 "d" ∷ file 3 2 7 "a" nothing ∷ []) [] then sends_itself (stat "/d/a") then end)
    ∷ row "chmod of the root" (given (root ∷ []) []) (sends_itself (chmod 0 "/") then says 0 ⇒ is_done 0 nothing then holds (root_of 0 ∷ []) [] then stat "/a" ⇒ is_refused 13 then end)
    ∷ []

pub rows_hold : wrong rows ≡ []
unfolding wrong
rows_hold = refl
