-- Remove and rmdir: their numbers in order (SPECIFICATION 7.7), and what they leave.
use Rattle.std.specs.Prelude.{◌≡◌, refl, List, [], ◌∷◌}
use Rattle.filesystem.specs.Tables.{OpenFile}
use Rattle.rule_examples.specs.Bytes.{bytes_of, nothing}
use Rattle.rule_examples.specs.Given.{Item, folder, file, root_of, root, opened, Given, given}
use Rattle.rule_examples.specs.Events.{create, remove, rmdir, says, gives}
use Rattle.rule_examples.specs.Rows.{is_done, is_refused, asks, ◌⇒◌, holds, ◌then◌, end, sends_itself, Row, row, one, passes}
use Rattle.rule_examples.specs.Evaluation.{wrong}

-- `/r` lacks bit 2 and holds the open file `f`, the file `i`, the folder `g` and the folder `h`, in which stands `k`;
-- `/w` has the bits 2 and 1 alone and holds `z` and `y`, without any bit; `/o` is open
abbrev items : List Item
items =
    root ∷ folder 2 1 5 "r" ∷ file 3 2 7 "f" nothing ∷ folder 4 2 7 "g" ∷ folder 5 2 7 "h" ∷ file 6 5 7 "k" nothing
    ∷ folder 7 1 3 "w" ∷ file 8 7 0 "z" nothing ∷ folder 9 7 0 "y" ∷ file 10 1 7 "o" nothing ∷ file 11 2 7 "i" nothing ∷ []

abbrev opens : List OpenFile
opens = opened 3 5 1 0 ∷ opened 10 6 1 0 ∷ []

abbrev w : Given
w = given items opens

-- `/d` holds one node, `/e` none
abbrev lone : Item → Given
lone i = given (root ∷ folder 2 1 7 "d" ∷ i ∷ folder 4 1 7 "e" ∷ []) []

abbrev pub rows : List Row
rows =
    -- 21 of a directory
    one "21: remove /" w (remove "/") (is_refused 21)
    ∷ one "21: remove a folder" w (remove "/w") (is_refused 21)
    ∷ one "21 before 13: remove" w (remove "/r/g") (is_refused 21)
    -- 13 (parent bit 2), never a bit of the node
    ∷ one "13: remove in a folder without bit 2" w (remove "/r/i") (is_refused 13)
    ∷ one "13 before 16: remove" w (remove "/r/f") (is_refused 13)
    ∷ one "2 before 13: remove" w (remove "/r/none") (is_refused 2)
    ∷ passes "no 13: remove with the parent's bits 2 and 1" w (remove "/w/z")
    -- 16 of an open file
    ∷ one "16: remove an open file" w (remove "/o") (is_refused 16)
    -- the node is taken out, later ones move up (SPECIFICATION 2.3); done with 0
    ∷ row "remove is done" w
    (remove "/w/z" ⇒ asks (9 ∷ bytes_of "/w/z") then holds items opens then says 0 ⇒ is_done 0 nothing
    then holds
    (root ∷ folder 2 1 5 "r" ∷ file 3 2 7 "f" nothing ∷ folder 4 2 7 "g" ∷ folder 5 2 7 "h" ∷ file 6 5 7 "k" nothing
    ∷ folder 7 1 3 "w" ∷ folder 9 7 0 "y" ∷ file 10 1 7 "o" nothing ∷ file 11 2 7 "i" nothing ∷ [])
    opens
    then end)
    -- rmdir of the root is 16, before 39
    ∷ one "16: rmdir /" (given (root ∷ []) []) (rmdir "/") (is_refused 16)
    ∷ one "16 before 13 and 39: rmdir /" (given (root_of 5 ∷ file 2 1 7 "a" nothing ∷ []) []) (rmdir "/") (is_refused 16)
    -- 20 of a file
    ∷ one "20: rmdir of a file" w (rmdir "/o") (is_refused 20)
    ∷ one "20 before 13: rmdir" w (rmdir "/r/i") (is_refused 20)
    -- 13 (parent bit 2)
    ∷ one "13: rmdir in a folder without bit 2" w (rmdir "/r/g") (is_refused 13)
    ∷ one "13 before 39: rmdir" w (rmdir "/r/h") (is_refused 13)
    ∷ one "2 before 13: rmdir" w (rmdir "/r/none") (is_refused 2)
    -- 39 of a directory with children
    ∷ one "39: rmdir" w (rmdir "/w") (is_refused 39)
    ∷ one "39: one file in it" (lone (file 3 2 7 "a" nothing)) (rmdir "/d") (is_refused 39)
    ∷ one "39: one folder in it" (lone (folder 3 2 7 "a")) (rmdir "/d") (is_refused 39)
    ∷ passes "no 39: a child of another folder" (lone (file 3 2 7 "a" nothing)) (rmdir "/e")
    ∷ row "39 no more after the last remove" (lone (file 3 2 7 "a" nothing))
    (sends_itself (remove "/d/a") then says 0 ⇒ is_done 0 nothing then sends_itself (rmdir "/d") then end)
    ∷ passes "no 39: an empty folder without any bit" w (rmdir "/w/y")
    ∷ row "rmdir is done" w
    (rmdir "/w/y" ⇒ asks (10 ∷ bytes_of "/w/y") then says 0 ⇒ is_done 0 nothing
    then holds
    (root ∷ folder 2 1 5 "r" ∷ file 3 2 7 "f" nothing ∷ folder 4 2 7 "g" ∷ folder 5 2 7 "h" ∷ file 6 5 7 "k" nothing
    ∷ folder 7 1 3 "w" ∷ file 8 7 0 "z" nothing ∷ file 10 1 7 "o" nothing ∷ file 11 2 7 "i" nothing ∷ [])
    opens
    then end)
    -- what is in the other files stays with them, and a removed id may be given again
    ∷ row "remove, and the id again" (given (root ∷ file 2 1 7 "a" nothing ∷ file 3 1 7 "b" (1 ∷ 2 ∷ []) ∷ []) [])
    (sends_itself (remove "/a") then says 0 ⇒ is_done 0 nothing then holds (root ∷ file 3 1 7 "b" (1 ∷ 2 ∷ []) ∷ []) []
    then sends_itself (create 7 "/c") then gives 2 ⇒ is_done 2 nothing
    then holds (root ∷ file 3 1 7 "b" (1 ∷ 2 ∷ []) ∷ file 2 1 7 "c" nothing ∷ []) [] then end)
    ∷ []

pub rows_hold : wrong rows ≡ []
unfolding wrong
rows_hold = refl
