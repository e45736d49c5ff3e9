-- Replies where no page goes with them: right ones (SPECIFICATION 5.5) and stop reasons (5.10). Pages: `Reads`, `Writes`, `Truncations`.
use Rattle.std.specs.Prelude.{◌≡◌, refl, List, [], ◌∷◌, ◌++◌, ℕ}
use Prim.Native.String.{String}
use Rattle.filesystem.specs.Tables.{OpenFile}
use Rattle.rules.specs.Skeleton.{Event}
use Rattle.rule_examples.specs.Bytes.{bytes_of, four, eight, many, nothing}
use Rattle.rule_examples.specs.Given.{Item, folder, file, root, opened, Given, given}
use Rattle.rule_examples.specs.Events.{replies, create, mkdir, open_for, close, remove, rmdir, chmod, readdir, stat, says, says_minus, gives, entry, stat_of}
use Rattle.rule_examples.specs.Rows.{Expect, is_done, is_stopped, closes, ◌⇒◌, holds, ◌then◌, end, sends_itself, Row, row}
use Rattle.rule_examples.specs.Evaluation.{wrong}

-- `/d` holds `a` and `b`; `/o` is open
abbrev items : List Item
items = root ∷ folder 2 1 7 "d" ∷ file 3 2 7 "a" nothing ∷ folder 4 2 7 "b" ∷ file 5 1 6 "o" (1 ∷ 2 ∷ []) ∷ file 6 1 7 "c" nothing ∷ []

abbrev opens : List OpenFile
opens = opened 5 8 1 0 ∷ []

abbrev w : Given
w = given items opens

-- a call that sends itself, the reply, what it comes to
abbrev answered : String → Event → Event → Expect → Row
answered t e r x = row t w (sends_itself e then r ⇒ x then end)

-- `/d` holds three
abbrev three : Given
three = given (root ∷ folder 2 1 7 "d" ∷ file 3 2 7 "a" nothing ∷ folder 4 2 7 "b" ∷ file 5 2 7 "c" nothing ∷ []) []

abbrev entry_a : List ℕ
entry_a = entry 3 1 "a"

abbrev entry_b : List ℕ
entry_b = entry 4 2 "b"

-- a listing of `/d`
abbrev listed : String → List ℕ → Expect → Row
listed t b x = answered t (readdir "/d") (replies b) x

-- a stat of `/o`
abbrev stated : String → List ℕ → Expect → Row
stated t b x = answered t (stat "/o") (replies b) x

abbrev entry_c : List ℕ
entry_c = entry 5 1 "c"

abbrev pub rows : List Row
rows =
    -- create, mkdir: an id, not 0, that no node has
    answered "stop 1: an id of 3 bytes" (create 7 "/n") (replies (9 ∷ 0 ∷ 0 ∷ [])) (is_stopped 1)
    ∷ answered "stop 1: an id of 5 bytes" (create 7 "/n") (replies (four 9 ++ (0 ∷ []))) (is_stopped 1)
    ∷ answered "stop 1 before 3: no byte" (mkdir 7 "/n") (replies nothing) (is_stopped 1)
    ∷ answered "stop 1 before 3: 0 in 3 bytes" (mkdir 7 "/n") (replies (0 ∷ 0 ∷ 0 ∷ [])) (is_stopped 1)
    ∷ answered "stop 3: id 0" (create 7 "/n") (gives 0) (is_stopped 3)
    ∷ answered "stop 3: the root's id" (create 7 "/n") (gives 1) (is_stopped 3)
    ∷ answered "stop 3: the last node's id" (mkdir 7 "/n") (gives 6) (is_stopped 3)
    ∷ answered "an id that no node has" (create 7 "/n") (gives 7) (is_done 7 nothing)
    ∷ answered "the largest id" (mkdir 7 "/n") (gives 4294967295) (is_done 4294967295 nothing)
    -- open: a descriptor 0 to 1,023 that no open file has; it is signed
    ∷ answered "stop 1: a descriptor of 3 bytes" (open_for 1 "/c") (replies (1 ∷ 0 ∷ 0 ∷ [])) (is_stopped 1)
    ∷ answered "stop 1 before 4: a descriptor of 5 bytes" (open_for 1 "/c") (replies (four 1024 ++ (0 ∷ []))) (is_stopped 1)
    ∷ answered "stop 4: descriptor 1,024" (open_for 1 "/c") (gives 1024) (is_stopped 4)
    ∷ answered "descriptor 1,023" (open_for 1 "/c") (gives 1023) (is_done 6 nothing)
    ∷ answered "descriptor 0" (open_for 1 "/c") (gives 0) (is_done 6 nothing)
    ∷ answered "stop 4: descriptor -1" (open_for 1 "/c") (says_minus 1) (is_stopped 4)
    ∷ answered "stop 4: descriptor -2^31" (open_for 1 "/c") (gives 2147483648) (is_stopped 4)
    ∷ answered "stop 4: descriptor 1 - 2^31" (open_for 1 "/c") (gives 2147483649) (is_stopped 4)
    ∷ answered "stop 4: descriptor 65,537" (open_for 1 "/c") (gives 65537) (is_stopped 4)
    ∷ answered "stop 4: another file's descriptor" (open_for 1 "/c") (gives 8) (is_stopped 4)
    ∷ answered "a descriptor beside another file's" (open_for 1 "/c") (gives 9) (is_done 6 nothing)
    ∷ row "stop 4 leaves the open files" w
    (sends_itself (open_for 1 "/c") then gives 8 ⇒ is_stopped 4 then holds items opens then end)
    -- close, cut, remove, rmdir, chmod: the status 0, signed (SPECIFICATION 5.4)
    ∷ row "stop 2: close answered 1" w (close 5 ⇒ closes 8 then says 1 ⇒ is_stopped 2 then holds items opens then end)
    ∷ row "stop 2: close answered -1" w (close 5 ⇒ closes 8 then says_minus 1 ⇒ is_stopped 2 then end)
    ∷ row "stop 2: close answered 256" w (close 5 ⇒ closes 8 then says 256 ⇒ is_stopped 2 then end)
    ∷ row "stop 2: close answered -2^31" w (close 5 ⇒ closes 8 then says 2147483648 ⇒ is_stopped 2 then end)
    ∷ row "stop 1: close answered by 3 bytes" w (close 5 ⇒ closes 8 then replies (0 ∷ 0 ∷ 0 ∷ []) ⇒ is_stopped 1 then end)
    ∷ row "stop 1 before 2: close answered by 8 bytes" w (close 5 ⇒ closes 8 then replies (eight 1) ⇒ is_stopped 1 then end)
    ∷ answered "stop 2: remove answered 1" (remove "/c") (says 1) (is_stopped 2)
    ∷ answered "stop 2: remove answered -2" (remove "/c") (says_minus 2) (is_stopped 2)
    ∷ answered "stop 2: remove answered 65,536" (remove "/c") (says 65536) (is_stopped 2)
    ∷ answered "stop 2: remove answered -2^31" (remove "/c") (says 2147483648) (is_stopped 2)
    ∷ row "stop 2 leaves the nodes" w
    (sends_itself (remove "/c") then says 1 ⇒ is_stopped 2 then holds items opens then end)
    ∷ answered "stop 1: remove answered by no byte" (remove "/c") (replies nothing) (is_stopped 1)
    ∷ answered "remove answered 0" (remove "/c") (says 0) (is_done 0 nothing)
    ∷ answered "stop 2: rmdir answered 1,024" (rmdir "/d/b") (says 1024) (is_stopped 2)
    ∷ answered "stop 2: rmdir answered -1" (rmdir "/d/b") (says_minus 1) (is_stopped 2)
    ∷ answered "stop 2: rmdir answered -39" (rmdir "/d/b") (says_minus 39) (is_stopped 2)
    ∷ answered "stop 1: rmdir answered by 5 bytes" (rmdir "/d/b") (replies (four 0 ++ (0 ∷ []))) (is_stopped 1)
    ∷ answered "rmdir answered 0" (rmdir "/d/b") (says 0) (is_done 0 nothing)
    ∷ answered "stop 2: chmod answered -1" (chmod 0 "/d") (says_minus 1) (is_stopped 2)
    ∷ answered "stop 2: chmod answered 1" (chmod 0 "/d") (says 1) (is_stopped 2)
    ∷ answered "stop 2: chmod answered 2^24" (chmod 0 "/d") (says 16777216) (is_stopped 2)
    ∷ row "stop 2 leaves the mode" w
    (sends_itself (chmod 0 "/d") then says_minus 1 ⇒ is_stopped 2 then holds items opens then end)
    ∷ answered "stop 1: chmod answered by 1 byte" (chmod 0 "/d") (replies (0 ∷ [])) (is_stopped 1)
    ∷ answered "chmod answered 0" (chmod 0 "/d") (says 0) (is_done 0 nothing)
    -- readdir: one entry for each child, in any order; whatever is wrong is 7 (SPECIFICATION 5.11)
    ∷ listed "a listing" (entry_a ++ entry_b) (is_done 2 (entry_a ++ entry_b))
    ∷ listed "a listing the other way round" (entry_b ++ entry_a) (is_done 2 (entry_b ++ entry_a))
    ∷ listed "stop 7: one child twice" (entry_a ++ entry_a) (is_stopped 7)
    ∷ listed "stop 7: one child missing" entry_a (is_stopped 7)
    ∷ listed "stop 7: no byte for two children" nothing (is_stopped 7)
    ∷ listed "stop 7: one child too many" (entry_a ++ (entry_b ++ entry 5 1 "o")) (is_stopped 7)
    ∷ listed "stop 7: another id" (entry_a ++ entry 5 2 "b") (is_stopped 7)
    ∷ listed "stop 7: another kind" (entry_a ++ entry 4 1 "b") (is_stopped 7)
    ∷ listed "stop 7: a longer name" (entry_a ++ entry 4 2 "bb") (is_stopped 7)
    ∷ listed "stop 7: the beginning of a name" (entry_a ++ entry 4 2 "") (is_stopped 7)
    ∷ listed "stop 7: two names exchanged" (entry 3 1 "b" ++ entry 4 2 "a") (is_stopped 7)
    ∷ listed "stop 7: two ids exchanged" (entry 4 1 "a" ++ entry 3 2 "b") (is_stopped 7)
    ∷ listed "stop 7: 9,691 bytes" (many 9691 0) (is_stopped 7)
    ∷ row "a listing of three" three
    (sends_itself (readdir "/d")
    then replies (entry_c ++ (entry_a ++ entry_b)) ⇒ is_done 3 (entry_c ++ (entry_a ++ entry_b)) then end)
    ∷ row "stop 7: one of three twice" three
    (sends_itself (readdir "/d") then replies (entry_a ++ (entry_b ++ entry_b)) ⇒ is_stopped 7 then end)
    ∷ listed "stop 7: another name" (entry_a ++ entry 4 2 "c") (is_stopped 7)
    ∷ listed "stop 7: an entry cut short" (entry_a ++ (four 4 ++ (2 ∷ 1 ∷ []))) (is_stopped 7)
    ∷ listed "stop 7: a name past the end" (entry_a ++ (four 4 ++ (2 ∷ 9 ∷ bytes_of "b"))) (is_stopped 7)
    ∷ listed "stop 7: a byte behind" (entry_a ++ (entry_b ++ (0 ∷ []))) (is_stopped 7)
    ∷ answered "stop 7: an entry of an empty folder" (readdir "/d/b") (replies entry_a) (is_stopped 7)
    ∷ answered "a listing of an empty folder" (readdir "/d/b") (replies nothing) (is_done 0 nothing)
    -- stat: id (4), kind (1), mode (1), size (4)
    ∷ stated "a stat" (stat_of 5 1 6 2) (is_done 2 (stat_of 5 1 6 2))
    ∷ stated "stop 1: a stat of no byte" nothing (is_stopped 1)
    ∷ stated "stop 1: a stat of 9 bytes" (four 5 ++ (1 ∷ 6 ∷ 2 ∷ 0 ∷ 0 ∷ [])) (is_stopped 1)
    ∷ stated "stop 1 before 6: a stat of 11 bytes" (stat_of 5 1 6 3 ++ (0 ∷ [])) (is_stopped 1)
    ∷ stated "stop 6: another id" (stat_of 6 1 6 2) (is_stopped 6)
    ∷ stated "stop 6: another kind" (stat_of 5 2 6 2) (is_stopped 6)
    ∷ stated "stop 6: another mode" (stat_of 5 1 7 2) (is_stopped 6)
    ∷ stated "stop 6: another size" (stat_of 5 1 6 3) (is_stopped 6)
    ∷ []

pub rows_hold : wrong rows ≡ []
unfolding wrong
rows_hold = refl
