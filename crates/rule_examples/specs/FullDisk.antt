-- A full disk: status -28, where it may be said, at other widths, and elsewhere (SPECIFICATION 5.5, 5.10, 6.1).
use Rattle.std.specs.Prelude.{◌≡◌, refl, List, [], ◌∷◌, ◌++◌, ℕ}
use Rattle.rules.specs.Skeleton.{save}
use Rattle.rule_examples.specs.Bytes.{many, nothing}
use Rattle.rule_examples.specs.Given.{Item, file, sized, sparse, folder, root, opened, Given, given, map_at, mapped, image_of}
use Rattle.rule_examples.specs.Events.{replies, lent, create, mkdir, open_for, close, seek, read, write, truncate, remove, rmdir, chmod, readdir, stat, map_of, unmap, says, says_minus, gives, gives_page, entry, stat_of}
use Rattle.rule_examples.specs.Rows.{is_done, is_saved, is_refused, is_stopped, closes, fetches, stores, cuts_to, ◌⇒◌, holds, lives, Line, ◌then◌, end, sends_itself, Row, row}
use Rattle.rule_examples.specs.Evaluation.{wrong}

abbrev three : Item
three = file 2 1 7 "a" (1 ∷ 2 ∷ 3 ∷ [])

abbrev empty : Item
empty = file 2 1 7 "a" nothing

-- it is open for both, with descriptor 5 and this cursor
abbrev writer : Item → (cursor : ℕ) → Given
writer i c = given (root ∷ i ∷ []) (opened 2 5 3 c ∷ [])

abbrev left : Item → (cursor : ℕ) → Line
left i c = holds (root ∷ i ∷ []) (opened 2 5 3 c ∷ [])

abbrev bare : Given
bare = given (root ∷ []) []

abbrev one-file : Given
one-file = given (root ∷ three ∷ []) []

-- a node that has the id of these bytes, by a load
abbrev loaded : List Item
loaded = root ∷ file 4294967268 1 7 "a" nothing ∷ []

-- 1,026 bytes, of which the first is 5; the page in which the last byte is 7
abbrev two_pages_lem : Item
two_pages_lem = sparse 2 1 7 "a" 1026 (5 ∷ [])

abbrev last-seven : List ℕ
last-seven = 5 ∷ (many 1022 0 ++ (7 ∷ []))

-- -28 by 1, 2, 3, 5 and 8 bytes
abbrev minus : (ones : ℕ) → List ℕ
minus n = 228 ∷ many n 255

abbrev pub rows : List Row
rows =
    row "28: a create, and the next call" bare
    (sends_itself (create 7 "/a") then says_minus 28 ⇒ is_refused 28 then holds (root ∷ []) [] then says 0 ⇒ is_refused 61
    then sends_itself (create 7 "/a") then gives 2 ⇒ is_done 2 nothing then holds (root ∷ empty ∷ []) [] then end)
    ∷ row "28: a mkdir, and the next call" bare
    (sends_itself (mkdir 7 "/a") then says_minus 28 ⇒ is_refused 28 then holds (root ∷ []) [] then says 0 ⇒ is_refused 61
    then sends_itself (mkdir 7 "/a") then gives 2 ⇒ is_done 2 nothing then holds (root ∷ folder 2 1 7 "a" ∷ []) [] then end)
    ∷ row "28: a create, a node has that id" (given loaded [])
    (sends_itself (create 7 "/b") then says_minus 28 ⇒ is_refused 28 then holds loaded [] then end)
    ∷ row "a node that has that id is opened and closed" (given loaded [])
    (sends_itself (open_for 1 "/a") then gives 5 ⇒ is_done 4294967268 nothing then holds loaded (opened 4294967268 5 1 0 ∷ [])
    then close 4294967268 ⇒ closes 5 then says 0 ⇒ is_done 0 nothing then end)
    ∷ row "a node that has that id is listed, looked at and saved" (given loaded [])
    (sends_itself (readdir "/") then replies (entry 4294967268 1 "a") ⇒ is_done 1 (entry 4294967268 1 "a") then sends_itself (stat "/a")
    then replies (stat_of 4294967268 1 7 0) ⇒ is_done 0 (stat_of 4294967268 1 7 0) then save 44776 ⇒ is_saved (image_of loaded) then end)
    ∷ row "stop 1: a create answered -28 by 1 byte" bare (sends_itself (create 7 "/a") then replies (minus 0) ⇒ is_stopped 1 then end)
    ∷ row "stop 1: a create answered -28 by 2 bytes" bare (sends_itself (create 7 "/a") then replies (minus 1) ⇒ is_stopped 1 then end)
    ∷ row "stop 1: a create answered -28 by 3 bytes" bare (sends_itself (create 7 "/a") then replies (minus 2) ⇒ is_stopped 1 then end)
    ∷ row "stop 1: a create answered -28 by 5 bytes" bare (sends_itself (create 7 "/a") then replies (minus 4) ⇒ is_stopped 1 then end)
    ∷ row "stop 1: a mkdir answered -28 by 8 bytes" bare (sends_itself (mkdir 7 "/a") then replies (minus 7) ⇒ is_stopped 1 then end)
    ∷ row "stop 1: a create answered -28 and a byte of 0" bare
    (sends_itself (create 7 "/a") then replies (minus 3 ++ (0 ∷ [])) ⇒ is_stopped 1 then end)
    ∷ row "a create answered -27" bare (sends_itself (create 7 "/a") then says_minus 27 ⇒ is_done 4294967269 nothing then end)
    ∷ row "a create answered -29" bare (sends_itself (create 7 "/a") then says_minus 29 ⇒ is_done 4294967267 nothing then end)
    ∷ row "a create answered 28" bare (sends_itself (create 7 "/a") then gives 28 ⇒ is_done 28 nothing then end)
    ∷ row "34 before a full disk" bare
    (sends_itself (create 7 "/a") then lent 9689 1037 (says_minus 28) ⇒ is_refused 34 then lent 9690 1036 (says_minus 28) ⇒ is_refused 34
    then says_minus 28 ⇒ is_refused 28 then end)
    ∷ row "61: nothing is asked" bare (says_minus 28 ⇒ is_refused 61 then end)
    -- a write: the bytes of the finished pages
    ∷ row "28: the first store, and the same write again" (writer empty 0)
    (write 2 (many 1025 9) ⇒ stores 5 0 1024 then says_minus 28 ⇒ is_refused 28 then left empty 0 then says 1024 ⇒ is_refused 61
    then write 2 (9 ∷ []) ⇒ stores 5 0 1 then says 1024 ⇒ is_done 1 nothing then left (file 2 1 7 "a" (9 ∷ [])) 1 then end)
    ∷ row "28: the first store, after a fetch" (writer three 1)
    (write 2 (9 ∷ []) ⇒ fetches 5 0 then gives_page (1 ∷ 2 ∷ 3 ∷ []) ⇒ stores 5 0 3 then says_minus 28 ⇒ is_refused 28 then left three 1 then end)
    ∷ row "28: the first store, of a later page" (writer (sized 2 1 7 "a" 2048) 1024)
    (write 2 (many 1025 9) ⇒ stores 5 1 2048 then says_minus 28 ⇒ is_refused 28 then left (sized 2 1 7 "a" 2048) 1024 then end)
    ∷ row "the second store: the first page is done" (writer empty 0)
    (write 2 (many 1025 9) ⇒ stores 5 0 1024 then says 1024 ⇒ stores 5 1 1025 then says_minus 28 ⇒ is_done 1024 nothing
    then left (sized 2 1 7 "a" 1024) 1024 then says 1024 ⇒ is_refused 61 then read 2 1 ⇒ is_done 0 nothing then end)
    ∷ row "the last store: two pages are done" (writer (sized 2 1 7 "a" 1024) 1024)
    (write 2 (many 2049 9) ⇒ stores 5 1 2048 then says 1024 ⇒ stores 5 2 3072 then says 1024 ⇒ stores 5 3 3073
    then says_minus 28 ⇒ is_done 2048 nothing then left (sized 2 1 7 "a" 3072) 3072 then end)
    ∷ row "the second store: a part of the first page is done, and what stayed is read" (writer two_pages_lem 1023)
    (write 2 (7 ∷ 8 ∷ 9 ∷ []) ⇒ fetches 5 0 then gives_page (5 ∷ []) ⇒ stores 5 0 1026 then says 1024 ⇒ stores 5 1 1026
    then says_minus 28 ⇒ is_done 1 nothing then left (sized 2 1 7 "a" 1026) 1024
    then seek 2 1023 ⇒ is_done 1023 nothing then read 2 2 ⇒ fetches 5 0 then replies last-seven ⇒ fetches 5 1
    then gives_page nothing ⇒ is_done 2 (7 ∷ 0 ∷ []) then end)
    ∷ row "the second store, after a fetch: a page only fetched is not done" (writer (sparse 2 1 7 "a" 3072 nothing) 2047)
    (write 2 (7 ∷ 8 ∷ []) ⇒ fetches 5 1 then gives_page nothing ⇒ stores 5 1 3072 then says 1024 ⇒ fetches 5 2 then gives_page nothing ⇒ stores 5 2 3072
    then says_minus 28 ⇒ is_done 1 nothing then left (sparse 2 1 7 "a" 3072 (many 2047 0 ++ (7 ∷ []))) 2048 then end)
    ∷ row "stop 1: a store answered -28 by 3 bytes" (writer empty 0) (write 2 (9 ∷ []) ⇒ stores 5 0 1 then replies (minus 2) ⇒ is_stopped 1 then end)
    ∷ row "stop 1: a store answered -28 by 8 bytes" (writer empty 0) (write 2 (9 ∷ []) ⇒ stores 5 0 1 then replies (minus 7) ⇒ is_stopped 1 then end)
    ∷ row "stop 2: a store answered -27" (writer empty 0) (write 2 (9 ∷ []) ⇒ stores 5 0 1 then says_minus 27 ⇒ is_stopped 2 then end)
    ∷ row "stop 2: a store answered 28" (writer empty 0) (write 2 (9 ∷ []) ⇒ stores 5 0 1 then says 28 ⇒ is_stopped 2 then end)
    -- a growth
    ∷ row "28: a growing cut, and the next call" (writer three 1)
    (truncate 2 3000 ⇒ cuts_to 5 3000 then says_minus 28 ⇒ is_refused 28 then left three 1 then says 0 ⇒ is_refused 61
    then truncate 2 4 ⇒ cuts_to 5 4 then says 0 ⇒ is_done 0 nothing then left (file 2 1 7 "a" (1 ∷ 2 ∷ 3 ∷ 0 ∷ [])) 1 then end)
    ∷ row "28: a growing cut inside the last page" (writer three 1) (truncate 2 4 ⇒ cuts_to 5 4 then says_minus 28 ⇒ is_refused 28 then left three 1 then end)
    ∷ row "stop 1: a growing cut answered -28 by 1 byte" (writer three 1) (truncate 2 4 ⇒ cuts_to 5 4 then replies (minus 0) ⇒ is_stopped 1 then end)
    ∷ row "stop 1: a growing cut answered -28 by 2 bytes" (writer three 1) (truncate 2 4 ⇒ cuts_to 5 4 then replies (minus 1) ⇒ is_stopped 1 then end)
    ∷ row "stop 1: a growing cut answered -28 by 3 bytes" (writer three 1) (truncate 2 4 ⇒ cuts_to 5 4 then replies (minus 2) ⇒ is_stopped 1 then end)
    ∷ row "stop 1: a growing cut answered -28 by 5 bytes" (writer three 1) (truncate 2 4 ⇒ cuts_to 5 4 then replies (minus 4) ⇒ is_stopped 1 then end)
    ∷ row "stop 1: a growing cut answered -28 by 8 bytes" (writer three 1) (truncate 2 4 ⇒ cuts_to 5 4 then replies (minus 7) ⇒ is_stopped 1 then end)
    ∷ row "stop 2: a growing cut answered -29" (writer three 1) (truncate 2 4 ⇒ cuts_to 5 4 then says_minus 29 ⇒ is_stopped 2 then end)
    ∷ row "stop 2: a growing cut answered -27" (writer three 1) (truncate 2 4 ⇒ cuts_to 5 4 then says_minus 27 ⇒ is_stopped 2 then end)
    -- elsewhere it stops
    ∷ row "stop 2: a shrinking cut answered -28" (writer three 1) (truncate 2 0 ⇒ cuts_to 5 0 then says_minus 28 ⇒ is_stopped 2 then end)
    ∷ row "stop 2: a shrinking store answered -28" (writer three 1)
    (truncate 2 1 ⇒ fetches 5 0 then gives_page (1 ∷ 2 ∷ 3 ∷ []) ⇒ stores 5 0 3 then says_minus 28 ⇒ is_stopped 2 then end)
    ∷ row "stop 2: the cut behind a shrinking store answered -28" (writer three 1)
    (truncate 2 1 ⇒ fetches 5 0 then gives_page (1 ∷ 2 ∷ 3 ∷ []) ⇒ stores 5 0 3 then says 1024 ⇒ cuts_to 5 1 then says_minus 28 ⇒ is_stopped 2 then end)
    ∷ row "stop 1: a fetch answered -28" (writer three 1) (read 2 1 ⇒ fetches 5 0 then says_minus 28 ⇒ is_stopped 1 then end)
    ∷ row "stop 1: a write's fetch answered -28" (writer three 1) (write 2 (9 ∷ []) ⇒ fetches 5 0 then says_minus 28 ⇒ is_stopped 1 then end)
    ∷ row "stop 1: a truncation's fetch answered -28" (writer three 1) (truncate 2 1 ⇒ fetches 5 0 then says_minus 28 ⇒ is_stopped 1 then end)
    ∷ row "stop 2: a close answered -28" (writer three 1) (close 2 ⇒ closes 5 then says_minus 28 ⇒ is_stopped 2 then end)
    ∷ row "stop 4: an open answered -28" one-file (sends_itself (open_for 1 "/a") then says_minus 28 ⇒ is_stopped 4 then end)
    ∷ row "stop 2: a remove answered -28" one-file (sends_itself (remove "/a") then says_minus 28 ⇒ is_stopped 2 then end)
    ∷ row "stop 2: an rmdir answered -28" (given (root ∷ folder 2 1 7 "d" ∷ []) []) (sends_itself (rmdir "/d") then says_minus 28 ⇒ is_stopped 2 then end)
    ∷ row "stop 2: a chmod answered -28" one-file (sends_itself (chmod 1 "/a") then says_minus 28 ⇒ is_stopped 2 then end)
    ∷ row "stop 7: a listing answered -28" one-file (sends_itself (readdir "/") then says_minus 28 ⇒ is_stopped 7 then end)
    ∷ row "stop 1: a stat answered -28" one-file (sends_itself (stat "/a") then says_minus 28 ⇒ is_stopped 1 then end)
    ∷ row "stop 1: a map answered -28" (mapped []) (sends_itself (map_of 4096) then says_minus 28 ⇒ is_stopped 1 then lives [] then end)
    ∷ row "stop 2: an unmap answered -28" (mapped (map_at 4096 4096 ∷ []))
    (sends_itself (unmap 4096) then says_minus 28 ⇒ is_stopped 2 then lives (map_at 4096 4096 ∷ []) then end)
    ∷ []

pub rows_hold : wrong rows ≡ []
unfolding wrong
rows_hold = refl
