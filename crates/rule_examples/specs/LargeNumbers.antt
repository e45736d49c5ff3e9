-- Numbers over 255 in each field, of tables, calls, requests, replies and images, and numbers alike in their low bytes.
use Rattle.std.specs.Prelude.{◌≡◌, refl, List, [], ◌∷◌, ◌++◌, ℕ, ◌+◌}
use Rattle.lists.specs.Cells.{tab}
use Rattle.filesystem.specs.Tables.{OpenFile}
use Rattle.rules.specs.Skeleton.{save}
use Rattle.rule_examples.specs.Bytes.{many, nothing, digest, padded}
use Rattle.rule_examples.specs.Given.{Item, folder, file, sized, root, opened, Given, given, concatenated}
use Rattle.rule_examples.specs.Events.{create, mkdir, open_for, close, seek, read, write, truncate, remove}
use Rattle.rule_examples.specs.Events.{rmdir, chmod, readdir, stat, replies, says, gives, entry, stat_of, loads}
use Rattle.rule_examples.specs.Rows.{is_done, is_saved, is_refused, is_stopped, asks, begins, ◌⇒◌, holds}
use Rattle.rule_examples.specs.Rows.{◌then◌, end, sends_itself, Row, row, one, passes}
use Rattle.rule_examples.specs.Evaluation.{guard_side, wrong, wrong_on}

-- the ids of `/d` and `/d/a`: as bytes 3, 2, 1, 0 and 4, 3, 2, 1
abbrev d : ℕ
d = 66051

abbrev a : ℕ
a = 16909060

-- `/d/a` of this size, which is open at this place; the bytes of its descriptor are 1, 2, 0, 0
abbrev items : (size : ℕ) → List Item
items n = root ∷ folder d 1 7 "d" ∷ sized a d 7 "a" n ∷ file 9 d 7 "b" nothing ∷ []

abbrev opens : (cursor : ℕ) → List OpenFile
opens c = opened a 513 3 c ∷ []

abbrev w : Given
w = given (items 65536) (opens 40000)

-- `/e` and `/f` have the low byte and the two low bytes of `/d` for ids; `/f` holds `x`
abbrev low : Given
low = given (root ∷ folder d 1 7 "d" ∷ folder 3 1 7 "e" ∷ folder 515 1 7 "f" ∷ file 5 515 7 "x" nothing ∷ []) []

-- the image of a fresh root, `/d` and `/d/a`
abbrev image : List ℕ
image =
    concatenated
    ((3 ∷ 0 ∷ 0 ∷ 0 ∷ [])
    ∷ (1 ∷ 0 ∷ 0 ∷ 0 ∷ 0 ∷ 0 ∷ 0 ∷ 0 ∷ 2 ∷ 7 ∷ 0 ∷ 0 ∷ 0 ∷ 0 ∷ 0 ∷ [])
    ∷ (3 ∷ 2 ∷ 1 ∷ 0 ∷ 1 ∷ 0 ∷ 0 ∷ 0 ∷ 2 ∷ 5 ∷ 0 ∷ 0 ∷ 0 ∷ 0 ∷ 1 ∷ 100 ∷ [])
    ∷ (4 ∷ 3 ∷ 2 ∷ 1 ∷ 3 ∷ 2 ∷ 1 ∷ 0 ∷ 1 ∷ 6 ∷ 0 ∷ 0 ∷ 0 ∷ 0 ∷ 1 ∷ 97 ∷ [])
    ∷ (0 ∷ 0 ∷ 0 ∷ 0 ∷ [])
    ∷ [])

-- the image of a file of 1,025 bytes, with the digests of its two pages
abbrev size_image : List ℕ
size_image =
    concatenated
    ((2 ∷ 0 ∷ 0 ∷ 0 ∷ [])
    ∷ (1 ∷ 0 ∷ 0 ∷ 0 ∷ 0 ∷ 0 ∷ 0 ∷ 0 ∷ 2 ∷ 7 ∷ 0 ∷ 0 ∷ 0 ∷ 0 ∷ 0 ∷ [])
    ∷ (2 ∷ 0 ∷ 0 ∷ 0 ∷ 1 ∷ 0 ∷ 0 ∷ 0 ∷ 1 ∷ 7 ∷ 1 ∷ 4 ∷ 0 ∷ 0 ∷ 1 ∷ 97 ∷ [])
    ∷ (2 ∷ 0 ∷ 0 ∷ 0 ∷ []) ∷ digest (many 1024 9) ∷ digest (padded (9 ∷ []))
    ∷ [])

abbrev pub rows : List Row
rows =
    -- requests: descriptor, page, size
    row "close" w
    (close a ⇒ asks (4 ∷ 1 ∷ 2 ∷ 0 ∷ 0 ∷ []) then says 0 ⇒ is_done 0 nothing then holds (items 65536) [] then end)
    ∷ one "read: a fetch" w (read a 1) (asks (6 ∷ 1 ∷ 2 ∷ 0 ∷ 0 ∷ 39 ∷ 0 ∷ 0 ∷ 0 ∷ []))
    ∷ one "write: a fetch" w (write a (1 ∷ [])) (asks (6 ∷ 1 ∷ 2 ∷ 0 ∷ 0 ∷ 39 ∷ 0 ∷ 0 ∷ 0 ∷ []))
    ∷ row "write: a store" (given (items 64512) (opens 64512))
    (write a (many 1024 7) ⇒ begins (7 ∷ 1 ∷ 2 ∷ 0 ∷ 0 ∷ 63 ∷ 0 ∷ 0 ∷ 0 ∷ 0 ∷ 0 ∷ 1 ∷ 0 ∷ [])
    then says 1024 ⇒ is_done 1024 nothing then holds (items 65536) (opens 65536) then end)
    ∷ one "truncate: a fetch" w (truncate a 65535) (asks (6 ∷ 1 ∷ 2 ∷ 0 ∷ 0 ∷ 63 ∷ 0 ∷ 0 ∷ 0 ∷ []))
    ∷ row "truncate: a cut" w
    (truncate a 64512 ⇒ asks (8 ∷ 1 ∷ 2 ∷ 0 ∷ 0 ∷ 0 ∷ 252 ∷ 0 ∷ 0 ∷ [])
    then says 0 ⇒ is_done 0 nothing then holds (items 64512) (opens 40000) then end)
    ∷ row "truncate: a cut to more" (given (items 64512) (opens 40000))
    (truncate a 65536 ⇒ asks (8 ∷ 1 ∷ 2 ∷ 0 ∷ 0 ∷ 0 ∷ 0 ∷ 1 ∷ 0 ∷ [])
    then says 0 ⇒ is_done 0 nothing then holds (items 65536) (opens 40000) then end)
    -- positions and sizes
    ∷ row "seek to 65,536" w (seek a 65536 ⇒ is_done 65536 nothing then holds (items 65536) (opens 65536) then end)
    ∷ one "22: seek to 65,537" w (seek a 65537) (is_refused 22)
    ∷ one "22: seek to 2^24" w (seek a 16777216) (is_refused 22)
    ∷ one "27: truncate to 65,537" w (truncate a 65537) (is_refused 27)
    ∷ row "truncate to 65,536, the same size" w
    (truncate a 65536 ⇒ is_done 0 nothing then holds (items 65536) (opens 40000) then end)
    -- handles: all four bytes
    ∷ one "9: the low byte of a handle" w (close 4) (is_refused 9)
    ∷ one "9: two bytes of a handle" w (seek 772 0) (is_refused 9)
    ∷ one "9: three bytes of a handle" w (read 131844 1) (is_refused 9)
    ∷ one "9: a handle and 2^31 more" w (write 2164392708 (1 ∷ [])) (is_refused 9)
    ∷ one "the largest handle" (given (root ∷ sized 4294967295 1 7 "a" 5 ∷ []) (opened 4294967295 1023 1 0 ∷ []))
    (close 4294967295) (asks (4 ∷ 255 ∷ 3 ∷ 0 ∷ 0 ∷ []))
    -- ids: given out, found, taken
    ∷ row "create" w
    (sends_itself (create 7 "/d/n") then replies (5 ∷ 6 ∷ 7 ∷ 8 ∷ []) ⇒ is_done 134678021 nothing
    then holds (items 65536 ++ (file 134678021 d 7 "n" nothing ∷ [])) (opens 40000) then end)
    ∷ row "mkdir" w
    (sends_itself (mkdir 7 "/d/n") then replies (5 ∷ 6 ∷ 7 ∷ 200 ∷ []) ⇒ is_done 3355903493 nothing
    then holds (items 65536 ++ (folder 3355903493 d 7 "n" ∷ [])) (opens 40000) then end)
    ∷ row "stop 3: an id that a node has" w (sends_itself (create 7 "/n") then gives d ⇒ is_stopped 3 then end)
    ∷ row "the low byte of another's id" w (sends_itself (create 7 "/n") then gives 3 ⇒ is_done 3 nothing then end)
    ∷ row "the low bytes of another's id" w (sends_itself (mkdir 7 "/n") then gives 515 ⇒ is_done 515 nothing then end)
    ∷ row "open" (given (items 65536) [])
    (sends_itself (open_for 3 "/d/a") then gives 513 ⇒ is_done a nothing then holds (items 65536) (opens 0) then end)
    ∷ row "stop 4: a descriptor that an open file has" w
    (sends_itself (open_for 1 "/d/b") then gives 513 ⇒ is_stopped 4 then end)
    ∷ row "the low byte of another's descriptor" w
    (sends_itself (open_for 1 "/d/b") then gives 1 ⇒ is_done 9 nothing
    then holds (items 65536) (opens 40000 ++ (opened 9 1 1 0 ∷ [])) then end)
    ∷ one "16: open" w (open_for 1 "/d/a") (is_refused 16)
    ∷ one "16: remove" w (remove "/d/a") (is_refused 16)
    ∷ row "remove" w
    (sends_itself (remove "/d/b") then says 0 ⇒ is_done 0 nothing
    then holds (root ∷ folder d 1 7 "d" ∷ sized a d 7 "a" 65536 ∷ []) (opens 40000) then end)
    ∷ row "chmod" w
    (sends_itself (chmod 5 "/d") then says 0 ⇒ is_done 0 nothing
    then holds (root ∷ folder d 1 5 "d" ∷ sized a d 7 "a" 65536 ∷ file 9 d 7 "b" nothing ∷ []) (opens 40000) then end)
    -- listings and stats
    ∷ row "readdir" w
    (sends_itself (readdir "/d") then replies (4 ∷ 3 ∷ 2 ∷ 1 ∷ 1 ∷ 1 ∷ 97 ∷ 9 ∷ 0 ∷ 0 ∷ 0 ∷ 1 ∷ 1 ∷ 98 ∷ [])
    ⇒ is_done 2 (4 ∷ 3 ∷ 2 ∷ 1 ∷ 1 ∷ 1 ∷ 97 ∷ 9 ∷ 0 ∷ 0 ∷ 0 ∷ 1 ∷ 1 ∷ 98 ∷ []) then end)
    ∷ row "stop 7: the low byte of an id" w
    (sends_itself (readdir "/d") then replies (entry 4 1 "a" ++ entry 9 1 "b") ⇒ is_stopped 7 then end)
    ∷ row "stop 7: an id of one byte more" w
    (sends_itself (readdir "/d") then replies (entry a 1 "a" ++ entry 265 1 "b") ⇒ is_stopped 7 then end)
    ∷ row "stat" w
    (sends_itself (stat "/d/a") then replies (4 ∷ 3 ∷ 2 ∷ 1 ∷ 1 ∷ 7 ∷ 0 ∷ 0 ∷ 1 ∷ 0 ∷ [])
    ⇒ is_done 65536 (4 ∷ 3 ∷ 2 ∷ 1 ∷ 1 ∷ 7 ∷ 0 ∷ 0 ∷ 1 ∷ 0 ∷ []) then end)
    ∷ row "stop 6: the low bytes of an id" w
    (sends_itself (stat "/d/a") then replies (stat_of 131844 1 7 65536) ⇒ is_stopped 6 then end)
    ∷ row "stop 6: the low bytes of a size" w
    (sends_itself (stat "/d/a") then replies (stat_of a 1 7 0) ⇒ is_stopped 6 then end)
    -- parents: a child is its own parent's
    ∷ one "2: a child of the low bytes of an id" low (stat "/d/x") (is_refused 2)
    ∷ passes "no 2: of the whole id" low (stat "/f/x")
    ∷ passes "no 17: in another folder" low (create 7 "/d/x")
    ∷ passes "no 39: no child of this id" low (rmdir "/d")
    ∷ passes "no 39: no child of the low byte" low (rmdir "/e")
    ∷ one "39: a child of this id" low (rmdir "/f") (is_refused 39)
    ∷ row "readdir: no child of this id" low
    (sends_itself (readdir "/e") then replies nothing ⇒ is_done 0 nothing then end)
    -- an image: the bytes of each field
    ∷ row "save" (given (root ∷ folder d 1 5 "d" ∷ file a d 6 "a" nothing ∷ []) [])
    (save 44776 ⇒ is_saved image then loads image ⇒ is_done 0 nothing
    then holds (root ∷ folder d 1 5 "d" ∷ file a d 6 "a" nothing ∷ []) [] then end)
    -- a count of 256 nodes, and a length over 255
    ∷ one "save of 256 nodes" (given (root ∷ tab 255 (λ i. file (i + 2) 1 7 "f" nothing)) []) (save 44776)
    (is_saved
    (concatenated
    ((0 ∷ 1 ∷ 0 ∷ 0 ∷ 1 ∷ 0 ∷ 0 ∷ 0 ∷ 0 ∷ 0 ∷ 0 ∷ 0 ∷ 2 ∷ 7 ∷ 0 ∷ 0 ∷ 0 ∷ 0 ∷ 0 ∷ [])
    ∷ tab 254 (λ i. (i + 2) ∷ 0 ∷ 0 ∷ 0 ∷ 1 ∷ 0 ∷ 0 ∷ 0 ∷ 1 ∷ 7 ∷ 0 ∷ 0 ∷ 0 ∷ 0 ∷ 1 ∷ 102 ∷ [])
    ++ ((0 ∷ 1 ∷ 0 ∷ 0 ∷ 1 ∷ 0 ∷ 0 ∷ 0 ∷ 1 ∷ 7 ∷ 0 ∷ 0 ∷ 0 ∷ 0 ∷ 1 ∷ 102 ∷ 0 ∷ 0 ∷ 0 ∷ 0 ∷ []) ∷ []))))
    ∷ []

-- on the guard alone, since on the tree whole pages take many seconds: a size over 255 in an image
abbrev pub guard_rows : List Row
guard_rows =
    row "save and load of a size" (given (root ∷ file 2 1 7 "a" (many 1025 9) ∷ []) [])
    (save 44776 ⇒ is_saved size_image then loads size_image ⇒ is_done 0 nothing
    then holds (root ∷ file 2 1 7 "a" (many 1025 9) ∷ []) [] then end)
    ∷ []

pub rows_hold : wrong rows ≡ []
unfolding wrong
rows_hold = refl

pub guard_rows_hold : wrong_on guard_side guard_rows ≡ []
unfolding wrong_on
guard_rows_hold = refl
