-- Writes: the pages that are fetched and stored, the size sent, what is left.
use Rattle.std.specs.Prelude.{◌≡◌, refl, List, [], ◌∷◌, ◌++◌, ℕ}
use Rattle.rule_examples.specs.Bytes.{four, many, nothing}
use Rattle.rule_examples.specs.Given.{Item, file, sized, sparse, root, opened, Given, given}
use Rattle.rule_examples.specs.Events.{replies, write, says, says_minus, gives_page}
use Rattle.rule_examples.specs.Rows.{stores_front}
use Rattle.rule_examples.specs.Rows.{is_done, is_stopped, fetches, stores, ◌⇒◌, holds, Line, ◌then◌, end, Row, row, one}
use Rattle.rule_examples.specs.Evaluation.{guard_side, wrong, wrong_on}

-- files of no byte, of 3, of a page, of a page and two bytes
abbrev empty : Item
empty = file 2 1 7 "a" nothing

abbrev three : Item
three = file 2 1 7 "a" (1 ∷ 2 ∷ 3 ∷ [])

abbrev one_page : Item
one_page = sparse 2 1 7 "a" 1024 (4 ∷ [])

abbrev page_and_two : Item
page_and_two = sparse 2 1 7 "a" 1026 (5 ∷ [])

-- it is open for writing, with descriptor 5 and this cursor
abbrev writer : Item → (cursor : ℕ) → Given
writer i c = given (root ∷ i ∷ []) (opened 2 5 2 c ∷ [])

-- what is left: the file, or its size, and the cursor
abbrev left : Item → (cursor : ℕ) → Line
left i c = holds (root ∷ i ∷ []) (opened 2 5 2 c ∷ [])

abbrev left_size : (size cursor : ℕ) → Line
left_size s c = left (sized 2 1 7 "a" s) c

abbrev pub rows : List Row
rows =
    -- which pages are fetched (SPECIFICATION 5.6); done with the count; the cursor moves
    row "a write inside a page" (writer three 1)
    (write 2 (9 ∷ []) ⇒ fetches 5 0 then gives_page (1 ∷ 2 ∷ 3 ∷ []) ⇒ stores 5 0 3 then left three 1
    then says 1024 ⇒ is_done 1 nothing then left (file 2 1 7 "a" (1 ∷ 9 ∷ 3 ∷ [])) 2 then end)
    ∷ one "a write that leaves the last byte" (writer three 0) (write 2 (7 ∷ 8 ∷ [])) (fetches 5 0)
    ∷ one "a write that leaves the first byte" (writer three 1) (write 2 (7 ∷ 8 ∷ 9 ∷ 10 ∷ [])) (fetches 5 0)
    -- over everything below the end: nothing is fetched
    ∷ row "a write over the whole file" (writer three 0) (write 2 (7 ∷ 8 ∷ 9 ∷ []) ⇒ stores 5 0 3 then says 1024 ⇒ is_done 3 nothing then left_size 3 3 then end)
    ∷ one "a write over the whole file and past it" (writer three 0) (write 2 (7 ∷ 8 ∷ 9 ∷ 10 ∷ [])) (stores 5 0 4)
    -- from the end on: the page of the end is fetched where a byte of it stands before the end, so not on a page's edge
    ∷ one "a write from the end on" (writer three 3) (write 2 (9 ∷ [])) (fetches 5 0)
    ∷ row "a write from the end on, on a page's edge" (writer one_page 1024)
    (write 2 (9 ∷ []) ⇒ stores 5 1 1025 then left_size 1024 1024 then says 1024 ⇒ is_done 1 nothing then left_size 1025 1025 then end)
    -- the size sent with each page (SPECIFICATION 5.7); pages in rising order (5.3)
    ∷ row "a write of 1,025 bytes into an empty file" (writer empty 0)
    (write 2 (many 1025 9) ⇒ stores 5 0 1024 then says 1024 ⇒ stores 5 1 1025 then left empty 0 then says 1024 ⇒ is_done 1025 nothing then left_size 1025 1025 then end)
    ∷ row "a write of a whole page" (writer empty 0) (write 2 (many 1024 9) ⇒ stores 5 0 1024 then says 1024 ⇒ is_done 1024 nothing then left_size 1024 1024 then end)
    ∷ row "a write over a page's edge, the first page fetched" (writer page_and_two 1023)
    (write 2 (7 ∷ 8 ∷ 9 ∷ []) ⇒ fetches 5 0 then gives_page (5 ∷ []) ⇒ stores 5 0 1026 then says 1024 ⇒ stores 5 1 1026
    then says 1024 ⇒ is_done 3 nothing then left_size 1026 1026 then end)
    ∷ row "a write over a page's edge, the second page fetched" (writer page_and_two 0)
    (write 2 (many 1025 9) ⇒ stores 5 0 1026 then says 1024 ⇒ fetches 5 1 then end)
    ∷ row "a write over a page's edge, no page fetched" (writer page_and_two 0)
    (write 2 (many 1026 9) ⇒ stores 5 0 1026 then says 1024 ⇒ stores 5 1 1026 then says 1024 ⇒ is_done 1026 nothing then left_size 1026 1026 then end)
    -- where nothing is fetched, zeros stand behind the data (SPECIFICATION 5.7)
    ∷ row "a write into an empty file" (writer empty 0)
    (write 2 (7 ∷ 8 ∷ []) ⇒ stores_front 5 0 2 (7 ∷ 8 ∷ 0 ∷ 0 ∷ []) then left empty 0
    then says 1024 ⇒ is_done 2 nothing then left_size 2 2 then end)
    -- stop 5 and, before it, stop 1
    ∷ row "stop 5: a write's page" (writer three 0) (write 2 (9 ∷ []) ⇒ fetches 5 0 then gives_page (2 ∷ []) ⇒ is_stopped 5 then end)
    ∷ row "stop 1: a write's page of 1,023 bytes" (writer three 0) (write 2 (9 ∷ []) ⇒ fetches 5 0 then replies (many 1023 0) ⇒ is_stopped 1 then end)
    -- the right status of a store is 1,024; the tables are those of before the call
    ∷ row "stop 2: a store answered 0" (writer empty 0) (write 2 (9 ∷ []) ⇒ stores 5 0 1 then says 0 ⇒ is_stopped 2 then end)
    ∷ row "stop 2: the second store answered 1,023" (writer empty 0)
    (write 2 (many 1025 9) ⇒ stores 5 0 1024 then says 1024 ⇒ stores 5 1 1025 then says 1023 ⇒ is_stopped 2 then left empty 0 then end)
    ∷ row "stop 2: a store answered -1" (writer empty 0)
    (write 2 (9 ∷ []) ⇒ stores 5 0 1 then says_minus 1 ⇒ is_stopped 2 then left empty 0 then end)
    ∷ row "stop 2: a store answered -1,024" (writer empty 0)
    (write 2 (9 ∷ []) ⇒ stores 5 0 1 then says_minus 1024 ⇒ is_stopped 2 then end)
    ∷ row "stop 2: a store answered 1,025" (writer empty 0)
    (write 2 (9 ∷ []) ⇒ stores 5 0 1 then says 1025 ⇒ is_stopped 2 then end)
    ∷ row "stop 2: a store answered 66,560, in two bytes 1,024" (writer empty 0)
    (write 2 (9 ∷ []) ⇒ stores 5 0 1 then says 66560 ⇒ is_stopped 2 then end)
    ∷ row "stop 2: a store answered 1,024 - 2^31" (writer empty 0)
    (write 2 (9 ∷ []) ⇒ stores 5 0 1 then says 2147484672 ⇒ is_stopped 2 then end)
    ∷ row "stop 1: a store answered by 5 bytes" (writer empty 0) (write 2 (9 ∷ []) ⇒ stores 5 0 1 then replies (four 1024 ++ (0 ∷ [])) ⇒ is_stopped 1 then end)
    ∷ []

-- on the guard alone, since on the tree these pages take many seconds: the data over the page, and the digests
abbrev pub guard_rows : List Row
guard_rows =
    row "a write over the end" (writer three 1)
    (write 2 (7 ∷ 8 ∷ 9 ∷ 10 ∷ []) ⇒ fetches 5 0
    then gives_page (1 ∷ 2 ∷ 3 ∷ []) ⇒ stores_front 5 0 5 (1 ∷ 7 ∷ 8 ∷ 9 ∷ 10 ∷ 0 ∷ [])
    then says 1024 ⇒ is_done 4 nothing then left (file 2 1 7 "a" (1 ∷ 7 ∷ 8 ∷ 9 ∷ 10 ∷ [])) 5 then end)
    ∷ row "a write over a page's edge" (writer page_and_two 1023)
    (write 2 (7 ∷ 8 ∷ 9 ∷ []) ⇒ fetches 5 0 then gives_page (5 ∷ []) ⇒ stores_front 5 0 1026 (5 ∷ 0 ∷ [])
    then says 1024 ⇒ stores_front 5 1 1026 (8 ∷ 9 ∷ 0 ∷ [])
    then says 1024 ⇒ is_done 3 nothing then left (file 2 1 7 "a" (5 ∷ many 1022 0 ++ (7 ∷ 8 ∷ 9 ∷ []))) 1026 then end)
    ∷ row "a write on a page's edge" (writer one_page 1024)
    (write 2 (9 ∷ []) ⇒ stores_front 5 1 1025 (9 ∷ 0 ∷ [])
    then says 1024 ⇒ is_done 1 nothing then left (file 2 1 7 "a" (4 ∷ many 1023 0 ++ (9 ∷ []))) 1025 then end)
    ∷ []

pub guard_rows_hold : wrong_on guard_side guard_rows ≡ []
unfolding wrong_on
guard_rows_hold = refl

pub rows_hold : wrong rows ≡ []
unfolding wrong
rows_hold = refl
