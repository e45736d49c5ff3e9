-- Truncations, request by request (SPECIFICATION 4.6, 5.2, 5.8).
use Rattle.std.specs.Prelude.{◌≡◌, refl, List, [], ◌∷◌, ◌++◌, ℕ}
use Rattle.rule_examples.specs.Bytes.{many, nothing}
use Rattle.rule_examples.specs.Given.{Item, file, sized, sparse, root, opened, Given, given}
use Rattle.rule_examples.specs.Events.{replies, read, write, seek, truncate, says, says_minus, gives_page}
use Rattle.rule_examples.specs.Rows.{stores, stores_front}
use Rattle.rule_examples.specs.Rows.{is_done, is_stopped, fetches, stores_page, has, cuts_to, ◌⇒◌, holds, Line, ◌then◌, end, Row, row, one}
use Rattle.rule_examples.specs.Evaluation.{guard_side, wrong, wrong_on}

-- files of 3 bytes and of 2,000
abbrev three : Item
three = file 2 1 7 "a" (1 ∷ 2 ∷ 3 ∷ [])

abbrev long : Item
long = sparse 2 1 7 "a" 2000 (4 ∷ 5 ∷ 6 ∷ [])

-- one of 65,536, the most that a store can carry
abbrev brim : Item
brim = sparse 2 1 7 "a" 65536 (4 ∷ 5 ∷ 6 ∷ [])

-- it is open for writing, with descriptor 5 and this cursor
abbrev writer : Item → (cursor : ℕ) → Given
writer i c = given (root ∷ i ∷ []) (opened 2 5 2 c ∷ [])

-- open for both
abbrev both : Item → (cursor : ℕ) → Given
both i c = given (root ∷ i ∷ []) (opened 2 5 3 c ∷ [])

-- what is left: the file, or its size, and the cursor
abbrev left : Item → (cursor : ℕ) → Line
left i c = holds (root ∷ i ∷ []) (opened 2 5 2 c ∷ [])

abbrev left₃ : Item → (cursor : ℕ) → Line
left₃ i c = holds (root ∷ i ∷ []) (opened 2 5 3 c ∷ [])

abbrev left_size : (size cursor : ℕ) → Line
left_size s c = left (sized 2 1 7 "a" s) c

-- two pages that differ, the second of 10 bytes
abbrev page₀ : List ℕ
page₀ = many 1023 1 ++ (11 ∷ [])

abbrev page₁ : List ℕ
page₁ = 21 ∷ 22 ∷ many 7 2 ++ (12 ∷ [])

abbrev two_pages : Item
two_pages = file 2 1 7 "a" (page₀ ++ page₁)

abbrev pub rows : List Row
rows =
    -- within a page; a cursor behind the new end is put there (SPECIFICATION 4.6); done with 0
    row "a truncation inside a page" (writer brim 1500)
    (truncate 2 2 ⇒ fetches 5 0
    then gives_page (4 ∷ 5 ∷ 6 ∷ []) ⇒ stores_page 5 0 65536 (has 0 4 ∷ has 1 5 ∷ has 2 0 ∷ has 1023 0 ∷ [])
    then says 1024 ⇒ cuts_to 5 2 then left_size 65536 1500 then says 0 ⇒ is_done 0 nothing then left_size 2 2 then end)
    ∷ one "a truncation inside the second page" (writer long 0) (truncate 2 1025) (fetches 5 1)
    ∷ one "a truncation to one byte before a page's edge" (writer long 0) (truncate 2 1023) (fetches 5 0)
    -- on a page's edge
    ∷ row "a truncation to a page's edge" (writer long 1500)
    (truncate 2 1024 ⇒ cuts_to 5 1024 then left_size 2000 1500 then says 0 ⇒ is_done 0 nothing then left_size 1024 1024 then end)
    ∷ row "a truncation to 0" (writer three 2) (truncate 2 0 ⇒ cuts_to 5 0 then says 0 ⇒ is_done 0 nothing then left (file 2 1 7 "a" nothing) 0 then end)
    -- a cursor that is not beyond the new end stays
    ∷ row "a truncation behind the cursor" (writer long 7) (truncate 2 1024 ⇒ cuts_to 5 1024 then says 0 ⇒ is_done 0 nothing then left_size 1024 7 then end)
    -- a growth: one cut, no page; the added bytes are zero, the cursor stays; done with 0
    ∷ row "a growth from 0" (writer (file 2 1 7 "a" nothing) 0)
    (truncate 2 1 ⇒ cuts_to 5 1 then left (file 2 1 7 "a" nothing) 0 then says 0 ⇒ is_done 0 nothing then left (file 2 1 7 "a" (0 ∷ [])) 0 then end)
    ∷ row "a growth inside the last page" (writer three 3)
    (truncate 2 5 ⇒ cuts_to 5 5 then says 0 ⇒ is_done 0 nothing then left (file 2 1 7 "a" (1 ∷ 2 ∷ 3 ∷ 0 ∷ 0 ∷ [])) 3 then end)
    ∷ row "a growth to 700" (writer three 0) (truncate 2 700 ⇒ cuts_to 5 700 then left_size 3 0 then says 0 ⇒ is_done 0 nothing then left_size 700 0 then end)
    ∷ row "a growth over two pages' edges" (writer (sized 2 1 7 "a" 700) 2)
    (truncate 2 3000 ⇒ cuts_to 5 3000 then says 0 ⇒ is_done 0 nothing then left_size 3000 2 then end)
    ∷ row "a growth to a page's edge" (writer three 2) (truncate 2 1024 ⇒ cuts_to 5 1024 then says 0 ⇒ is_done 0 nothing then left_size 1024 2 then end)
    ∷ row "a growth from a page's edge" (writer (sized 2 1 7 "a" 1024) 1024)
    (truncate 2 1025 ⇒ cuts_to 5 1025 then says 0 ⇒ is_done 0 nothing then left_size 1025 1024 then end)
    ∷ row "a growth from the end" (writer three 3) (truncate 2 65536 ⇒ cuts_to 5 65536 then says 0 ⇒ is_done 0 nothing then left_size 65536 3 then end)
    -- what was cut off is gone
    ∷ row "a write, a shrinking, a growth" (writer three 3)
    (write 2 (9 ∷ []) ⇒ fetches 5 0 then gives_page (1 ∷ 2 ∷ 3 ∷ []) ⇒ stores_front 5 0 4 (1 ∷ 2 ∷ 3 ∷ 9 ∷ 0 ∷ []) then says 1024 ⇒ is_done 1 nothing
    then truncate 2 2 ⇒ fetches 5 0 then gives_page (1 ∷ 2 ∷ 3 ∷ 9 ∷ []) ⇒ stores_front 5 0 4 (1 ∷ 2 ∷ 0 ∷ 0 ∷ []) then says 1024 ⇒ cuts_to 5 2
    then says 0 ⇒ is_done 0 nothing
    then truncate 2 6 ⇒ cuts_to 5 6 then says 0 ⇒ is_done 0 nothing then left (file 2 1 7 "a" (1 ∷ 2 ∷ 0 ∷ 0 ∷ 0 ∷ 0 ∷ [])) 2 then end)
    ∷ row "stop 2: a growing cut answered 1" (writer three 2) (truncate 2 9 ⇒ cuts_to 5 9 then says 1 ⇒ is_stopped 2 then left three 2 then end)
    ∷ row "stop 2: a growing cut answered by its size" (writer three 2) (truncate 2 9 ⇒ cuts_to 5 9 then says 9 ⇒ is_stopped 2 then end)
    ∷ row "stop 1: a growing cut answered by 5 bytes" (writer three 2)
    (truncate 2 9 ⇒ cuts_to 5 9 then replies (many 5 0) ⇒ is_stopped 1 then left three 2 then end)
    -- replies: a page, a cut's status 0
    ∷ row "stop 1: a truncation's page of 1,023 bytes" (writer three 0) (truncate 2 1 ⇒ fetches 5 0 then replies (many 1023 0) ⇒ is_stopped 1 then end)
    ∷ row "stop 2: a cut answered 1" (writer three 2) (truncate 2 0 ⇒ cuts_to 5 0 then says 1 ⇒ is_stopped 2 then left three 2 then end)
    ∷ row "stop 2: a cut answered -1" (writer three 2)
    (truncate 2 0 ⇒ cuts_to 5 0 then says_minus 1 ⇒ is_stopped 2 then left three 2 then end)
    ∷ row "stop 2: a cut answered 1,024" (writer three 2)
    (truncate 2 0 ⇒ cuts_to 5 0 then says 1024 ⇒ is_stopped 2 then end)
    ∷ row "stop 2: a cut answered -2^31" (writer three 2)
    (truncate 2 0 ⇒ cuts_to 5 0 then says 2147483648 ⇒ is_stopped 2 then end)
    ∷ row "stop 2: a truncation's store answered -1" (writer three 0)
    (truncate 2 1 ⇒ fetches 5 0 then gives_page (1 ∷ 2 ∷ 3 ∷ []) ⇒ stores 5 0 3
    then says_minus 1 ⇒ is_stopped 2 then left three 0 then end)
    ∷ row "stop 1: a cut answered by no byte" (writer three 2) (truncate 2 0 ⇒ cuts_to 5 0 then replies nothing ⇒ is_stopped 1 then end)
    ∷ []

-- on the guard alone, since on the tree whole pages take many seconds: the digests that are left
abbrev pub guard_rows : List Row
guard_rows =
    row "a truncation inside the second page" (writer two_pages 1030)
    (truncate 2 1026 ⇒ fetches 5 1 then gives_page page₁ ⇒ stores_front 5 1 1034 (21 ∷ 22 ∷ 0 ∷ 0 ∷ [])
    then says 1024 ⇒ cuts_to 5 1026 then left two_pages 1030
    then says 0 ⇒ is_done 0 nothing then left (file 2 1 7 "a" (page₀ ++ (21 ∷ 22 ∷ []))) 1026 then end)
    ∷ row "a truncation to the first page" (writer two_pages 1030)
    (truncate 2 1024 ⇒ cuts_to 5 1024 then says 0 ⇒ is_done 0 nothing then left (file 2 1 7 "a" page₀) 1024 then end)
    ∷ row "stop 5: a truncation's page" (writer three 0)
    (truncate 2 1 ⇒ fetches 5 0 then gives_page (2 ∷ []) ⇒ is_stopped 5 then left three 0 then end)
    -- reads over the old end give zeros, and nothing else is taken for them
    ∷ row "a read over the old end" (both three 1)
    (truncate 2 5 ⇒ cuts_to 5 5 then says 0 ⇒ is_done 0 nothing
    then read 2 9 ⇒ fetches 5 0 then gives_page (1 ∷ 2 ∷ 3 ∷ []) ⇒ is_done 4 (2 ∷ 3 ∷ 0 ∷ 0 ∷ []) then end)
    ∷ row "stop 5: a byte behind the old end" (both (file 2 1 7 "a" (1 ∷ [])) 0)
    (truncate 2 5 ⇒ cuts_to 5 5 then says 0 ⇒ is_done 0 nothing
    then read 2 9 ⇒ fetches 5 0 then gives_page (1 ∷ 2 ∷ []) ⇒ is_stopped 5 then end)
    ∷ row "a read on an added page" (both two_pages 0)
    (truncate 2 2050 ⇒ cuts_to 5 2050 then says 0 ⇒ is_done 0 nothing then left₃ (file 2 1 7 "a" (page₀ ++ (page₁ ++ many 1016 0))) 0
    then seek 2 2047 ⇒ is_done 2047 nothing then read 2 3 ⇒ fetches 5 1 then gives_page page₁ ⇒ fetches 5 2
    then gives_page nothing ⇒ is_done 3 (0 ∷ 0 ∷ 0 ∷ []) then end)
    ∷ row "stop 5: an added page that is not zero" (both two_pages 0)
    (truncate 2 2050 ⇒ cuts_to 5 2050 then says 0 ⇒ is_done 0 nothing
    then seek 2 2048 ⇒ is_done 2048 nothing then read 2 1 ⇒ fetches 5 2 then gives_page (0 ∷ 1 ∷ []) ⇒ is_stopped 5 then end)
    ∷ []

pub rows_hold : wrong rows ≡ []
unfolding wrong
rows_hold = refl

pub guard_rows_hold : wrong_on guard_side guard_rows ≡ []
unfolding wrong_on
guard_rows_hold = refl
