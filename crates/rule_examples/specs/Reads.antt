-- Reads: the pages that are fetched, the bytes, the cursor.
use Rattle.std.specs.Prelude.{◌≡◌, refl, List, [], ◌∷◌, ◌++◌, ℕ}
use Rattle.machine.specs.Tree.{tree}
use Rattle.rule_examples.specs.Bytes.{many, nothing, config}
use Rattle.rule_examples.specs.Given.{Item, file, sparse, root, opened, Given, given}
use Rattle.rule_examples.specs.Events.{replies, read, gives_page}
use Rattle.rule_examples.specs.Rows.{is_done, is_stopped, fetches, ◌⇒◌, holds, Line, ◌then◌, end, Row, row, one}
use Rattle.rule_examples.specs.Evaluation.{guard_side, wrong, wrong_on}

-- a file of 3 bytes, one of 1,030
abbrev three : Item
three = file 2 1 7 "a" (1 ∷ 2 ∷ 3 ∷ [])

abbrev long : Item
long = sparse 2 1 7 "a" 1030 (1 ∷ 2 ∷ 3 ∷ [])

-- it is open for reading, with descriptor 5 and this cursor
abbrev reader : Item → (cursor : ℕ) → Given
reader i c = given (root ∷ i ∷ []) (opened 2 5 1 c ∷ [])

-- it is as it was, the cursor here
abbrev left : Item → (cursor : ℕ) → Line
left i c = holds (root ∷ i ∷ []) (opened 2 5 1 c ∷ [])

-- two pages, the second of 2 bytes
abbrev page₀ : List ℕ
page₀ = many 1023 1 ++ (2 ∷ [])

abbrev two_pages : Item
two_pages = file 2 1 7 "a" (page₀ ++ (3 ∷ 4 ∷ []))

abbrev pub rows : List Row
rows =
    -- fetches (SPECIFICATION 5.1, 5.2): the page of the cursor is the first
    one "a read from the first page on" (reader long 1) (read 2 4096) (fetches 5 0)
    ∷ one "a read from a page's edge on" (reader long 1024) (read 2 1) (fetches 5 1)
    ∷ one "a read from the last byte of a page on" (reader long 1023) (read 2 1) (fetches 5 0)
    -- the smaller of count and what is left, from the cursor on, which moves (SPECIFICATION 4.3, 4.4); done with the count
    ∷ row "a read of less than remains" (reader three 1)
    (read 2 1 ⇒ fetches 5 0 then gives_page (1 ∷ 2 ∷ 3 ∷ []) ⇒ is_done 1 (2 ∷ []) then left three 2 then end)
    -- pages in rising order (SPECIFICATION 5.3)
    ∷ row "a read of all that remains, over a page's edge" (reader long 1022)
    (read 2 4096 ⇒ fetches 5 0 then gives_page (1 ∷ 2 ∷ 3 ∷ []) ⇒ fetches 5 1 then left long 1022
    then gives_page nothing ⇒ is_done 8 (many 8 0) then left long 1030 then end)
    -- stop 5, for each page of a read, zeros past the end among it (SPECIFICATION 2.4); the tables are those of before the call
    ∷ row "stop 5: the second page of a read, past the file's end" (reader long 1023)
    (read 2 2 ⇒ fetches 5 0 then gives_page (1 ∷ 2 ∷ 3 ∷ []) ⇒ fetches 5 1 then replies (many 1023 0 ++ (1 ∷ [])) ⇒ is_stopped 5 then left long 1023 then end)
    -- stop 1, before 5
    ∷ row "stop 1: a page of 1,023 bytes" (reader three 0) (read 2 1 ⇒ fetches 5 0 then replies (1 ∷ 2 ∷ 3 ∷ many 1020 0) ⇒ is_stopped 1 then end)
    ∷ row "stop 1: a page of 1,025 bytes" (reader three 0) (read 2 1 ⇒ fetches 5 0 then replies (1 ∷ 2 ∷ 3 ∷ many 1022 0) ⇒ is_stopped 1 then end)
    ∷ row "stop 1 before 5: no byte" (reader three 0) (read 2 1 ⇒ fetches 5 0 then replies nothing ⇒ is_stopped 1 then end)
    ∷ []

-- on the guard alone, since on the tree whole pages take many seconds: which bytes, of which page
abbrev pub guard_rows : List Row
guard_rows =
    row "a read over a page's edge" (reader two_pages 1022)
    (read 2 4096 ⇒ fetches 5 0 then replies page₀ ⇒ fetches 5 1
    then gives_page (3 ∷ 4 ∷ []) ⇒ is_done 4 (1 ∷ 2 ∷ 3 ∷ 4 ∷ []) then left two_pages 1026 then end)
    -- up to the edge: the next page is not fetched
    ∷ row "a read that ends on a page's edge" (reader two_pages 700)
    (read 2 324 ⇒ fetches 5 0 then replies page₀ ⇒ is_done 324 (many 323 1 ++ (2 ∷ [])) then left two_pages 1024 then end)
    ∷ row "stop 5: the first page of a read" (reader two_pages 0)
    (read 2 1025 ⇒ fetches 5 0 then gives_page (2 ∷ []) ⇒ is_stopped 5 then left two_pages 0 then end)
    ∷ row "stop 5: the first page for the second" (reader two_pages 1023)
    (read 2 2 ⇒ fetches 5 0 then replies page₀ ⇒ fetches 5 1 then replies page₀ ⇒ is_stopped 5 then end)
    ∷ row "stop 5: the first page for the last" (reader two_pages 1025)
    (read 2 1 ⇒ fetches 5 1 then replies page₀ ⇒ is_stopped 5 then left two_pages 1025 then end)
    ∷ []

-- and the bytes that the tree gives, over a page's edge and behind it
pub tree-reads : (tree config).gathered (page₀ ++ (3 ∷ 4 ∷ [])) 1022 4 tt ≡ 1 ∷ 2 ∷ 3 ∷ 4 ∷ []
unfolding wrong
tree-reads = refl

pub tree-reads-behind : (tree config).gathered (page₀ ++ (3 ∷ 4 ∷ [])) 1025 1 tt ≡ 4 ∷ []
unfolding wrong
tree-reads-behind = refl

pub rows_hold : wrong rows ≡ []
unfolding wrong
rows_hold = refl

pub guard_rows_hold : wrong_on guard_side guard_rows ≡ []
unfolding wrong_on
guard_rows_hold = refl
