-- The limits at their edges: 256 nodes, 32 open files, 65,536 bytes, 1,024 pages.
use Rattle.std.specs.Prelude.{◌≡◌, refl, List, [], ◌∷◌, ◌++◌, ℕ, ◌+◌, ◌-◌, ◌/◌, ◌%◌, replicate, true, false}
use Rattle.lists.specs.Cells.{tab}
use Rattle.filesystem.specs.Tables.{ID_BYTES, Node}
use Rattle.filesystem.specs.Image.{sound}
use Rattle.rule_examples.specs.Bytes.{bytes_of, many, nothing, under}
use Rattle.rule_examples.specs.Given.{file, sized, root_of, root, opened, Given, given, node}
use Rattle.rule_examples.specs.Events.{create, mkdir, open_for, write, truncate}
use Rattle.rule_examples.specs.Rows.{is_done, is_refused, fetches, stores, cuts_to, Row, one, passes}
use Rattle.rule_examples.specs.Evaluation.{wrong}

-- n nodes in all: a root of this mode, and files
abbrev crowd : (mode n : ℕ) → Given
crowd m n = given (root_of m ∷ tab (n - 1) (λ i. file (i + 2) 1 7 "f" nothing)) []

-- n nodes with names that differ, for an image
abbrev named : (n : ℕ) → List Node
named n = root.node ∷ tab (n - 1) (λ i. node (i + 2) 1 1 7 0 ((65 + i / 64) ∷ (65 + i % 64) ∷ []))

-- 40 files, of which the first n are open
abbrev holding : (n : ℕ) → Given
holding n = given (root ∷ file 2 1 7 "first" nothing ∷ (tab 38 (λ i. file (i + 3) 1 7 "f" nothing) ++ (file 41 1 7 "last" nothing ∷ []))) (tab n (λ i. opened (i + 2) i 1 0))

-- n files of 64 pages, and one of this size that is open, the cursor at this place
abbrev stocked : (n size cursor : ℕ) → Given
stocked n s c = given (root ∷ sized 2 1 7 "a" s ∷ tab n (λ i. sized (i + 3) 1 7 "f" 65536)) (opened 2 5 2 c ∷ [])

-- the same, open for reading alone
abbrev read_only : (n size cursor : ℕ) → Given
read_only n s c = given (root ∷ sized 2 1 7 "a" s ∷ tab n (λ i. sized (i + 3) 1 7 "f" 65536)) (opened 2 5 1 c ∷ [])

-- 1,023 pages, and an empty file that is open
abbrev nearly : Given
nearly = given (root ∷ sized 2 1 7 "a" 0 ∷ sized 20 1 7 "g" 64512 ∷ tab 15 (λ i. sized (i + 3) 1 7 "f" 65536)) (opened 2 5 2 0 ∷ [])

-- 15 files of 64 pages, one of this size and one of one byte, for an image
abbrev filed : (size : ℕ) → List Node
filed s = root.node ∷ (tab 15 (λ i. node (i + 2) 1 1 7 65536 ((65 + i) ∷ [])) ++ (node 17 1 1 7 s (bytes_of "z") ∷ node 18 1 1 7 1 (bytes_of "y") ∷ []))

abbrev pub rows : List Row
rows =
    -- 28 with 256 nodes; 17 and 13 come first
    passes "no 28: create with 255 nodes" (crowd 7 255) (create 7 "/n")
    ∷ one "28: create with 256 nodes" (crowd 7 256) (create 7 "/n") (is_refused 28)
    ∷ one "28: mkdir with 256 nodes" (crowd 7 256) (mkdir 7 "/n") (is_refused 28)
    ∷ one "17 before 28" (crowd 7 256) (create 7 "/f") (is_refused 17)
    ∷ one "13 before 28" (crowd 5 256) (create 7 "/n") (is_refused 13)
    ∷ passes "no 28: mkdir with 255 nodes" (crowd 7 255) (mkdir 7 "/n")
    ∷ one "17 before 28: mkdir" (crowd 7 256) (mkdir 7 "/f") (is_refused 17)
    ∷ one "13 before 28: mkdir" (crowd 5 256) (mkdir 7 "/n") (is_refused 13)
    ∷ one "36 before 28" (crowd 7 256) (create 7 (under "" 33)) (is_refused 36)
    -- 24 with 32 open files; 16 comes first
    ∷ passes "no 24: open with 31 open" (holding 31) (open_for 1 "/last")
    ∷ one "24: open with 32 open" (holding 32) (open_for 1 "/last") (is_refused 24)
    ∷ one "16 before 24" (holding 32) (open_for 1 "/first") (is_refused 16)
    -- 27 where a write would end beyond 65,536; 9 comes first, 28 after it
    ∷ one "no 27: to the byte 65,536" (stocked 0 65535 65535) (write 2 (1 ∷ [])) (fetches 5 63)
    ∷ one "27: past the byte 65,536" (stocked 0 65535 65535) (write 2 (1 ∷ 2 ∷ [])) (is_refused 27)
    ∷ one "27: at the end of a full file" (stocked 0 65536 65536) (write 2 (1 ∷ [])) (is_refused 27)
    ∷ one "no 27: no bytes at the end of a full file" (stocked 0 65536 65536) (write 2 nothing) (is_done 0 nothing)
    ∷ one "no 27: inside a full file" (stocked 0 65536 0) (write 2 (1 ∷ [])) (fetches 5 0)
    ∷ one "9 before 27" (read_only 0 65536 65536) (write 2 (1 ∷ [])) (is_refused 9)
    ∷ one "27 before 28" (stocked 15 65536 65536) (write 2 (1 ∷ [])) (is_refused 27)
    -- 28 with over 1,024 pages, as they would be after the write; a write that adds no page passes
    ∷ one "no 28: a write to 1,024 pages" (stocked 15 64512 64512) (write 2 (1 ∷ [])) (stores 5 63 64513)
    ∷ one "28: a write to 1,025 pages" (stocked 16 0 0) (write 2 (1 ∷ [])) (is_refused 28)
    ∷ one "9 before 28" (read_only 16 0 0) (write 2 (1 ∷ [])) (is_refused 9)
    ∷ one "9 before 28: not open" (given (stocked 16 0 0).items []) (write 2 (1 ∷ [])) (is_refused 9)
    ∷ one "no 28: no bytes beside 1,024 pages" (stocked 16 0 0) (write 2 nothing) (is_done 0 nothing)
    ∷ one "no 28: a write inside 1,024 pages" (stocked 15 65536 0) (write 2 (1 ∷ [])) (fetches 5 0)
    ∷ one "a store of the size 65,536" (stocked 0 64512 64512) (write 2 (many 1024 1)) (stores 5 63 65536)
    ∷ one "no 28: one page more, to 1,024" nearly (write 2 (many 1024 1)) (stores 5 0 1024)
    ∷ one "28: two pages more, to 1,025" nearly (write 2 (many 1025 1)) (is_refused 28)
    -- a truncation: 27 above 65,536; 9 comes first, 28 after it
    ∷ one "no 27: a growth to 65,536" (stocked 0 700 0) (truncate 2 65536) (cuts_to 5 65536)
    ∷ one "27: a growth to 65,537" (stocked 0 700 0) (truncate 2 65537) (is_refused 27)
    ∷ one "27: a growth of a full file" (stocked 0 65536 0) (truncate 2 65537) (is_refused 27)
    ∷ one "27 before 28: a growth" (stocked 16 0 0) (truncate 2 65537) (is_refused 27)
    -- 28 with over 1,024 pages, as they would be after it; one that adds no page passes
    ∷ one "no 28: a growth to 1,024 pages" (stocked 15 1 0) (truncate 2 65536) (cuts_to 5 65536)
    ∷ one "28: a growth to 1,025 pages" (stocked 16 0 0) (truncate 2 1) (is_refused 28)
    ∷ one "9 before 28: a growth" (read_only 16 0 0) (truncate 2 1) (is_refused 9)
    ∷ one "9 before 28: a growth, not open" (given (stocked 16 0 0).items []) (truncate 2 1) (is_refused 9)
    ∷ one "no 28: a growth inside the last of 1,024 pages" (stocked 15 64513 0) (truncate 2 65536) (cuts_to 5 65536)
    ∷ one "no 28: a shrinking beside 1,024 pages" (stocked 15 65536 0) (truncate 2 1024) (cuts_to 5 1024)
    ∷ one "no 28: to the same size beside 1,024 pages" (stocked 16 0 0) (truncate 2 0) (is_done 0 nothing)
    ∷ one "no 28: a growth of one page, to 1,024" nearly (truncate 2 1024) (cuts_to 5 1024)
    ∷ one "28: a growth of two pages, to 1,025" nearly (truncate 2 1025) (is_refused 28)
    ∷ []

-- the limits of an image: not 257 nodes (that 256 may be stands in `filesystem`, `LongestImage`); 1,024 pages, not 1,025
pub image_nodes_lem : sound ID_BYTES (named 257, []) ≡ false
unfolding wrong
image_nodes_lem = refl

pub image-pages : sound ID_BYTES (filed 64512, replicate 1024 (many 32 7)) ≡ true
unfolding wrong
image-pages = refl

pub image_too_many_pages : sound ID_BYTES (filed 64513, replicate 1025 (many 32 7)) ≡ false
unfolding wrong
image_too_many_pages = refl

pub rows_hold : wrong rows ≡ []
unfolding wrong
rows_hold = refl
