-- Saves and loads (SPECIFICATION 8). What 5 and 114 come before stands in `CommonOrder`, what makes 84 in `Soundness`.
use Rattle.std.specs.Prelude.{◌≡◌, refl, List, [], ◌∷◌, ◌++◌, ℕ, ◌-◌, ◌/◌, ◌%◌, take, length}
use Rattle.lists.specs.Cells.{tab}
use Rattle.filesystem.specs.Tables.{ID_BYTES}
use Rattle.rules.specs.Skeleton.{Config, save}
use Rattle.machine.specs.Tree.{digests_of}
use Rattle.rule_examples.specs.Bytes.{bytes_of, four, many, nothing, digest}
use Rattle.rule_examples.specs.Given.{Item, folder, file, sized, root, opened, Given, given}
use Rattle.rule_examples.specs.Given.{image_of, image_with, concatenated}
use Rattle.rule_examples.specs.Events.{create, open_for, close, remove, chmod, says, gives, load, loads}
use Rattle.rule_examples.specs.Rows.{is_done, is_saved, is_refused, closes, ◌⇒◌, holds, ◌then◌, end, sends_itself, Row, row, one}
use Rattle.rule_examples.specs.Evaluation.{guard_side, tree_side, wrong, wrong_on}

abbrev items : List Item
items = root ∷ folder 2 1 5 "d" ∷ file 3 2 6 "a" nothing ∷ []

abbrev w : Given
w = given items []

-- the same with a file open
abbrev busy : Given
busy = given items (opened 3 5 1 0 ∷ [])

-- its bytes, all of them
abbrev image : List ℕ
image =
    concatenated
    (four 3
    ∷ four 1 ∷ four 0 ∷ (2 ∷ 7 ∷ []) ∷ four 0 ∷ (0 ∷ [])
    ∷ four 2 ∷ four 1 ∷ (2 ∷ 5 ∷ []) ∷ four 0 ∷ (1 ∷ bytes_of "d")
    ∷ four 3 ∷ four 2 ∷ (1 ∷ 6 ∷ []) ∷ four 0 ∷ (1 ∷ bytes_of "a")
    ∷ four 0
    ∷ [])

-- two files with bytes: digests by node, then by page
abbrev full : List Item
full = root ∷ file 2 1 7 "a" (1 ∷ []) ∷ folder 3 1 7 "d" ∷ file 4 3 7 "b" (2 ∷ 3 ∷ []) ∷ []

-- the same items and a file more; the same with another mode, which the digest of these rows does not see
abbrev later : List Item
later = items ++ (file 9 1 7 "n" nothing ∷ [])

abbrev moded : List Item
moded = root ∷ folder 2 1 7 "d" ∷ file 3 2 6 "a" nothing ∷ []

-- a file of two pages that differ
abbrev two_pages : List Item
two_pages = root ∷ file 2 1 7 "a" (many 1024 1 ++ (2 ∷ [])) ∷ []

-- five files of 64 pages, and an image of them with 320 digests that differ
abbrev five : List Item
five =
    root ∷ sized 2 1 7 "a" 65536 ∷ sized 3 1 7 "b" 65536 ∷ sized 4 1 7 "c" 65536 ∷ sized 5 1 7 "d" 65536
    ∷ sized 6 1 7 "e" 65536 ∷ []

abbrev many_digests : List ℕ
many_digests = image_with five (tab 320 (λ i. i % 256 ∷ i / 256 ∷ many 30 7))

abbrev pub rows : List Row
rows =
    -- two parts, each behind its count (SPECIFICATION 8.4); a save is done with the image's length, the image and its digest
    row "save is done" w (save 44776 ⇒ is_saved image then holds items [] then end)
    ∷ one "save of a fresh guard" (given (root ∷ []) []) (save 44776) (is_saved (image_of (root ∷ [])))
    -- 16 while a file is open, before 34 and 74
    ∷ one "16: save with an open file" busy (save 44776) (is_refused 16)
    ∷ one "16 before 34: save" busy (save 0) (is_refused 16)
    ∷ one "16: load with an open file" busy (loads image) (is_refused 16)
    ∷ one "16 before 74: load" busy (load image nothing) (is_refused 16)
    ∷ row "no 16 after close" busy (close 3 ⇒ closes 5 then says 0 ⇒ is_done 0 nothing then save 44776 ⇒ is_saved image then end)
    -- 34 only where the image is longer
    ∷ one "34: a buffer one byte too short" w (save (length image - 1)) (is_refused 34)
    ∷ one "a buffer just long enough" w (save (length image)) (is_saved image)
    ∷ one "34: one byte too short, with digests" (given full []) (save (length (image_of full) - 1)) (is_refused 34)
    -- 74 where the image has another digest, or the one handed in has not 32 bytes; before 84
    ∷ one "74: another digest" w (load image (many 32 0)) (is_refused 74)
    ∷ one "74: 31 bytes of the digest" w (load image (take 31 (digest image))) (is_refused 74)
    ∷ one "74: a byte behind the digest" w (load image (digest image ++ (0 ∷ []))) (is_refused 74)
    ∷ one "74: the last byte of the digest differs" w (load image (take 31 (digest image) ++ (1 ∷ []))) (is_refused 74)
    ∷ one "74: no digest" w (load image nothing) (is_refused 74)
    ∷ one "74 before 84" w (load nothing (many 32 1)) (is_refused 74)
    ∷ one "84: no image" w (loads nothing) (is_refused 84)
    ∷ row "74 and 84 change nothing" w (load image (many 32 0) ⇒ is_refused 74 then loads nothing ⇒ is_refused 84 then holds items [] then end)
    -- a load is done with 0 and goes back to what was saved
    ∷ row "load goes back" w
    (save 44776 ⇒ is_saved image then sends_itself (chmod 7 "/d") then says 0 ⇒ is_done 0 nothing then sends_itself (remove "/d/a") then says 0 ⇒ is_done 0 nothing then sends_itself (create 7 "/n") then gives 9 ⇒ is_done 9 nothing
    then sends_itself (chmod 0 "/") then says 0 ⇒ is_done 0 nothing then loads image ⇒ is_done 0 nothing then holds items [] then end)
    ∷ row "load of a save with digests" (given full [])
    (save 44776 ⇒ is_saved (image_of full) then sends_itself (remove "/a") then says 0 ⇒ is_done 0 nothing then loads (image_of full) ⇒ is_done 0 nothing then holds full [] then end)
    -- to the save whose digest is handed in, not to the latest
    ∷ row "two saves, a load of the first" w
    (save 44776 ⇒ is_saved image then sends_itself (create 7 "/n") then gives 9 ⇒ is_done 9 nothing
    then save 44776 ⇒ is_saved (image_of later) then loads image ⇒ is_done 0 nothing then holds items []
    then loads (image_of later) ⇒ is_done 0 nothing then holds later [] then end)
    -- where two gave one digest, to the later
    ∷ row "two saves of one digest" w
    (save 44776 ⇒ is_saved image then sends_itself (chmod 7 "/d") then says 0 ⇒ is_done 0 nothing
    then save 44776 ⇒ is_saved (image_of moded) then sends_itself (chmod 0 "/d") then says 0 ⇒ is_done 0 nothing
    then loads (image_of moded) ⇒ is_done 0 nothing then holds moded [] then end)
    -- what was loaded is in use
    ∷ row "load, then open" w
    (save 44776 ⇒ is_saved image then loads image ⇒ is_done 0 nothing
    then sends_itself (open_for 2 "/d/a") then gives 7 ⇒ is_done 3 nothing then holds items (opened 3 7 2 0 ∷ [])
    then save 44776 ⇒ is_refused 16 then end)
    ∷ []

-- On the guard alone: after a load that no save gave it has what the image says (SPECIFICATION 8.7); digests in order.
abbrev pub guard_rows : List Row
guard_rows =
    row "load of an image that no save gave" (given (root ∷ []) [])
    (loads (image_of full) ⇒ is_done 0 nothing then holds full [] then end)
    ∷ row "load in place of other nodes" (given items [])
    (loads (image_of full) ⇒ is_done 0 nothing then holds full [] then end)
    ∷ one "just long enough, with digests" (given full []) (save (length (image_of full))) (is_saved (image_of full))
    -- digests page by page
    ∷ one "save of two pages" (given two_pages []) (save 44776) (is_saved (image_of two_pages))
    ∷ row "load of two pages" (given (root ∷ []) [])
    (loads (image_of two_pages) ⇒ is_done 0 nothing then holds two_pages [] then end)
    ∷ row "320 digests, by node, then by page" (given (root ∷ []) [])
    (loads many_digests ⇒ is_done 0 nothing then save 44776 ⇒ is_saved many_digests then end)
    ∷ []

-- On the tree alone: there nothing changes (SPECIFICATION 9.8).
abbrev pub tree_rows : List Row
tree_rows =
    row "load of an image that no save gave" (given items [])
    (loads (image_of full) ⇒ is_done 0 nothing then holds items [] then end)
    ∷ row "a refused save is not kept" (given items [])
    (save 0 ⇒ is_refused 34 then sends_itself (chmod 0 "/d") then says 0 ⇒ is_done 0 nothing
    then loads image ⇒ is_done 0 nothing then holds (root ∷ folder 2 1 0 "d" ∷ file 3 2 6 "a" nothing ∷ []) [] then end)
    ∷ []

-- the tree's digests page by page, where a digest is a page's first two bytes
abbrev peeking : Config
peeking = record { digest = take 2; width = ID_BYTES }

pub tree_digests : digests_of peeking (4 ∷ 5 ∷ many 1022 0 ++ (6 ∷ 7 ∷ [])) ≡ (4 ∷ 5 ∷ []) ∷ (6 ∷ 7 ∷ []) ∷ []
unfolding wrong
tree_digests = refl

pub rows_hold : wrong rows ≡ []
unfolding wrong
rows_hold = refl

pub guard_rows_hold : wrong_on guard_side guard_rows ≡ []
unfolding wrong_on
guard_rows_hold = refl

pub tree_rows_hold : wrong_on tree_side tree_rows ≡ []
unfolding wrong_on
tree_rows_hold = refl
