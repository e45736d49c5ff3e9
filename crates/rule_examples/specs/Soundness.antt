-- Which images are sound (SPECIFICATION 8.6). Each image breaks one rule alone. Many nodes and pages: `Limits`.
use Rattle.std.specs.Prelude.{◌≡◌, refl, List, [], ◌∷◌, ◌++◌, ℕ, replicate}
use Prim.Native.String.{String}
use Rattle.std.proofs.Math.Option.{none}
use Rattle.rule_examples.specs.Bytes.{bytes_of, four, many, nothing, name, high, lowered}
use Rattle.rule_examples.specs.Given.{Item, folder, file, sized, root_of, root, Given, given, image_with, section, record_of, node}
use Rattle.rule_examples.specs.Events.{loads}
use Rattle.rule_examples.specs.Rows.{is_done, is_refused, Row, one}
use Rattle.rule_examples.specs.Evaluation.{wrong}

abbrev w : Given
w = given (root ∷ []) []

-- a digest
abbrev seal : List ℕ
seal = many 32 7

-- an image of these nodes, with this many digests
abbrev image : List Item → (digests : ℕ) → List ℕ
image is n = image_with is (replicate n seal)

abbrev sound : String → List ℕ → Row
sound t bytes = one t w (loads bytes) (is_done 0 nothing)

abbrev unsound : String → List ℕ → Row
unsound t bytes = one t w (loads bytes) (is_refused 84)

-- a node with every field free
abbrev free : (id parent kind mode size : ℕ) → List ℕ → Item
free i p k m s n = record { node = node i p k m s n; bytes = none }

-- folders of 31 letters one in another: each adds 32 to the path; at the end a file
abbrev deep : (last : ℕ) → List Item
deep n =
    root ∷ folder 2 1 7 (name 31) ∷ folder 3 2 7 (name 31) ∷ folder 4 3 7 (name 31) ∷ folder 5 4 7 (name 31) ∷ folder 6 5 7 (name 31)
    ∷ folder 7 6 7 (name 31) ∷ folder 8 7 7 (name 31) ∷ file 9 8 7 (name n) nothing ∷ []

abbrev pub rows : List Row
rows =
    -- the root first: id 1, kind 2, parent 0, no name
    sound "the root alone" (image (root ∷ []) 0)
    ∷ unsound "no node" (image [] 0)
    ∷ unsound "the root's id is not 1" (image (folder 2 0 7 "" ∷ []) 0)
    ∷ unsound "the root is a file" (image (file 1 0 7 "" nothing ∷ []) 0)
    ∷ unsound "the root's parent is not 0" (image (folder 1 1 7 "" ∷ []) 0)
    ∷ unsound "the root has a name" (image (folder 1 0 7 "r" ∷ []) 0)
    ∷ unsound "the root is not first" (image (file 2 1 7 "a" nothing ∷ root ∷ []) 0)
    ∷ sound "a root without any bit" (image (root_of 0 ∷ []) 0)
    -- ids differ, and none is 0
    ∷ sound "two files" (image (root ∷ file 2 1 7 "a" nothing ∷ file 3 1 7 "b" nothing ∷ []) 0)
    ∷ unsound "two ids alike" (image (root ∷ file 2 1 7 "a" nothing ∷ file 2 1 7 "b" nothing ∷ []) 0)
    ∷ unsound "the root's id again" (image (root ∷ file 1 1 7 "a" nothing ∷ []) 0)
    ∷ unsound "two ids over 255 alike" (image (root ∷ file 300 1 7 "a" nothing ∷ file 300 1 7 "b" nothing ∷ []) 0)
    ∷ sound "two ids alike in their low bytes"
    (image (root ∷ file 300 1 7 "a" nothing ∷ file 44 1 7 "b" nothing ∷ []) 0)
    ∷ sound "the root's low byte" (image (root ∷ file 257 1 7 "a" nothing ∷ []) 0)
    ∷ sound "the largest id" (image (root ∷ file 4294967295 1 7 "a" nothing ∷ []) 0)
    ∷ unsound "an id 0" (image (root ∷ file 0 1 7 "a" nothing ∷ []) 0)
    -- each parent is a directory, wherever it stands, and leads to the root
    ∷ sound "an earlier folder" (image (root ∷ folder 2 1 7 "d" ∷ file 3 2 7 "a" nothing ∷ []) 0)
    ∷ sound "a parent over 255" (image (root ∷ folder 300 1 7 "d" ∷ file 3 300 7 "a" nothing ∷ []) 0)
    ∷ unsound "a parent's low byte alone" (image (root ∷ folder 300 1 7 "d" ∷ file 3 44 7 "a" nothing ∷ []) 0)
    ∷ sound "a folder three down" (image (root ∷ folder 2 1 7 "d" ∷ folder 3 2 7 "d" ∷ folder 4 3 7 "d" ∷ []) 0)
    ∷ unsound "parent 0" (image (root ∷ file 2 0 7 "a" nothing ∷ []) 0)
    ∷ sound "a later folder" (image (root ∷ file 3 2 7 "a" nothing ∷ folder 2 1 7 "d" ∷ []) 0)
    ∷ sound "the deepest first" (image (root ∷ folder 4 3 7 "d" ∷ folder 3 2 7 "d" ∷ folder 2 1 7 "d" ∷ []) 0)
    ∷ unsound "a file for a parent" (image (root ∷ file 2 1 7 "d" nothing ∷ file 3 2 7 "a" nothing ∷ []) 0)
    ∷ unsound "a later file for a parent" (image (root ∷ file 3 2 7 "a" nothing ∷ file 2 1 7 "d" nothing ∷ []) 0)
    ∷ unsound "a node's own parent" (image (root ∷ folder 2 2 7 "d" ∷ []) 0)
    ∷ unsound "a ring of two" (image (root ∷ folder 2 3 7 "d" ∷ folder 3 2 7 "d" ∷ []) 0)
    ∷ unsound "a ring of three" (image (root ∷ folder 2 3 7 "d" ∷ folder 3 4 7 "d" ∷ folder 4 2 7 "d" ∷ []) 0)
    ∷ unsound "no such parent" (image (root ∷ file 3 9 7 "a" nothing ∷ []) 0)
    -- children of one directory have different names
    ∷ unsound "two siblings of one name" (image (root ∷ file 2 1 7 "a" nothing ∷ folder 3 1 7 "a" ∷ []) 0)
    ∷ sound "a name and its beginning" (image (root ∷ file 2 1 7 "abc" nothing ∷ file 3 1 7 "ab" nothing ∷ []) 0)
    ∷ sound "names that differ in one bit" (image (root ∷ file 2 1 7 high nothing ∷ file 3 1 7 lowered nothing ∷ []) 0)
    ∷ sound "one name in two folders" (image (root ∷ file 2 1 7 "a" nothing ∷ folder 3 1 7 "d" ∷ file 4 3 7 "a" nothing ∷ []) 0)
    -- kind, mode, size
    ∷ unsound "kind 0" (image (root ∷ free 2 1 0 7 0 (bytes_of "a") ∷ []) 0)
    ∷ unsound "kind 3" (image (root ∷ free 2 1 3 7 0 (bytes_of "a") ∷ []) 0)
    ∷ unsound "kind 129" (image (root ∷ free 2 1 129 7 0 (bytes_of "a") ∷ []) 0)
    ∷ sound "mode 0" (image (root ∷ file 2 1 0 "a" nothing ∷ folder 3 1 0 "b" ∷ []) 0)
    ∷ unsound "mode 135" (image (root ∷ file 2 1 135 "a" nothing ∷ []) 0)
    ∷ unsound "a folder's mode 8" (image (root ∷ folder 2 1 8 "a" ∷ []) 0)
    ∷ unsound "mode 8" (image (root ∷ file 2 1 8 "a" nothing ∷ []) 0)
    ∷ unsound "the root's mode 8" (image (root_of 8 ∷ []) 0)
    ∷ unsound "a folder of size 1" (image (root ∷ free 2 1 2 7 1 (bytes_of "a") ∷ []) 1)
    ∷ unsound "the root of size 1" (image (free 1 0 2 7 1 nothing ∷ []) 1)
    ∷ unsound "a file of 2^24 bytes" (image (root ∷ sized 2 1 7 "a" 16777216 ∷ []) 0)
    ∷ sound "a file of 65,536 bytes" (image (root ∷ sized 2 1 7 "a" 65536 ∷ []) 64)
    ∷ unsound "a file of 65,537 bytes" (image (root ∷ sized 2 1 7 "a" 65537 ∷ []) 65)
    -- the name's form and length
    ∷ unsound "no name" (image (root ∷ file 2 1 7 "" nothing ∷ []) 0)
    ∷ unsound "the name ." (image (root ∷ file 2 1 7 "." nothing ∷ []) 0)
    ∷ unsound "the name .." (image (root ∷ file 2 1 7 ".." nothing ∷ []) 0)
    ∷ sound "the name ..." (image (root ∷ file 2 1 7 "..." nothing ∷ []) 0)
    ∷ unsound "a name with /" (image (root ∷ file 2 1 7 "a/b" nothing ∷ []) 0)
    ∷ unsound "a name with a byte 0" (image (root ∷ file 2 1 7 "a\0" nothing ∷ []) 0)
    ∷ sound "a name with bytes over 127" (image (root ∷ file 2 1 7 high nothing ∷ []) 0)
    ∷ sound "a name of 32" (image (root ∷ file 2 1 7 (name 32) nothing ∷ []) 0)
    ∷ unsound "a name of 33" (image (root ∷ file 2 1 7 (name 33) nothing ∷ []) 0)
    -- full paths
    ∷ sound "a path of 255" (image (deep 30) 0)
    ∷ unsound "a path of 256 bytes" (image (deep 31) 0)
    -- the second count
    ∷ sound "a digest for each page" (image (root ∷ sized 2 1 7 "a" 1025 ∷ []) 2)
    ∷ sound "digests of two files" (image (root ∷ sized 2 1 7 "a" 1025 ∷ sized 3 1 7 "b" 1 ∷ []) 3)
    ∷ unsound "digests of one file of two" (image (root ∷ sized 2 1 7 "a" 1025 ∷ sized 3 1 7 "b" 1 ∷ []) 2)
    ∷ unsound "a digest too few" (image (root ∷ sized 2 1 7 "a" 1025 ∷ []) 1)
    ∷ unsound "a digest too many" (image (root ∷ sized 2 1 7 "a" 1024 ∷ []) 2)
    ∷ sound "no digest for an empty file" (image (root ∷ sized 2 1 7 "a" 0 ∷ []) 0)
    -- no byte follows
    ∷ unsound "a byte behind" (image (root ∷ []) 0 ++ (0 ∷ []))
    ∷ unsound "a byte short" (section (record_of root.node ∷ []) ++ (0 ∷ 0 ∷ 0 ∷ []))
    ∷ unsound "one section only" (section (record_of root.node ∷ []))
    ∷ unsound "no byte" nothing
    ∷ unsound "a count of one digest more" (section (record_of root.node ∷ []) ++ four 1)
    ∷ unsound "a count of 65,537 nodes" (four 65537 ++ (record_of root.node ++ four 0))
    ∷ unsound "a count of 65,536 digests" (section (record_of root.node ∷ []) ++ four 65536)
    ∷ unsound "a name longer than the bytes"
    (four 1 ++ (four 1 ++ (four 0 ++ (2 ∷ 7 ∷ (four 0 ++ (200 ∷ four 0))))))
    ∷ unsound "a count of one node more" (four 2 ++ (record_of root.node ++ four 0))
    ∷ []

pub rows_hold : wrong rows ≡ []
unfolding wrong
rows_hold = refl
