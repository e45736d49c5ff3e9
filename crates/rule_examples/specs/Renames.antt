-- Rename: its form, its numbers in order (SPECIFICATION 7.7), and what it leaves.
use Rattle.std.specs.Prelude.{◌≡◌, refl, List, [], ◌∷◌, ◌++◌, ℕ}
use Prim.Native.String as S
use Prim.Native.String.{String}
use Rattle.filesystem.specs.Tables.{OpenFile}
use Rattle.rules.specs.Skeleton.{Event, save}
use Rattle.rule_examples.specs.Bytes.{bytes_of, four, eight, nothing, times, name, under}
use Rattle.rule_examples.specs.Given.{Item, folder, file, root_of, root, opened, Given, given, image_of}
use Rattle.rule_examples.specs.Events.{call_of, replies, create, open_for, close, read, remove, rmdir, stat, rename}
use Rattle.rule_examples.specs.Events.{says, says_minus, gives, gives_page, stat_of, loads}
use Rattle.rule_examples.specs.Rows.{Expect, is_done, is_saved, is_refused, is_stopped, asks, closes, fetches, ◌⇒◌}
use Rattle.rule_examples.specs.Rows.{holds, ◌then◌, end, sends_itself, Row, row, one, passes}
use Rattle.rule_examples.specs.Evaluation.{wrong}

-- `/a` holds the file `f` and the folder `g`, in which stands `h`; `/b` is empty; `/r` lacks bit 2 and holds the file
-- `x` and the folder `y`, in which stands `q`; `/k` lacks bit 1 and holds `z`; `/o` is an open file without bit 1;
-- `/w` has the bits 2 and 1 alone and holds `v`, without any bit
abbrev before : List Item
before = root ∷ folder 2 1 7 "a" ∷ []

abbrev behind : List Item
behind =
    folder 4 2 7 "g" ∷ file 5 4 7 "h" nothing ∷ folder 6 1 7 "b" ∷ folder 7 1 5 "r" ∷ file 8 7 7 "x" nothing
    ∷ folder 9 7 7 "y" ∷ file 10 9 7 "q" nothing ∷ folder 11 1 6 "k" ∷ file 12 11 7 "z" nothing
    ∷ file 13 1 6 "o" (9 ∷ []) ∷ folder 14 1 3 "w" ∷ folder 15 14 0 "v" ∷ []

-- with this for `/a/f`
abbrev with : Item → List Item
with i = before ++ (i ∷ behind)

abbrev f : List ℕ
f = 1 ∷ 2 ∷ 3 ∷ []

abbrev items : List Item
items = with (file 3 2 5 "f" f)

abbrev opens : List OpenFile
opens = opened 13 6 3 0 ∷ []

abbrev w : Given
w = given items opens

-- refused, or done with nothing sent
abbrev no : String → String → String → ℕ → Row
no t p q n = one t w (rename p q) (is_refused n)

abbrev own : String → String → Row
own t p = row t w (rename p p ⇒ is_done 0 nothing then holds items opens then says 0 ⇒ is_refused 61 then end)

-- a call of these bytes behind the kind
abbrev refused_bytes : String → List ℕ → ℕ → Row
refused_bytes t b n = one t w (call_of (16 ∷ b)) (is_refused n)

-- 255 bytes of path, and 256: no component is over 32
abbrev seven : String
seven = times 7 (under "" 31)

abbrev long : String
long = under seven 30

abbrev too_long : String
too_long = under seven 31

-- a root without bit 2
abbrev fixed : Given
fixed = given (root_of 5 ∷ file 2 1 7 "a" nothing ∷ folder 3 1 7 "d" ∷ file 4 3 7 "c" nothing ∷ []) []

-- Seven folders one in another, the innermost of this mode, at a path of 224 bytes; it holds `x` and a name of 30,
-- whose path has 255. `/b` holds a name of n, `/e` nothing.
abbrev nested : (mode n : ℕ) → Given
nested m n =
    given
    (root ∷ folder 2 1 7 (name 31) ∷ folder 3 2 7 (name 31) ∷ folder 4 3 7 (name 31) ∷ folder 5 4 7 (name 31)
    ∷ folder 6 5 7 (name 31) ∷ folder 7 6 7 (name 31) ∷ folder 8 7 m (name 31) ∷ file 9 8 7 (name 30) nothing
    ∷ file 10 8 7 "x" nothing ∷ folder 11 1 7 "b" ∷ file 12 11 7 (name n) nothing ∷ folder 13 1 7 "e" ∷ [])
    []

-- a name in the innermost of them
abbrev inner : String → String
inner s = S.◌++◌ seven (S.◌++◌ "/" s)

-- `/a/f` becomes `/b/n`: the reply, and what it comes to
abbrev answered : String → Event → Expect → Row
answered t r x = row t w (sends_itself (rename "/a/f" "/b/n") then r ⇒ x then end)

-- `/d` comes before `/e`
abbrev two : List Item
two = root ∷ folder 2 1 7 "d" ∷ folder 3 1 7 "e" ∷ file 4 2 7 "f" (7 ∷ []) ∷ []

-- and then stands in it
abbrev turned : List Item
turned = root ∷ folder 2 3 7 "n" ∷ folder 3 1 7 "e" ∷ file 4 2 7 "f" (7 ∷ []) ∷ []

abbrev pub rows : List Row
rows =
    -- the length of the first path (1), that path, the second (SPECIFICATION 4.1, 4.2)
    refused_bytes "22: no byte" [] 22
    ∷ refused_bytes "22: a length alone" (2 ∷ []) 22
    ∷ refused_bytes "22: a first path of no byte" (0 ∷ bytes_of "/a") 22
    ∷ refused_bytes "22: a length of 0 alone" (0 ∷ []) 22
    ∷ refused_bytes "22: a first path past the end" (3 ∷ bytes_of "/a") 22
    ∷ refused_bytes "22: a length of 255, past the end" (255 ∷ bytes_of "/a/n") 22
    ∷ refused_bytes "22: a first path to the end" (2 ∷ bytes_of "/a") 22
    ∷ refused_bytes "22: a first path of two to the end" (4 ∷ bytes_of "/a/n") 22
    ∷ refused_bytes "22: the second begins in a name" (1 ∷ bytes_of "/a/n") 22
    ∷ refused_bytes "22: the first ends in /" (3 ∷ bytes_of "/a/n") 22
    ∷ passes "the length parts them" w (call_of (16 ∷ 2 ∷ bytes_of "/b/n"))
    ∷ passes "the length parts them: later" w (call_of (16 ∷ 4 ∷ bytes_of "/a/f/n"))
    ∷ refused_bytes "the length parts them: earlier" (2 ∷ bytes_of "/a/f/n") 2
    -- the form of both paths
    ∷ no "22: a first path without its first /" "a" "/n" 22
    ∷ no "22: a second path without its first /" "/b" "n" 22
    ∷ no "22: a second path that ends in /" "/b" "/n/" 22
    ∷ no "22: a first path .." "/.." "/n" 22
    ∷ no "22: a second path .." "/b" "/.." 22
    ∷ no "22: a second path with .." "/a/f" "/a/../n" 22
    ∷ no "22: a second path ." "/b" "/." 22
    ∷ no "22: a first path with a byte 0" "/b\0" "/n" 22
    ∷ no "22: a second path with a byte 0" "/b" "/n\0" 22
    -- 22 of either before 36 of either (SPECIFICATION 7.4)
    ∷ no "22 of the second before 36 of the first" (under "" 33) "n" 22
    ∷ no "22 of the first before 36 of the second" "b" (under "" 33) 22
    ∷ no "22 before 36: no second path" (under "" 33) "" 22
    ∷ no "22 before 36: both of the second" "/b" (under too_long 0) 22
    -- 36 of either before both walks; a first path over 255 has no length
    ∷ no "36: a component of 33 in the first" (under "" 33) "/n" 36
    ∷ no "36: a component of 33 in the second" "/b" (under "" 33) 36
    ∷ no "36: a component of 33 in the middle of the second" "/b" (under (under "" 33) 1) 36
    ∷ no "36: a second path of 256" "/b" too_long 36
    ∷ no "no 36: a first path of 255" long "/n" 2
    ∷ no "no 36: a second path of 255" "/b" long 2
    ∷ passes "no 36: a name of 32" w (rename "/b" (under "" 32))
    ∷ no "36 of the first before 20" (under "/o" 33) "/n" 36
    ∷ no "36 of the second before 20 of the first" "/o/c" (under "" 33) 36
    ∷ no "36 of the second before 13 of the first" "/k/z" (under "" 33) 36
    ∷ no "36 of the second before 2 of the first" "/none" (under "" 33) 36
    ∷ no "36 before 16" "/" (under "" 33) 36
    ∷ no "36 before 13" "/r/x" (under "/r" 33) 36
    ∷ no "36 before 22" "/a" (under "/a" 33) 36
    -- the first walk (SPECIFICATION 7.6)
    ∷ no "20: the first through a file" "/o/c" "/n" 20
    ∷ no "13: the first without bit 1" "/k/z" "/n" 13
    ∷ no "13 before 2: the first" "/k/none" "/n" 13
    ∷ no "2: the first absent" "/none" "/n" 2
    ∷ no "2: the first absent, at its own path" "/none" "/none" 2
    ∷ no "2: absent in a folder" "/a/none" "/n" 2
    -- the second, whose last component may be missing
    ∷ no "20: the second through a file" "/b" "/o/c" 20
    ∷ no "13: the second without bit 1" "/b" "/k/n" 13
    ∷ no "13 before 2: the second" "/b" "/k/none/n" 13
    ∷ no "2: absent in the middle of the second" "/b" "/none/n" 2
    -- all of the first before any of the second
    ∷ no "20 of the first before 13 of the second" "/o/c" "/k/n" 20
    ∷ no "20 of the first before 2 of the second" "/o/c" "/none/n" 20
    ∷ no "13 of the first before 20 of the second" "/k/z" "/o/c" 13
    ∷ no "13 of the first before 2 of the second" "/k/z" "/none/n" 13
    ∷ no "2 of the first before 20 of the second" "/none" "/o/c" 2
    ∷ no "2 of the first before 13 of the second" "/none" "/k/n" 2
    -- both walks before the rest
    ∷ no "20 of the second before 16" "/" "/o/c" 20
    ∷ no "13 of the second before 16" "/" "/k/n" 13
    ∷ no "2 of the second before 16" "/" "/none/n" 2
    ∷ no "13 of the second before 17" "/b" "/k/z" 13
    ∷ no "20 of the second before 22" "/a" "/a/f/n" 20
    ∷ no "2 of the second before 22" "/a" "/a/none/n" 2
    ∷ no "20 of the second before 13" "/r/x" "/r/x/n" 20
    ∷ no "2 of the second before 13" "/r/x" "/r/none/n" 2
    ∷ no "2 of the first before 17" "/none" "/a" 2
    -- 16 of the root
    ∷ no "16: the root" "/" "/n" 16
    ∷ no "16 before it is done: / to /" "/" "/" 16
    ∷ no "16 before 17" "/" "/a" 16
    ∷ no "16 before 22" "/" "/b/n" 16
    ∷ one "16 before 13" fixed (rename "/" "/n") (is_refused 16)
    -- a node's own path: done, nothing is sent
    ∷ own "done before 17: a folder" "/a"
    ∷ own "done before 17: an open file" "/o"
    ∷ own "done before 17: two folders down" "/a/g/h"
    ∷ own "done before 13: a parent without bit 2" "/r/x"
    ∷ one "done before 13: the root without bit 2" fixed (rename "/d" "/d") (is_done 0 nothing)
    ∷ own "done, and bit 2 of the node is not asked" "/r"
    -- 17 of what is there
    ∷ no "17: the root" "/a" "/" 17
    ∷ no "17: a folder onto a file" "/b" "/o" 17
    ∷ no "17: a file onto a file" "/a/f" "/o" 17
    ∷ no "17: onto a full folder" "/b" "/a" 17
    ∷ no "17: a folder onto an empty one" "/a" "/b" 17
    ∷ no "17: a file onto an empty folder" "/a/f" "/b" 17
    ∷ no "17: onto its own folder" "/a/f" "/a" 17
    ∷ no "17 before 22: onto its child" "/a" "/a/g" 17
    ∷ no "17 before 22: onto its grandchild" "/a" "/a/g/h" 17
    ∷ no "17 before 13: the folder that it leaves" "/r/x" "/o" 17
    ∷ no "17 before 13: the folder that it enters" "/b" "/r/x" 17
    ∷ no "17 before 13: both" "/r/x" "/r/y" 17
    ∷ one "17 before 13: the root without bit 2" fixed (rename "/a" "/") (is_refused 17)
    ∷ one "17 before 36" (nested 7 29) (rename "/b" (inner "x")) (is_refused 17)
    ∷ passes "no 17: the name in another folder" w (rename "/a/f" "/b/g")
    -- 22 of a folder that would go beneath itself
    ∷ no "22: to its own child" "/a" "/a/n" 22
    ∷ no "22: to its own grandchild" "/a" "/a/g/n" 22
    ∷ no "22: an empty folder to its own child" "/b" "/b/n" 22
    ∷ no "22: one folder down" "/a/g" "/a/g/n" 22
    ∷ no "22 before 13: the folder itself without bit 2" "/r" "/r/n" 22
    ∷ no "22 before 13: its folder without bit 2" "/r/y" "/r/y/n" 22
    ∷ one "22 before 36" (nested 7 1) (rename (under "" 31) (inner "y")) (is_refused 22)
    ∷ passes "no 22: a name that begins like its own" w (rename "/a" "/aa")
    ∷ passes "no 22: a folder to the folder above" w (rename "/a/g" "/g")
    ∷ passes "no 22: a folder beside it" w (rename "/a/g" "/b/n")
    -- 13 (bit 2 of both parents), and no other bit than the walks'
    ∷ no "13: the folder that it leaves" "/r/x" "/b/x" 13
    ∷ no "13: the folder that it enters" "/a/f" "/r/f" 13
    ∷ no "13: one folder without bit 2" "/r/x" "/r/n" 13
    ∷ no "13: a folder into one without bit 2" "/a" "/r/n" 13
    ∷ one "13: out of a root without bit 2" fixed (rename "/a" "/d/a") (is_refused 13)
    ∷ one "13: into a root without bit 2" fixed (rename "/d/c" "/c") (is_refused 13)
    ∷ one "13 before 36" (nested 5 29) (rename "/b" (inner "y")) (is_refused 13)
    ∷ passes "no 13: folders with bit 2 in one without" w (rename "/r/y/q" "/r/y/n")
    ∷ passes "no 13: the bits 2 and 1, and none of the node" w (rename "/w/v" "/w/n")
    ∷ passes "no 13: the folder itself lacks bit 2" w (rename "/r" "/b/r")
    ∷ passes "no 13: the folder itself lacks bit 1" w (rename "/k" "/b/k")
    -- 36 of a path at or beneath it
    ∷ passes "no 36: a path beneath it of 255" (nested 7 28) (rename "/b" (inner "y"))
    ∷ one "36: a path beneath it of 256" (nested 7 29) (rename "/b" (inner "y")) (is_refused 36)
    ∷ passes "no 36: a long path beneath another folder" (nested 7 29) (rename "/e" (inner "y"))
    ∷ passes "no 36: its own path of 255" (nested 7 1) (rename "/e" (under seven 29))
    ∷ passes "no 36: seven folders down 255, as it was" (nested 7 1) (rename (under "" 31) (S.◌++◌ "/" (times 31 "m")))
    ∷ one "36: seven folders down 256" (nested 7 1) (rename (under "" 31) (S.◌++◌ "/" (times 32 "m"))) (is_refused 36)
    ∷ passes "no 36: a shorter path" (nested 7 1) (rename (under "" 31) "/m")
    -- the call itself is sent; parent and name are new, the record's place, id, mode and size stay (SPECIFICATION 5.2,
    -- 9.6)
    ∷ row "rename is done" w
    (rename "/a/f" "/b/n" ⇒ asks (16 ∷ 4 ∷ bytes_of "/a/f/b/n") then holds items opens then says 0 ⇒ is_done 0 nothing
    then holds (with (file 3 6 5 "n" f)) opens then stat "/a/f" ⇒ is_refused 2
    then sends_itself (stat "/b/n") then replies (stat_of 3 1 5 3) ⇒ is_done 3 (stat_of 3 1 5 3) then end)
    ∷ row "in its folder" w
    (sends_itself (rename "/a/f" "/a/n") then says 0 ⇒ is_done 0 nothing then holds (with (file 3 2 5 "n" f)) opens
    then end)
    ∷ row "into the root, a longer name" w
    (sends_itself (rename "/a/f" (under "" 32)) then says 0 ⇒ is_done 0 nothing
    then holds (with (file 3 1 5 (name 32) f)) opens then end)
    ∷ row "there and back" w
    (sends_itself (rename "/a/f" "/b/n") then says 0 ⇒ is_done 0 nothing then sends_itself (rename "/b/n" "/a/f")
    then says 0 ⇒ is_done 0 nothing then holds items opens then end)
    ∷ row "the old path is free" w
    (sends_itself (rename "/a/f" "/n") then says 0 ⇒ is_done 0 nothing then create 7 "/n" ⇒ is_refused 17
    then sends_itself (create 7 "/a/f") then gives 20 ⇒ is_done 20 nothing
    then holds (with (file 3 1 5 "n" f) ++ (file 20 2 7 "f" nothing ∷ [])) opens then end)
    -- a folder, all that is in it with it; its record may stand before its folder's
    ∷ row "a folder with all in it" (given two [])
    (sends_itself (rename "/d" "/e/n") then says 0 ⇒ is_done 0 nothing then holds turned []
    then stat "/d/f" ⇒ is_refused 2 then sends_itself (stat "/e/n/f")
    then replies (stat_of 4 1 7 1) ⇒ is_done 1 (stat_of 4 1 7 1)
    then rename "/e" "/e/n/m" ⇒ is_refused 22 then rmdir "/e" ⇒ is_refused 39
    then save 44776 ⇒ is_saved (image_of turned) then loads (image_of turned) ⇒ is_done 0 nothing then holds turned []
    then sends_itself (remove "/e/n/f") then end)
    -- a file may be open: handle, descriptor and cursor stay
    ∷ row "an open file" w
    (sends_itself (rename "/o" "/b/p") then says 0 ⇒ is_done 0 nothing
    then open_for 2 "/b/p" ⇒ is_refused 16 then read 13 1 ⇒ fetches 6 0 then gives_page (9 ∷ []) ⇒ is_done 1 (9 ∷ [])
    then remove "/b/p" ⇒ is_refused 16 then close 13 ⇒ closes 6 then says 0 ⇒ is_done 0 nothing
    then sends_itself (remove "/b/p") then end)
    ∷ row "a folder that holds an open file" (given two (opened 4 5 3 1 ∷ []))
    (sends_itself (rename "/d" "/e/n") then says 0 ⇒ is_done 0 nothing then holds turned (opened 4 5 3 1 ∷ [])
    then read 4 1 ⇒ is_done 0 nothing then end)
    -- its reply is the status 0, signed, and -28 ends no rename (SPECIFICATION 5.4, 5.5)
    ∷ answered "rename answered 0" (says 0) (is_done 0 nothing)
    ∷ answered "stop 2: rename answered -28" (says_minus 28) (is_stopped 2)
    ∷ answered "stop 2: rename answered 1" (says 1) (is_stopped 2)
    ∷ answered "stop 2: rename answered -17" (says_minus 17) (is_stopped 2)
    ∷ answered "stop 2: rename answered 65,536" (says 65536) (is_stopped 2)
    ∷ answered "stop 2: rename answered -2^31" (says 2147483648) (is_stopped 2)
    ∷ answered "stop 1: rename answered by no byte" (replies nothing) (is_stopped 1)
    ∷ answered "stop 1: rename answered by 3 bytes" (replies (0 ∷ 0 ∷ 0 ∷ [])) (is_stopped 1)
    ∷ answered "stop 1: rename answered by 5 bytes" (replies (four 0 ++ (0 ∷ []))) (is_stopped 1)
    ∷ answered "stop 1 before 2: rename answered by 8 bytes" (replies (eight 1)) (is_stopped 1)
    ∷ row "stop 2 leaves the nodes" w
    (sends_itself (rename "/a/f" "/b/n") then says_minus 28 ⇒ is_stopped 2 then holds items opens
    then rename "/a/f" "/a/f" ⇒ is_refused 5 then end)
    ∷ []

pub rows_hold : wrong rows ≡ []
unfolding wrong
rows_hold = refl
