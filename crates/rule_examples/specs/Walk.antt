-- The walk along a path: 20, 13, 2 at each component (SPECIFICATION 7.6).
use Rattle.std.specs.Prelude.{◌≡◌, refl, List, [], ◌∷◌}
use Rattle.rule_examples.specs.Bytes.{nothing, high, lowered, slashed}
use Rattle.rule_examples.specs.Given.{Item, folder, file, root_of, root, Given, given}
use Rattle.rule_examples.specs.Events.{create, mkdir, open_for, remove, rmdir, chmod, readdir, stat}
use Rattle.rule_examples.specs.Rows.{is_refused, Row, one, passes}
use Rattle.rule_examples.specs.Evaluation.{wrong}

-- `/a`, `/n` without bit 1, `/abc` and one with bytes over 127 in its name are files; `/d` is a folder that holds `b`;
-- `/x` one without bit 1 that holds `f` and the folder `g`; `/y` one with bit 1 alone that holds `f`
abbrev items : List Item
items =
    root ∷ file 2 1 7 "a" nothing ∷ file 3 1 6 "n" nothing ∷ folder 4 1 7 "d" ∷ file 5 4 7 "b" nothing
    ∷ folder 6 1 6 "x" ∷ file 7 6 7 "f" nothing ∷ folder 8 1 1 "y" ∷ file 9 8 7 "f" nothing
    ∷ file 10 1 7 "abc" nothing ∷ folder 11 6 7 "g" ∷ file 12 1 7 high nothing ∷ []

abbrev w : Given
w = given items []

-- `/d/x` and `/d/e/x` lack bit 1 and hold `f`; `/d/e/g` has bit 1 alone and holds `f`
abbrev deep : Given
deep =
    given
    (root ∷ folder 2 1 7 "d" ∷ folder 3 2 6 "x" ∷ file 4 3 7 "f" nothing ∷ folder 5 2 7 "e" ∷ folder 6 5 6 "x"
    ∷ file 7 6 7 "f" nothing ∷ folder 8 5 1 "g" ∷ file 9 8 7 "f" nothing ∷ [])
    []

-- `/y` has bit 1 alone and holds `f`, the folder `r` with bit 4 alone, and the folder `w` with the bits 2 and 1; this
-- holds `f` and the folder `g`
abbrev narrow : Given
narrow =
    given
    (root ∷ folder 2 1 1 "y" ∷ file 3 2 7 "f" nothing ∷ folder 4 2 4 "r" ∷ folder 5 2 3 "w"
    ∷ file 6 5 7 "f" nothing ∷ folder 7 5 7 "g" ∷ [])
    []

-- the root without bit 1
abbrev shut : Given
shut = given (root_of 6 ∷ file 2 1 7 "a" nothing ∷ []) []

-- the root without any bit
abbrev bare : Given
bare = given (root_of 0 ∷ []) []

abbrev pub rows : List Row
rows =
    -- 20 behind a file
    one "20: through a file" w (stat "/a/b") (is_refused 20)
    ∷ one "20: through a file in a folder" w (stat "/d/b/c") (is_refused 20)
    ∷ one "20 before 13" w (stat "/n/b") (is_refused 20)
    ∷ passes "no 20: through a folder" w (stat "/d/b")
    -- 13 without bit 1 of a directory on the way
    ∷ one "13: without bit 1" w (stat "/x/f") (is_refused 13)
    ∷ one "13 before 2" w (stat "/x/none") (is_refused 13)
    ∷ passes "no 13: bit 1 alone" w (stat "/y/f")
    ∷ one "13: the root without bit 1" shut (stat "/a") (is_refused 13)
    ∷ passes "no bit on the way to the root" shut (stat "/")
    ∷ one "no bit on the way to the root: create" bare (create 7 "/") (is_refused 17)
    ∷ one "no bit on the way to the root: mkdir" bare (mkdir 7 "/") (is_refused 17)
    ∷ one "no bit on the way to the root: open" bare (open_for 1 "/") (is_refused 21)
    ∷ one "no bit on the way to the root: remove" bare (remove "/") (is_refused 21)
    ∷ one "no bit on the way to the root: rmdir" bare (rmdir "/") (is_refused 16)
    ∷ passes "no bit on the way to the root: chmod" bare (chmod 7 "/")
    -- 2 where the directory does not hold it
    ∷ one "2: no such child" w (stat "/none") (is_refused 2)
    ∷ one "2: no such child of a folder" w (stat "/d/none") (is_refused 2)
    ∷ one "2: a child of another folder" w (stat "/b") (is_refused 2)
    ∷ one "2: a longer name" w (stat "/aa") (is_refused 2)
    ∷ one "2: the beginning of a name" w (stat "/ab") (is_refused 2)
    ∷ one "2: the end of a name" w (stat "/bc") (is_refused 2)
    ∷ one "2: one letter more" w (stat "/abcd") (is_refused 2)
    ∷ one "2: the last letter differs" w (stat "/abd") (is_refused 2)
    ∷ one "2: a capital letter" w (stat "/A") (is_refused 2)
    ∷ passes "the whole name" w (stat "/abc")
    ∷ passes "create: the beginning of a name" w (create 7 "/ab")
    ∷ passes "mkdir: one letter more" w (mkdir 7 "/abcd")
    ∷ passes "a name with bytes over 127" w (stat (slashed high))
    ∷ one "2: bytes over 127 that differ in one bit" w (stat (slashed lowered)) (is_refused 2)
    ∷ one "2: absent in the middle" w (stat "/none/b") (is_refused 2)
    -- each component, from the left
    ∷ one "13 at the first component" w (stat "/x/f/c") (is_refused 13)
    ∷ one "2 at the first component" w (stat "/none/f/c") (is_refused 2)
    -- one folder down, and two
    ∷ one "13: one folder down" deep (stat "/d/x/f") (is_refused 13)
    ∷ one "13: two folders down" deep (stat "/d/e/x/f") (is_refused 13)
    ∷ one "13 before 2: two folders down" deep (stat "/d/e/x/none") (is_refused 13)
    ∷ passes "no 13: bit 1 alone, two folders down" deep (stat "/d/e/g/f")
    ∷ passes "no 13: the folder itself lacks bit 1" deep (stat "/d/e/x")
    ∷ one "20: three folders down" deep (stat "/d/e/g/f/c") (is_refused 20)
    ∷ one "2: two folders down" deep (stat "/d/e/none") (is_refused 2)
    ∷ one "2: absent in the middle, two folders down" deep (stat "/d/e/none/f") (is_refused 2)
    -- the last may be missing for create and mkdir
    ∷ passes "create: the last absent" w (create 7 "/d/none")
    ∷ passes "mkdir: the last absent" w (mkdir 7 "/d/none")
    ∷ one "2: create, the one before absent" w (create 7 "/none/b") (is_refused 2)
    ∷ one "2: mkdir, the one before absent" w (mkdir 7 "/none/b") (is_refused 2)
    ∷ one "20: create in a file" w (create 7 "/a/b") (is_refused 20)
    ∷ one "20 before 13: create in a file" w (create 7 "/n/b") (is_refused 20)
    ∷ one "13: create without bit 1" w (create 7 "/x/none") (is_refused 13)
    ∷ one "13 before 17: create without bit 1" w (create 7 "/x/f") (is_refused 13)
    ∷ one "13 before 2: create deeper without bit 1" w (create 7 "/x/none/c") (is_refused 13)
    ∷ one "13: create in a root without bit 1" shut (create 7 "/n") (is_refused 13)
    ∷ one "13: create one folder down" deep (create 7 "/d/x/none") (is_refused 13)
    ∷ one "13: create two folders down" deep (create 7 "/d/e/x/none") (is_refused 13)
    ∷ one "13: mkdir two folders down" deep (mkdir 7 "/d/e/x/none") (is_refused 13)
    ∷ one "13 before 20: create deeper without bit 1" deep (create 7 "/d/x/f/c") (is_refused 13)
    ∷ one "20: create in a file, three folders down" deep (create 7 "/d/e/g/f/c") (is_refused 20)
    ∷ one "2: create, absent two folders down" deep (create 7 "/d/e/none/c") (is_refused 2)
    -- of a folder on the way bit 1 is asked and no other; bit 2 is asked of the last alone
    ∷ passes "bit 1 alone on the way: open" narrow (open_for 3 "/y/f")
    ∷ passes "bit 1 alone on the way: chmod" narrow (chmod 0 "/y/f")
    ∷ passes "bit 1 alone on the way: stat" narrow (stat "/y/f")
    ∷ passes "bit 1 alone on the way: readdir" narrow (readdir "/y/r")
    ∷ passes "bit 1 alone on the way: create" narrow (create 7 "/y/w/none")
    ∷ passes "bit 1 alone on the way: mkdir" narrow (mkdir 7 "/y/w/none")
    ∷ passes "bit 1 alone on the way: remove" narrow (remove "/y/w/f")
    ∷ passes "bit 1 alone on the way: rmdir" narrow (rmdir "/y/w/g")
    ∷ one "13: create in a folder with bit 1 alone" narrow (create 7 "/y/none") (is_refused 13)
    ∷ one "13: remove in a folder with bit 1 alone" narrow (remove "/y/f") (is_refused 13)
    ∷ one "13: rmdir in a folder with bit 1 alone" narrow (rmdir "/y/w") (is_refused 13)
    -- every call by path walks; its own numbers come after
    ∷ one "13 before 21: open" w (open_for 1 "/x/g") (is_refused 13)
    ∷ one "13 before 21: remove" w (remove "/x/g") (is_refused 13)
    ∷ one "13 before 20: rmdir" w (rmdir "/x/f") (is_refused 13)
    ∷ one "13 before 20: readdir" w (readdir "/x/f") (is_refused 13)
    ∷ one "20: open" w (open_for 1 "/a/b") (is_refused 20)
    ∷ one "13: open" w (open_for 1 "/x/f") (is_refused 13)
    ∷ one "2: open" w (open_for 1 "/none") (is_refused 2)
    ∷ one "20: remove" w (remove "/a/b") (is_refused 20)
    ∷ one "13: remove" w (remove "/x/f") (is_refused 13)
    ∷ one "2: remove" w (remove "/none") (is_refused 2)
    ∷ one "20: rmdir through a file" w (rmdir "/a/b") (is_refused 20)
    ∷ one "13: rmdir" w (rmdir "/x/g") (is_refused 13)
    ∷ one "2: rmdir" w (rmdir "/none") (is_refused 2)
    ∷ one "20: chmod" w (chmod 7 "/a/b") (is_refused 20)
    ∷ one "13: chmod" w (chmod 7 "/x/f") (is_refused 13)
    ∷ one "2: chmod" w (chmod 7 "/none") (is_refused 2)
    ∷ one "20: readdir through a file" w (readdir "/a/b") (is_refused 20)
    ∷ one "13: readdir on the way" w (readdir "/x/g") (is_refused 13)
    ∷ one "2: readdir" w (readdir "/none") (is_refused 2)
    ∷ []

pub rows_hold : wrong rows ≡ []
unfolding wrong
rows_hold = refl
