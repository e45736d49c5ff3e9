-- Create and mkdir: their numbers in order (SPECIFICATION 7.7), and what they leave. The limit of 28 stands in `Limits`.
use Rattle.std.specs.Prelude.{◌≡◌, refl, List, [], ◌∷◌, ◌++◌, ℕ}
use Rattle.rule_examples.specs.Bytes.{bytes_of, nothing, high, slashed}
use Rattle.rule_examples.specs.Given.{Item, folder, file, root_of, root, Given, given}
use Rattle.rule_examples.specs.Events.{create, mkdir, gives}
use Rattle.rule_examples.specs.Rows.{is_done, is_refused, asks, ◌⇒◌, holds, ◌then◌, end, sends_itself, Row, row, one, passes}
use Rattle.rule_examples.specs.Evaluation.{wrong}

-- `/r` lacks bit 2 and holds `f`; `/w` has the bits 2 and 1 alone
abbrev items : List Item
items = root ∷ file 2 1 7 "a" (1 ∷ 2 ∷ 3 ∷ []) ∷ folder 3 1 5 "r" ∷ file 4 3 7 "f" nothing ∷ folder 5 1 3 "w" ∷ []

abbrev w : Given
w = given items []

-- folders one in another, the innermost of this mode
abbrev deep : (mode : ℕ) → List Item
deep m = root ∷ folder 2 1 7 "d" ∷ folder 3 2 7 "e" ∷ folder 4 3 m "g" ∷ []

abbrev pub rows : List Row
rows =
    -- 17 of a path that is there, the root too
    one "17: create /" w (create 7 "/") (is_refused 17)
    ∷ one "17: mkdir /" w (mkdir 7 "/") (is_refused 17)
    ∷ one "17: create" w (create 7 "/a") (is_refused 17)
    ∷ one "17: mkdir on a file" w (mkdir 7 "/a") (is_refused 17)
    ∷ one "17: create on a folder" w (create 7 "/r") (is_refused 17)
    ∷ one "17 before 13" w (create 7 "/r/f") (is_refused 17)
    ∷ one "17 before 13: mkdir" w (mkdir 7 "/r/f") (is_refused 17)
    ∷ passes "no 17: the name in another folder" w (create 7 "/w/a")
    -- 13 (parent bit 2), and no other bit than the walk's
    ∷ one "13: create in a folder without bit 2" w (create 7 "/r/g") (is_refused 13)
    ∷ one "13: mkdir in a folder without bit 2" w (mkdir 7 "/r/g") (is_refused 13)
    ∷ one "13: create in a root without bit 2" (given (root_of 5 ∷ []) []) (create 7 "/a") (is_refused 13)
    ∷ passes "no 13: create with the bits 2 and 1" w (create 7 "/w/g")
    ∷ passes "no 13: mkdir with the bits 2 and 1" w (mkdir 7 "/w/g")
    -- of the folder that holds it, not of one above
    ∷ one "13: create three folders down without bit 2" (given (deep 5) []) (create 7 "/d/e/g/n") (is_refused 13)
    ∷ one "17: mkdir two folders down" (given (deep 7) []) (mkdir 7 "/d/e/g") (is_refused 17)
    -- the call itself is sent; the new node is the last, empty, with the id of the reply, and the call is done with it (SPECIFICATION 5.2, 9.6)
    ∷ row "create is done" w
    (create 6 "/w/g" ⇒ asks (1 ∷ 6 ∷ bytes_of "/w/g") then gives 9 ⇒ is_done 9 nothing then holds (items ++ (file 9 5 6 "g" nothing ∷ [])) [] then end)
    ∷ row "mkdir is done" w
    (mkdir 1 "/w/g" ⇒ asks (2 ∷ 1 ∷ bytes_of "/w/g") then gives 300 ⇒ is_done 300 nothing then holds (items ++ (folder 300 5 1 "g" ∷ [])) [] then end)
    ∷ row "create in the root" w (sends_itself (create 0 "/b") then gives 6 ⇒ is_done 6 nothing then holds (items ++ (file 6 1 0 "b" nothing ∷ [])) [] then end)
    ∷ row "create three folders down" (given (deep 7) [])
    (sends_itself (create 6 "/d/e/g/n") then gives 9 ⇒ is_done 9 nothing
    then holds (deep 7 ++ (file 9 4 6 "n" nothing ∷ [])) [] then end)
    ∷ row "mkdir three folders down" (given (deep 7) [])
    (sends_itself (mkdir 5 "/d/e/g/n") then gives 9 ⇒ is_done 9 nothing
    then holds (deep 7 ++ (folder 9 4 5 "n" ∷ [])) [] then end)
    ∷ row "create, bytes over 127 in the name" (given (root ∷ []) [])
    (sends_itself (create 7 (slashed high)) then gives 2 ⇒ is_done 2 nothing
    then holds (root ∷ file 2 1 7 high nothing ∷ []) [] then create 7 (slashed high) ⇒ is_refused 17 then end)
    -- the tables change when the reply is accepted (SPECIFICATION 5.9)
    ∷ row "create that waits" w (sends_itself (create 7 "/b") then holds items [] then end)
    -- the root has id 1
    ∷ row "nodes stand in order of creation" (given (root ∷ []) [])
    (sends_itself (mkdir 7 "/d") then gives 4 ⇒ is_done 4 nothing then sends_itself (create 7 "/d/a") then gives 3 ⇒ is_done 3 nothing
    then holds (root ∷ folder 4 1 7 "d" ∷ file 3 4 7 "a" nothing ∷ []) [] then end)
    ∷ []

pub rows_hold : wrong rows ≡ []
unfolding wrong
rows_hold = refl
