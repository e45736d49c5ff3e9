-- The numbers that come before all others (SPECIFICATION 7.2 to 7.5).
use Rattle.std.specs.Prelude.{◌≡◌, refl, List, [], ◌∷◌, ℕ}
use Rattle.rules.specs.Skeleton.{save}
use Rattle.rule_examples.specs.Bytes.{nothing, under}
use Rattle.rule_examples.specs.Given.{file, root, opened, Given, given, image_of}
use Rattle.rule_examples.specs.Events.{call_of, lent, create, close, seek, says, gives, load, loads}
use Rattle.rule_examples.specs.Rows.{is_done, is_saved, is_refused, is_stopped, ◌⇒◌, holds, ◌then◌, end, sends_itself, Row, row, one, passes}
use Rattle.rule_examples.specs.Evaluation.{wrong}

-- `/a` is open, `/b` not
abbrev two : Given
two = given (root ∷ file 2 1 7 "a" nothing ∷ file 3 1 7 "b" nothing ∷ []) (opened 2 5 3 0 ∷ [])

abbrev quiet : Given
quiet = given (root ∷ []) []

-- no call and no image
abbrev empty : List ℕ
empty = []

abbrev pub rows : List Row
rows =
    -- after a stop each event is refused 5, before 61, 34, 22, 16 and 74, and the tables are those of before
    row "5 after a stop" two
    (sends_itself (create 7 "/c") then gives 1 ⇒ is_stopped 3
    then create 7 "/c" ⇒ is_refused 5 then gives 4 ⇒ is_refused 5 then save 44776 ⇒ is_refused 5 then loads empty ⇒ is_refused 5
    then close 2 ⇒ is_refused 5
    then holds (root ∷ file 2 1 7 "a" nothing ∷ file 3 1 7 "b" nothing ∷ []) (opened 2 5 3 0 ∷ []) then end)
    ∷ row "5 before 34 and 22" two
    (sends_itself (create 7 "/c") then gives 1 ⇒ is_stopped 3 then lent 0 0 (create 7 "/c") ⇒ is_refused 5 then call_of empty ⇒ is_refused 5 then lent 0 0 (gives 4) ⇒ is_refused 5 then end)
    ∷ row "5 before 16 and 34: save" two (sends_itself (create 7 "/c") then gives 1 ⇒ is_stopped 3 then save 0 ⇒ is_refused 5 then end)
    ∷ row "5 before 74: load" quiet (sends_itself (create 7 "/c") then gives 1 ⇒ is_stopped 3 then load empty empty ⇒ is_refused 5 then end)
    -- 114 while a request is pending; before 34, 22, 16, 74 and 84
    ∷ row "114 while a request stands" two
    (sends_itself (create 7 "/c") then create 7 "/d" ⇒ is_refused 114 then seek 2 0 ⇒ is_refused 114 then save 44776 ⇒ is_refused 114
    then load empty empty ⇒ is_refused 114 then gives 4 ⇒ is_done 4 nothing then end)
    ∷ row "114 before 34 and 22" two (sends_itself (create 7 "/c") then lent 0 0 (create 7 "/d") ⇒ is_refused 114 then call_of empty ⇒ is_refused 114 then end)
    ∷ row "114 before 34: save" quiet (sends_itself (create 7 "/c") then save 0 ⇒ is_refused 114 then end)
    ∷ row "114 before 84: load" quiet (sends_itself (create 7 "/c") then loads empty ⇒ is_refused 114 then end)
    ∷ row "114 no more after the reply" quiet
    (sends_itself (create 7 "/c") then gives 2 ⇒ is_done 2 nothing then sends_itself (create 7 "/d") then gives 3 ⇒ is_done 3 nothing
    then save 44776 ⇒ is_saved (image_of (root ∷ file 2 1 7 "c" nothing ∷ file 3 1 7 "d" nothing ∷ [])) then end)
    -- 61 of a reply while none is; before 34
    ∷ one "61 with no request" quiet (says 0) (is_refused 61)
    ∷ one "61 before 34" quiet (lent 0 0 (says 0)) (is_refused 61)
    ∷ row "61 after the last reply" quiet (sends_itself (create 7 "/c") then gives 2 ⇒ is_done 2 nothing then gives 3 ⇒ is_refused 61 then end)
    ∷ row "61 after a call that sends nothing" two (seek 2 0 ⇒ is_done 0 nothing then says 0 ⇒ is_refused 61 then end)
    -- 34 below 9,690 and 1,037, on every call
    ∷ one "34: answer buffer of 9,689" quiet (lent 9689 1037 (create 7 "/c")) (is_refused 34)
    ∷ one "34: request buffer of 1,036" quiet (lent 9690 1036 (create 7 "/c")) (is_refused 34)
    ∷ passes "buffers of 9,690 and 1,037" quiet (lent 9690 1037 (create 7 "/c"))
    ∷ one "34 where neither is needed" two (lent 9690 0 (seek 2 0)) (is_refused 34)
    ∷ one "34 before 22" quiet (lent 9689 1037 (call_of empty)) (is_refused 34)
    ∷ one "34 before 36" quiet (lent 9690 1036 (create 7 (under "" 33))) (is_refused 34)
    ∷ one "34 before 9" quiet (lent 0 1037 (close 2)) (is_refused 34)
    -- and on every reply; the request stays pending
    ∷ row "34: a reply's answer buffer" quiet (sends_itself (create 7 "/c") then lent 9689 1037 (gives 2) ⇒ is_refused 34 then gives 2 ⇒ is_done 2 nothing then end)
    ∷ row "34: a reply's request buffer" quiet (sends_itself (create 7 "/c") then lent 9690 1036 (gives 2) ⇒ is_refused 34 then gives 2 ⇒ is_done 2 nothing then end)
    ∷ row "34 before a stop" quiet (sends_itself (create 7 "/c") then lent 9690 1036 (gives 1) ⇒ is_refused 34 then gives 2 ⇒ is_done 2 nothing then end)
    -- a refusal changes nothing
    ∷ row "a refusal changes nothing" two
    (create 7 "/a" ⇒ is_refused 17 then seek 2 1 ⇒ is_refused 22 then save 44776 ⇒ is_refused 16
    then holds (root ∷ file 2 1 7 "a" nothing ∷ file 3 1 7 "b" nothing ∷ []) (opened 2 5 3 0 ∷ []) then end)
    ∷ []

pub rows_hold : wrong rows ≡ []
unfolding wrong
rows_hold = refl
