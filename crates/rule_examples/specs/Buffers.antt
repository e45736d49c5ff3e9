-- Lent buffers: longer ones than the least (SPECIFICATION 6.2), and what stands in them afterwards (6.3, 8.1).
use Rattle.std.specs.Prelude.{◌≡◌, refl, List, [], ◌∷◌, ℕ}
use Rattle.lists.specs.Parts.{overwrite}
use Rattle.rules.specs.Skeleton.{save, done, ask, refused, stopped, answer_bytes, Buffers, buffers_after, image_after}
use Rattle.rule_examples.specs.Bytes.{nothing}
use Rattle.rule_examples.specs.Given.{file, root, opened, Given, given, image_of}
use Rattle.rule_examples.specs.Events.{lent, create, seek, gives}
use Rattle.rule_examples.specs.Rows.{is_done, is_saved, is_refused, ◌⇒◌, ◌then◌, end}
use Rattle.rule_examples.specs.Rows.{sends_itself, Row, row, one, passes}
use Rattle.rule_examples.specs.Evaluation.{wrong}

abbrev quiet : Given
quiet = given (root ∷ []) []

abbrev pub rows : List Row
rows =
    -- longer buffers serve, each beside the other's least length and beside a longer one
    passes "a longer answer buffer" quiet (lent 9691 1037 (create 7 "/c"))
    ∷ passes "a longer request buffer" quiet (lent 9690 1038 (create 7 "/c"))
    ∷ passes "two much longer buffers" quiet (lent 4294967296 4294967296 (create 7 "/c"))
    ∷ row "longer buffers with a reply" quiet
    (sends_itself (create 7 "/c") then lent 9691 1037 (gives 2) ⇒ is_done 2 nothing
    then sends_itself (create 7 "/d") then lent 9690 1038 (gives 3) ⇒ is_done 3 nothing then end)
    ∷ one "longer buffers where neither is needed" (given (root ∷ file 2 1 7 "a" nothing ∷ []) (opened 2 5 3 0 ∷ []))
    (lent 10000 2000 (seek 2 0)) (is_done 0 nothing)
    -- a long one does not make up for a short one
    ∷ one "34: a longer answer buffer" quiet (lent 100000 1036 (create 7 "/c")) (is_refused 34)
    ∷ one "34: a longer request buffer" quiet (lent 9689 100000 (create 7 "/c")) (is_refused 34)
    ∷ row "34: a reply's longer buffers" quiet
    (sends_itself (create 7 "/c") then lent 100000 1036 (gives 2) ⇒ is_refused 34
    then lent 9689 100000 (gives 2) ⇒ is_refused 34 then gives 2 ⇒ is_done 2 nothing then end)
    -- a save's own buffer
    ∷ one "a longer buffer of a save" quiet (save 4294967296) (is_saved (image_of (root ∷ [])))
    ∷ []

pub rows_hold : wrong rows ≡ []
unfolding wrong
rows_hold = refl

-- The buffers afterwards: the front of one is written, nothing behind it and nothing in the other.
abbrev lent_with : (answer request : List ℕ) → Buffers
lent_with a q = record { answer = a; request = q }

abbrev before : Buffers
before = lent_with (201 ∷ 202 ∷ 203 ∷ 204 ∷ []) (211 ∷ 212 ∷ 213 ∷ [])

pub after_done : buffers_after (done 7 (1 ∷ 2 ∷ [])) before ≡ lent_with (1 ∷ 2 ∷ 203 ∷ 204 ∷ []) (211 ∷ 212 ∷ 213 ∷ [])
unfolding buffers_after overwrite
after_done = refl

pub after_done_without_bytes : buffers_after (done 300 nothing) before ≡ before
unfolding buffers_after overwrite
after_done_without_bytes = refl

pub after_ask : buffers_after (ask (1 ∷ 2 ∷ [])) before ≡ lent_with (201 ∷ 202 ∷ 203 ∷ 204 ∷ []) (1 ∷ 2 ∷ 213 ∷ [])
unfolding buffers_after overwrite
after_ask = refl

pub after_full_ask : buffers_after (ask (1 ∷ 2 ∷ 3 ∷ [])) before ≡ lent_with (201 ∷ 202 ∷ 203 ∷ 204 ∷ []) (1 ∷ 2 ∷ 3 ∷ [])
unfolding buffers_after overwrite
after_full_ask = refl

pub after_refused : buffers_after (refused 22) before ≡ before
unfolding buffers_after
after_refused = refl

pub after_stopped : buffers_after (stopped 1) before ≡ before
unfolding buffers_after
after_stopped = refl

-- a save's own buffer
pub after_save : image_after (done 2 (1 ∷ 2 ∷ [])) (201 ∷ 202 ∷ 203 ∷ []) ≡ 1 ∷ 2 ∷ 203 ∷ []
unfolding image_after answer_bytes overwrite
after_save = refl

pub after_refused_save : image_after (refused 34) (201 ∷ 202 ∷ []) ≡ 201 ∷ 202 ∷ []
unfolding image_after answer_bytes overwrite
after_refused_save = refl
