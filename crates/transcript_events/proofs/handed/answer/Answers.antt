-- `handed::answer` meets its contract. Assumes nothing.
use Rattle.std.specs.Prelude.{ℕ}
use Rattle.std.proofs.lemmas.List.{length-replicate}
use Rattle.transcript_events.specs.laws.HandedLaws.{digits_answered, digits_refused}
use Rattle.transcript_events.proofs.handed.answer.Goals as goal

pub returns-in-Ok : goal.returns-in-Ok
returns-in-Ok c =
    let d = c.decode.ensures in
    digits_answered _ _ _ _ _ (length-replicate {A = ℕ} 65552 0) d.answer d.left _ _ _ _ _ _ _ _ c.in-Ok.is
    c.first.ensures.0 c.answer_bytes.ensures

pub returns-in-Err : goal.returns-in-Err
returns-in-Err c =
    let d = c.decode.ensures in
    digits_refused _ _ _ _ _ (length-replicate {A = ℕ} 65552 0) d.answer d.left _ _ _ _ _ _ c.in-Err.is
    c.set_bad.ensures
