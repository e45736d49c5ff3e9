-- `images::answer_load` meets its contract. Assumes nothing.
use Rattle.std.specs.Prelude.{ℕ}
use Rattle.std.proofs.lemmas.List.{length-replicate}
use Rattle.text.specs.Ascii.{ascii}
use Rattle.transcript_events.specs.laws.HandedLaws.{load_handed, load_refused}
use Rattle.transcript_events.proofs.images.answer_load.Goals as goal

pub returns-in-Ok : goal.returns-in-Ok
unfolding ascii
returns-in-Ok c =
    load_handed _ _ _ _ _ _ _ _ (length-replicate {A = ℕ} 65552 0) (length-replicate {A = ℕ} 64 0) c.read_load.ensures
    _ _ _ _ _ _ c.in-Ok.is c.first.ensures.0 c.first-in-Ok.ensures.0
    (record { outcome = c.on_load-o.result; promised = c.on_load-o.ensures; said = c.set_outcome.ensures })

pub returns-in-Err : goal.returns-in-Err
returns-in-Err c =
    load_refused _ _ _ _ _ _ _ _ (length-replicate {A = ℕ} 65552 0) (length-replicate {A = ℕ} 64 0) c.read_load.ensures
    _ _ _ c.in-Err.is c.set_bad.ensures
