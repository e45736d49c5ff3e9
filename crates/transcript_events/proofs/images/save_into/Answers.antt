-- `images::save_into` meets its contract. Assumes nothing.
use Rattle.text.specs.Ascii.{ascii}
use Rattle.transcript_events.proofs.images.save_into.Goals as goal

pub returns : goal.returns
unfolding ascii
returns c =
    let h = c.on_save-o in
    record {
      outcome = h.result;
      image = h.new.image;
      digest = h.new.digest;
      promised = h.ensures;
      said = c.set_saved.ensures;
    }
