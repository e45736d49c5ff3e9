-- `call_reader::read_close` meets its contract. Assumes nothing.
use Rattle.filesystem.specs.Tables.{ID_BYTES}
use Rattle.rules.specs.Calls.{close}
use Rattle.call_reader.specs.Meaning.{meant, meant_of}
use Rattle.call_reader.specs.laws.FieldLaws.{handle_wrong, handle_got}
use Rattle.call_reader.specs.laws.ReadLaws.{nothing_read}
use Rattle.call_reader.proofs.read_close.Goals as goal

pub returns-in_err-handle : goal.returns-in_err-handle
returns-in_err-handle c =
    let s = c.args.s.now in
    nothing_read c.from_residual.result s c.from_residual.ensures
    (handle_wrong ID_BYTES s c.requires.0 close c.requires.1 c.in_err-handle.ensures)

pub returns : goal.returns
unfolding meant_of meant
returns c =
    let h = c.in_ok-handle.ensures in
    (handle_got ID_BYTES c.args.s.now c.requires.0 close _ h.1 h.0, h.2)
