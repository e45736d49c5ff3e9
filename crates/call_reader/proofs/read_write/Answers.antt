-- `call_reader::read_write` meets its contract. Assumes nothing.
use native.Mathlib.Omega.{arith}
use Rattle.filesystem.specs.Tables.{ID_BYTES}
use Rattle.rules.specs.Calls.{write}
use Rattle.call_reader.specs.Meaning.{meant, meant_of}
use Rattle.call_reader.specs.laws.FieldLaws.{number_below, data_short, data_long, data_got}
use Rattle.call_reader.proofs.read_write.Goals as goal
use Rattle.call_reader.proofs.read_write.Goals.{then-s-lt-AFTER_HANDLE-via-then-s-lt-AFTER_HANDLE}
use Rattle.call_reader.proofs.read_write.Goals.{then-s-lt-AFTER_HANDLE-via-else-s-lt-AFTER_HANDLE+then-s-gt-DATA_BYTES}

pub returns-then-s-lt-AFTER_HANDLE : goal.returns-then-s-lt-AFTER_HANDLE
unfolding meant_of
returns-then-s-lt-AFTER_HANDLE c =
    let s = c.args.s.now in (
      elim c.then-s-lt-AFTER_HANDLE.branch [
        | then-s-lt-AFTER_HANDLE-via-then-s-lt-AFTER_HANDLE w ↦
            data_short ID_BYTES s c.requires.0 write w.if-s-lt-AFTER_HANDLE.true
        | then-s-lt-AFTER_HANDLE-via-else-s-lt-AFTER_HANDLE+then-s-gt-DATA_BYTES w ↦
            data_long ID_BYTES s c.requires.0 write w.if-s-lt-AFTER_HANDLE.false w.if-s-gt-DATA_BYTES.true
      ],
      tt,
    )

pub returns : goal.returns
unfolding meant_of meant
returns c =
    let a = c.args in
    let p = c.requires in (
      data_got ID_BYTES a.s.now p.0 write _ c.number_at-handle.ensures (omega arith) (omega arith),
      (number_below ID_BYTES 1 a.s.now _ p.1 (omega arith) c.number_at-handle.ensures, omega arith, omega arith),
    )
