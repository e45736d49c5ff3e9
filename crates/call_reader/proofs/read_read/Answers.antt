-- `call_reader::read_read` meets its contract. Assumes nothing.
use native.Mathlib.Omega.{arith}
use lib.Dec.{leb}
use borrow.Author.Tests.{le-leb, lt-leb}
use Rattle.filesystem.specs.Tables.{ID_BYTES, DATA_BYTES}
use Rattle.rules.specs.Calls.{read}
use Rattle.call_reader.specs.Meaning.{meant, meant_of}
use Rattle.call_reader.specs.laws.FieldLaws.{pair_wrong, pair_allowed, pair_refused}
use Rattle.call_reader.specs.laws.ReadLaws.{nothing_read}
use Rattle.call_reader.proofs.read_read.Goals as goal

pub returns-in_err-handle : goal.returns-in_err-handle
returns-in_err-handle c =
    let s = c.args.s.now in
    nothing_read c.from_residual.result s c.from_residual.ensures
    (pair_wrong ID_BYTES s c.requires.0 4 (λ n. leb n DATA_BYTES) read c.requires.1 c.in_err-handle.ensures)

pub returns-then-count-gt-DATA_BYTES : goal.returns-then-count-gt-DATA_BYTES
unfolding meant_of
returns-then-count-gt-DATA_BYTES c =
    let h = c.in_ok-handle.ensures in (
      pair_refused ID_BYTES c.args.s.now c.requires.0 4 (λ n. leb n DATA_BYTES) read _ _ h.1
          c.u32_at-count.ensures h.0 (lt-leb c.u32_at-count.result DATA_BYTES (omega arith)),
      tt,
    )

pub returns : goal.returns
unfolding meant_of meant
returns c =
    let h = c.in_ok-handle.ensures in (
      pair_allowed ID_BYTES c.args.s.now c.requires.0 4 (λ n. leb n DATA_BYTES) read _ _ h.1
          c.u32_at-count.ensures h.0 (le-leb c.u32_at-count.result DATA_BYTES (omega arith)),
      (h.2, omega arith),
    )
