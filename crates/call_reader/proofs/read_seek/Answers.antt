-- `call_reader::read_seek` meets its contract. Assumes nothing.
use Prim.Native.Nat.{◌+◌}
use mathlib.Core.Path.{refl}
use mathlib.Core.Bool.{true}
use native.Mathlib.Omega.{arith}
use Rattle.filesystem.specs.Tables.{ID_BYTES}
use Rattle.rules.specs.Calls.{seek}
use Rattle.call_reader.specs.Meaning.{meant, meant_of}
use Rattle.call_reader.specs.laws.FieldLaws.{number_below, pair_wrong, pair_allowed}
use Rattle.call_reader.specs.laws.ReadLaws.{nothing_read}
use Rattle.call_reader.proofs.read_seek.Goals as goal

pub returns-in_err-handle : goal.returns-in_err-handle
returns-in_err-handle c =
    let s = c.args.s.now in
    nothing_read c.from_residual.result s c.from_residual.ensures
    (pair_wrong ID_BYTES s c.requires.0 8 (λ n. true) seek c.requires.1 c.in_err-handle.ensures)

pub returns : goal.returns
unfolding meant_of meant
returns c =
    let s = c.args.s.now in
    let p = c.requires in
    let h = c.in_ok-handle.ensures in (
      pair_allowed ID_BYTES s p.0 8 (λ n. true) seek _ _ h.1 c.u64_at-position.ensures h.0 refl,
      (h.2, number_below 8 (1 + ID_BYTES) s _ p.1 (omega (arith, h.0)) c.u64_at-position.ensures),
    )
