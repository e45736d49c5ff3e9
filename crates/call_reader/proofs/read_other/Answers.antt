-- `call_reader::read_other` meets its contract. Assumes nothing.
use native.Mathlib.Omega.{arith}
use mathlib.Core.Path.{◌∙◌}
use lib.ListN.{get_or, drop}
use Rattle.lists.specs.Pick.{pick}
use Rattle.lists.specs.EqualLaws.{bytes_of}
use Rattle.filesystem.specs.Tables.{ID_BYTES}
use Rattle.rules.specs.Calls.{read_fields}
use Rattle.call_reader.specs.Meaning.{meant, meant_of}
use Rattle.call_reader.specs.laws.FieldLaws.{kind_missing, kind_read, kind_none, of_kind}
use Rattle.call_reader.proofs.read_other.Goals as goal

pub returns-then-s-eq0 : goal.returns-then-s-eq0
unfolding meant_of meant
returns-then-s-eq0 c = (kind_missing ID_BYTES c.args.s.now c.if-s-eq0.true, tt)

pub read_write-requires : goal.read_write-requires
read_write-requires c =
    let s = c.args.s.now in
    (omega arith, bytes_of s (λ i. omega (arith, c.type_inv.s i)))

pub read_truncate-requires : goal.read_truncate-requires
read_truncate-requires c =
    let s = c.args.s.now in
    (omega arith, bytes_of s (λ i. omega (arith, c.type_inv.s i)))

pub read_on_maps-requires : goal.read_on_maps-requires
read_on_maps-requires c = (
  omega arith,
  bytes_of c.args.s.now (λ i. omega (arith, c.type_inv.s i)),
  omega arith,
  omega arith,
)

pub returns-in-7 : goal.returns-in-7
unfolding read_fields pick
returns-in-7 c =
    let s = c.args.s.now in (
      of_kind ID_BYTES 7 (get_or s 0 0) (drop 1 s) _ (omega arith) c.read_write.ensures.0
          ∙ kind_read ID_BYTES s (omega arith),
      c.read_write.ensures.1,
    )

pub returns-in-8 : goal.returns-in-8
unfolding read_fields pick
returns-in-8 c =
    let s = c.args.s.now in (
      of_kind ID_BYTES 8 (get_or s 0 0) (drop 1 s) _ (omega arith) c.read_truncate.ensures.0
          ∙ kind_read ID_BYTES s (omega arith),
      c.read_truncate.ensures.1,
    )

pub returns-in-16 : goal.returns-in-16
unfolding read_fields pick
returns-in-16 c =
    let s = c.args.s.now in (
      of_kind ID_BYTES 16 (get_or s 0 0) (drop 1 s) _ (omega arith) c.read_rename.ensures.0
          ∙ kind_read ID_BYTES s (omega arith),
      c.read_rename.ensures.1,
    )

pub returns-in-1-to-3 : goal.returns-in-1-to-3
returns-in-1-to-3 c =
    let s = c.args.s.now in
    (c.read_opening.ensures.0 ∙ kind_read ID_BYTES s (omega arith), c.read_opening.ensures.1)

pub returns-in-9-to-13 : goal.returns-in-9-to-13
returns-in-9-to-13 c =
    let s = c.args.s.now in
    (c.read_by_path.ensures.0 ∙ kind_read ID_BYTES s (omega arith), c.read_by_path.ensures.1)

pub returns-in-14-to-15 : goal.returns-in-14-to-15
returns-in-14-to-15 c =
    let s = c.args.s.now in
    (c.read_on_maps.ensures.0 ∙ kind_read ID_BYTES s (omega arith), c.read_on_maps.ensures.1)

-- what is left has no such kind
pub returns-in_default : goal.returns-in_default
unfolding meant_of meant
returns-in_default c =
    let s = c.args.s.now in
    (kind_none ID_BYTES (get_or s 0 0) (drop 1 s) (λ h. omega arith) ∙ kind_read ID_BYTES s (omega arith), tt)

pub returns-in_default-3 : goal.returns-in_default-3
unfolding meant_of meant
returns-in_default-3 c =
    let s = c.args.s.now in
    (kind_none ID_BYTES (get_or s 0 0) (drop 1 s) (λ h. omega arith) ∙ kind_read ID_BYTES s (omega arith), tt)
