-- `image_reader::are_sound` meets its contract. Assumes nothing.
use native.Mathlib.Omega.{arith}
use mathlib.Core.Path.{refl, ap, sym, ◌∙◌}
use lib.ListN.{replicate}
use Rattle.lists.specs.Cells.{zeros}
use Rattle.filesystem.specs.Image.{in_limits}
use Rattle.image_records.specs.Laid.{laid}
use Rattle.filesystem.specs.Sound.{unsound}
use Rattle.links.specs.laws.BucketLaws.{empty_indexed}
use Rattle.image_records.specs.laws.RecordLaws.{record_in, record_least}
use Rattle.image_reader.specs.laws.PlaceLaws.{first-node}
use Rattle.image_reader.specs.laws.RootedLaws.{some, no-nodes, not_root, not_limits, sound-judged, judged}
use Rattle.image_reader.proofs.are_sound.Goals as goal

pub returns-then-n-eq0 : goal.returns-then-n-eq0
returns-then-n-eq0 c = let a = c.args in no-nodes (laid a.layout) a.image.now a.n
    c.if-n-eq0.true

pub is_root-requires : goal.is_root-requires
is_root-requires c =
    let a = c.args in
    omega (arith, record_in (laid a.layout) a.image.now 4 a.n (some a.n c.if-n-eq0.false), c.requires.1)

pub returns-then-not-is_root : goal.returns-then-not-is_root
returns-then-not-is_root c =
    let a = c.args in
    not_root (laid a.layout) a.image.now a.n (some a.n c.if-n-eq0.false)
    (sym c.is_root.ensures ∙ c.if-not-is_root.true)

pub is_in_limits-requires : goal.is_in_limits-requires
is_in_limits-requires c =
    let a = c.args in
    let y = laid a.layout in
    omega (
      arith,
      record_in y a.image.now 4 a.n (some a.n c.if-n-eq0.false),
      record_least y a.image.now 4,
      c.requires.1,
    )

pub returns-then-not-is_in_limits : goal.returns-then-not-is_in_limits
returns-then-not-is_in_limits c =
    let a = c.args in
    not_limits (laid a.layout) a.image.now a.n
    (some a.n c.if-n-eq0.false)
    (sym c.is_in_limits.ensures ∙ c.if-not-is_in_limits.true)

pub are_apart-requires : goal.are_apart-requires
are_apart-requires c =
    let a = c.args in
    let d = c.locate.ensures in
    let h = some a.n c.if-n-eq0.false in (
      h,
      d,
      empty_indexed (replicate 512 0) refl (zeros 512),
      ap (in_limits a.layout.id_bytes) (first-node d h) ∙ (sym c.is_in_limits.ensures ∙ c.if-not-is_in_limits.false),
    )

pub returns-then-not-are_apart : goal.returns-then-not-are_apart
returns-then-not-are_apart c =
    let a = c.args in
    sym (unsound a.layout.id_bytes _ (c.are_apart.ensures.1 c.if-not-are_apart.true))

pub returns : goal.returns
returns c =
    let a = c.args in
    let p = c.requires in
    let d = c.locate.ensures in
    let h = some a.n c.if-n-eq0.false in
    let q = c.are_apart.ensures.0 c.if-not-are_apart.false in
    let e = sym c.is_root.ensures ∙ c.if-not-is_root.false in
    judged a.layout.id_bytes _ c.are_rooted.result c.are_rooted.ensures (λ o. sound-judged d h e p.2 q.0 o)
