-- `saves::load` meets its contract. Assumes nothing.
use native.Mathlib.Omega.{arith}
use mathlib.Core.Path.{refl}
use Rattle.saves.specs.laws.LoadedLaws.{load-used, load_unsealed, load-unsound, load_goes, load_refused}
use Rattle.saves.specs.laws.LoadedLaws.{load_done}
use Rattle.refusals.specs.declared.Refusal.TheVariants.{Busy, WrongDigest, BadImage}
use Rattle.saves.proofs.load.Goals as goal

pub returns-then-g-gt0 : goal.returns-then-g-gt0
returns-then-g-gt0 c =
    let a = c.args in record {
      loads = λ q hash wide.
          load_refused q a.m.now _ c.load-g.ensures a.image.now a.digest.now Busy
          (load-used q a.m.now _ c.load-g.ensures a.image.now a.digest.now c.if-g-gt0.true);
      keeps_length = refl;
    }

pub returns-then-not-same_digest : goal.returns-then-not-same_digest
returns-then-not-same_digest c =
    let a = c.args in record {
      loads = λ q hash wide.
          load_refused q a.m.now _ c.load-g.ensures a.image.now a.digest.now WrongDigest
          (load_unsealed q a.m.now _ c.load-g.ensures a.image.now a.digest.now c.if-g-gt0.false hash
          _ c.same_digest.ensures c.if-not-same_digest.true);
      keeps_length = refl;
    }

pub returns-then-not-is_sound : goal.returns-then-not-is_sound
returns-then-not-is_sound c =
    let a = c.args in record {
      loads = λ q hash wide.
          load_refused q a.m.now _ c.load-g.ensures a.image.now a.digest.now BadImage
          (load-unsound q a.m.now _ c.load-g.ensures a.image.now a.digest.now c.if-g-gt0.false hash
          _ c.same_digest.ensures c.if-not-same_digest.false wide _ c.is_sound.ensures
          c.if-not-is_sound.true);
      keeps_length = refl;
    }

pub returns : goal.returns
returns c =
    let a = c.args in record {
      loads = λ q hash wide.
          load_done q a.m.now _ c.load-g.ensures a.image.now a.digest.now c.if-g-gt0.false _ _
          c.load_image-n.ensures.loaded _
          (load_goes q a.m.now _ c.load-g.ensures a.image.now a.digest.now c.if-g-gt0.false hash _
          c.same_digest.ensures c.if-not-same_digest.false wide _ c.is_sound.ensures
          c.if-not-is_sound.false)
          (c.rest.ensures.0 q);
      keeps_length = omega arith;
    }
