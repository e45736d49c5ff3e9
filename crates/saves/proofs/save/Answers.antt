-- `saves::save` meets its contract. Assumes nothing.
use native.Mathlib.Omega.{arith}
use mathlib.Core.Path.{refl}
use Rattle.guard_state.specs.laws.LoadedLaws.{counts_fit}
use Rattle.saves.specs.laws.SavedLaws.{image-held, save_never, save_used, save_short, save_goes, save_refused}
use Rattle.saves.specs.laws.SavedLaws.{save_done}
use borrow.Author.Rules.{rules}
use Rattle.refusals.specs.declared.Refusal.TheVariants.{Busy, ShortBuffer}
use Rattle.saves.proofs.save.Goals as goal

pub returns-then-g-gt0 : goal.returns-then-g-gt0
returns-then-g-gt0 c =
    let a = c.args in record {
      saves = λ q hash wide few. save_refused q a.m.now a.image.now a.digest.now Busy
          (save_used q a.m.now _ c.load-g.ensures _ c.if-g-gt0.true);
      keeps_length = refl;
    }

pub image_length-requires : goal.image_length-requires
image_length-requires c =
    let a = c.args in
    let h = counts_fit a.m.now _ c.load-g.ensures in
    search rules

pub returns-then-image-image_length : goal.returns-then-image-image_length
returns-then-image-image_length c =
    let a = c.args in record {
      saves = λ q hash wide few.
          save_refused q a.m.now a.image.now a.digest.now ShortBuffer
          (save_short q a.m.now _ c.load-g.ensures c.if-g-gt0.false wide _ _
          c.image_length.ensures c.if-image-image_length.true);
      keeps_length = refl;
    }

pub first_page-requires : goal.first_page-requires
first_page-requires c =
    let a = c.args in
    ((counts_fit a.m.now _ c.load-g.ensures).0, omega arith)

pub returns-then-first_page-gt-PAGES : goal.returns-then-first_page-gt-PAGES
returns-then-first_page-gt-PAGES c =
    let a = c.args in record {
      saves = λ q hash wide few. save_never q a.m.now _ c.load-g.ensures a.image.now a.digest.now _ few
          c.first_page.ensures.0 c.if-first_page-gt-PAGES.true;
      keeps_length = refl;
    }

pub put_image-l-requires : goal.put_image-l-requires
put_image-l-requires c =
    let a = c.args in (
      (counts_fit a.m.now _ c.load-g.ensures).0,
      omega arith,
      omega (arith, c.first_page.ensures.0, c.if-first_page-gt-PAGES.false),
      omega (arith, c.image_length.ensures, c.if-image-image_length.false),
      omega arith,
    )

pub returns : goal.returns
returns c =
    let a = c.args in record {
      saves = λ q hash wide few.
          save_done q a.m.now a.image.now a.digest.now _ _ _ _ _ hash
          (save_goes q a.m.now _ c.load-g.ensures c.if-g-gt0.false wide _ _
          c.image_length.ensures c.if-image-image_length.false)
          (image-held q a.m.now _ c.load-g.ensures wide (omega (arith, c.first_page.ensures.0, c.if-first_page-gt-PAGES.false)))
          (c.finish.ensures.0 q) c.put_image-l.ensures.0 c.put_image-l.ensures.1 c.put_image-l.ensures.2;
      keeps_length = omega arith;
    }
