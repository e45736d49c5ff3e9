-- What a load brings back: what one guard saved, any other loads; and what is loaded, some valid guard would save.
-- Assumes nothing.
use Rattle.std.specs.Prelude.{◌≡◌, Bool, true, false, not, ℕ}
use Rattle.std.proofs.Math.Path.{refl, ap}
use Rattle.std.proofs.Common.{◌∙◌, subst, true≢false}
use mathlib.Core.List.{List, [], map-id}
use Rattle.std.proofs.Math.Option.{Option, some, none as nothing}
use borrow.Author.Tests.{eqb-true}
use Rattle.lists.specs.Equal.{equal_true, and_snd}
use Rattle.lists.specs.All.{Bytes, both}
use Rattle.lists.specs.Checks.{Passed, decide_passed}
use Rattle.filesystem.specs.Image.{Image, saved, Version, current, layout_of, flatten, divide, sound_nodes, sound}
use Rattle.filesystem.specs.Image.{print, parse}
use Rattle.filesystem.specs.ImageLaws.{divide-flatten, flatten-divide, parse-was-printed}
use Rattle.rules.specs.Requests.{idle}
use Rattle.rules.specs.Skeleton.{Config, load, done, plain}
use Rattle.rules.specs.Rules.{refuse, loading, is_none, image_or, event_checks, event_action, judge}
use Rattle.machine.specs.Machine.{State, image_of, apply, step, guard}
use Rattle.machine.proofs.StateProperties.{load-judged}
use Rattle.machine.specs.Held.{Holds}
use Rattle.machine.proofs.EventLaws.{is_refusal, not_refused}

-- A guard that runs, waits for nothing and has no file open loads what another saved, whatever it held: to the same nodes and digests.
module _ (c : Config) (g h : State (guard c)) (v : Holds c g) (running : h.skeleton.stopped ≡ false) (quiet : h.skeleton.pending ≡ idle)
    (closed : h.skeleton.tables.opens ≡ []) where
  abbrev written : List ℕ
  written = image_of c (guard c) g

  pub load_restores : ((step c (guard c) h (load current written (c.digest written))).outcome ≡ plain (done 0 []))
      × ((step c (guard c) h (load current written (c.digest written))).state.skeleton.tables.nodes
      ≡ g.skeleton.tables.nodes)
      × ((step c (guard c) h (load current written (c.digest written))).state.contents ≡ g.contents)
  unfolding step apply
  load_restores =
      let judged = load-judged c g h v running quiet closed in (
        ap (λ m. (apply c (guard c) h m).outcome) judged,
        ap (λ m. (apply c (guard c) h m).state.skeleton.tables.nodes) judged,
        ap (λ m. (apply c (guard c) h m).state.contents) judged ∙ divide-flatten g.skeleton.tables.nodes g.contents v.pages.counted,
      )

-- A load that is done had the digest of its image, and leaves a guard that saves as that image.
module _ (c : Config) (g : State (guard c)) (v : Version) (image digest : List ℕ) (b : Bytes image) where
  abbrev after : State (guard c)
  after = (step c (guard c) g (load v image digest)).state

  parsed : (o : Option Image) → is_none o ≡ false → o ≡ some (image_or o)
  unfolding is_none image_or
  parsed nothing h = absurd (true≢false h)
  parsed (some i) h = refl

  -- the one version is that of a save
  as_saved : (k : Version) → layout_of c.width k ≡ saved c.width
  unfolding layout_of
  as_saved current = refl

  not-false : (x : Bool) → not x ≡ false → x ≡ true
  not-false true h = refl
  not-false false h = absurd (true≢false h)

  module _ (p : Passed (event_checks c g.skeleton (load v image digest))) where
    abbrev its : Image
    its = image_or (parse (layout_of c.width v) image)

    digest_right : Passed (event_checks c g.skeleton (load v image digest)) → c.digest image ≡ digest
    unfolding event_checks
    digest_right (both _ (both _ (both _ (both x _)))) = equal_true _ _ (not-false _ x)

    is_parsed : Passed (event_checks c g.skeleton (load v image digest))
        → parse (layout_of c.width v) image ≡ some its
    unfolding event_checks
    is_parsed (both _ (both _ (both _ (both _ (both x _))))) = parsed (parse (layout_of c.width v) image) x

    saves_so : image_of c (guard c) after ≡ image
    unfolding step judge event_action apply sound
    saves_so =
        let w = parse-was-printed (saved c.width) image its b
        (subst (λ y. parse y image ≡ some its) (as_saved v) (is_parsed p)) in
        let n = eqb-true _ _ (and_snd (sound_nodes c.width its.0) _ w.0) in
        ap (λ m. image_of c (guard c) (apply c (guard c) g m).state)
        (decide_passed refuse (event_checks c g.skeleton (load v image digest)) (loading its digest) p)
        ∙ ap (λ (ds : List (List ℕ)). print (saved c.width) (its.0, ds))
        (ap flatten (map-id (divide its.0 its.1)) ∙ flatten-divide its.0 its.1 n)
        ∙ w.2

  pub load-was-saved : is_refusal c (guard c) (step c (guard c) g (load v image digest)).outcome.answer ≡ false
      → (c.digest image ≡ digest) × (image_of c (guard c) after ≡ image)
  load-was-saved h = let p = not_refused c (guard c) g (load v image digest) h in (digest_right p p, saves_so p)
