-- The read-only claim, proved: along a run the image is the one that the last done load was handed.
-- Assumes nothing.
use Rattle.std.specs.Prelude.{◌≡◌, true, false, ℕ, length}
use Rattle.std.proofs.Math.Path.{refl, ap, ap₂, sym, subst}
use Rattle.std.proofs.Common.{◌∙◌}
use Rattle.std.proofs.lemmas.Bool.{false≢true}
use mathlib.Core.List.{List, [], ◌∷◌, map}
use Rattle.lists.specs.Pick.{pick, pick_ind}
use Rattle.lists.specs.All.{All, Bytes, both}
use Rattle.lists.specs.Checks.{decide, decide_ind}
use Rattle.filesystem.specs.Tables.{Tables}
use Rattle.filesystem.specs.Image.{saved, Version, flatten, print}
use Rattle.rules.specs.Skeleton.{Config, Event, call, reply, save, load, EventBytes, Answer, done, ask, refused}
use Rattle.rules.specs.Skeleton.{stopped}
use Rattle.rules.specs.Rules.{refuse, event_checks, event_action, judge}
use Rattle.machine.specs.Machine.{Store, State, image_of, apply, step, fresh, guard}
use Rattle.machine.specs.Claim.{is_done}
use Rattle.machine.proofs.EventLaws.{is_done_answer, is_refusal, only_done_changes}
use Rattle.machine.proofs.LoadLaws.{load-was-saved}
use Rattle.read_only.specs.ReadOnly.{read_only_checks, read_only_step}
use Rattle.read_only.specs.Claim.{loaded_if, last_loaded, Gives, AsLoaded, ReadOnlyClaim}
use Rattle.read_only.proofs.laws.RunLaws.{OnlyReads, SameFiles, is_load, read_only_keeps, read_only-reads}
use Rattle.read_only.proofs.laws.RunLaws.{fresh-reads}

loaded_if_lem : (a : Answer) (handed held : List ℕ) → loaded_if a handed held ≡ pick (is_done_answer a) handed held
unfolding loaded_if is_done_answer pick
loaded_if_lem (done n b) i x = refl
loaded_if_lem (ask q) i x = refl
loaded_if_lem (refused n) i x = refl
loaded_if_lem (stopped n) i x = refl

module _ (c : Config) where
  abbrev G : Store
  G = guard c

  abbrev image : State G → List ℕ
  image g = image_of c G g

  same_image : (s t : State G) → SameFiles c G s t → image t ≡ image s
  same_image s t f = ap₂ (λ ns x. print (saved c.width) (ns, flatten (map G.digests x))) f.nodes f.contents

  done_goes : (a : Answer) → is_done_answer a ≡ true → is_refusal c G a ≡ false
  unfolding is_done_answer is_refusal
  done_goes (done n b) h = refl
  done_goes (ask q) h = refl
  done_goes (refused n) h = absurd (false≢true h)
  done_goes (stopped n) h = refl

  -- a done load leaves its image, any other the one of before
  load_follows : (g : State G) (v : Version) (i d : List ℕ) → Bytes i
      → image (read_only_step c G g (load v i d)).state
      ≡ loaded_if (read_only_step c G g (load v i d)).outcome.answer i (image g)
  unfolding read_only_step read_only_checks decide
  load_follows g v i d b =
      let r = step c G g (load v i d) in
      pick_ind (λ x. image r.state ≡ x) (is_done_answer r.outcome.answer)
      (λ h. (load-was-saved c g v i d b (done_goes _ h)).1)
      (λ h. let u = only_done_changes c G g (load v i d) h in
      ap₂ (λ (t : Tables) x. print (saved c.width) (t.nodes, flatten (map G.digests x))) u.0 u.1)
      ∙ sym (loaded_if_lem r.outcome.answer i (image g))

  -- the image after an event is the one that the last done load was handed
  image_follows : (g : State G) → OnlyReads g → (e : Event) → EventBytes e
      → image (read_only_step c G g e).state ≡ last_loaded (image g) e (read_only_step c G g e).outcome
  unfolding last_loaded EventBytes
  image_follows g l (call b a q) bs = same_image _ _ (read_only_keeps c G g l (call b a q) (unfold is_load in refl)).1
  image_follows g l (reply r a q) bs = same_image _ _ (read_only_keeps c G g l (reply r a q) (unfold is_load in refl)).1
  image_follows g l (save n) bs = same_image _ _ (read_only_keeps c G g l (save n) (unfold is_load in refl)).1
  image_follows g l (load v i d) bs = load_follows g v i d bs.0

  save_gives : (g : State G) (e : Event) → Gives c (image g) e (read_only_step c G g e).outcome
  unfolding Gives
  save_gives g (call b a q) = tt
  save_gives g (reply r a q) = tt
  save_gives g (save n) = unfold read_only_step read_only_checks decide step judge event_action apply is_done in
      decide_ind refuse
      (λ m. is_done (apply c G g m).outcome.answer
      → (apply c G g m).outcome ≡ record { answer = done (length (image g)) (image g); digest = c.digest (image g) })
      (event_checks c g.skeleton (save n)) _ (λ _ _ h. absurd h) (λ _ _. refl)
  save_gives g (load v i d) = tt

  as_loaded : (x : List ℕ) (g : State G) → OnlyReads g → image g ≡ x → (es : List Event) → All EventBytes es
      → AsLoaded c x g es
  unfolding AsLoaded
  as_loaded x g l q [] bs = q
  as_loaded x g l q (e ∷ es) (both b bs) =
      let o = (read_only_step c G g e).outcome in (
        q,
        subst (λ y. Gives c y e o) q (save_gives g e),
        as_loaded (last_loaded x e (read_only_step c G g e).outcome) (read_only_step c G g e).state (read_only-reads c G g l e)
            (image_follows g l e b ∙ ap (λ y. last_loaded y e o) q) es bs,
      )

  pub read_only_claim : ReadOnlyClaim c
  unfolding ReadOnlyClaim
  read_only_claim es bs = as_loaded _ (fresh c G) (fresh-reads c G) refl es bs
