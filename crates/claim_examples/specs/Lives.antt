-- The claim after power-up can be met: a client that writes a file, saves, is switched off and loads what it saved.
use Rattle.std.specs.Prelude.{◌≡◌, refl, List, [], ◌∷◌, ◌++◌, ℕ}
use Rattle.std.proofs.Common.{ap, sym, ◌∙◌, subst, inl}
use Rattle.lists.specs.All.{All, both, none as all_none, all_append}
use Rattle.filesystem.specs.Image.{current}
use Rattle.rules.specs.Skeleton.{Config, Event, save, load, EventBytes, done, plain}
use Rattle.rules.specs.Rules.{judge, saving}
use Rattle.machine.specs.Machine.{Store, State, files, image_of, apply, step, fresh, outcomes, final, guard}
use Rattle.machine.specs.Tree.{tree}
use Rattle.machine.specs.Claim.{is_done, OfLatest, Honest, HonestAt}
use Rattle.machine.proofs.StateProperties.{always_holds}
use Rattle.machine.proofs.LoadLaws.{load_restores}
use Rattle.machine.specs.Seen.{Seen, shown, HonestIn, HonestSeen}
use Rattle.machine.proofs.SeenLaws.{shown-answers, shown-events, honest-shown}
use Rattle.machine.specs.Restart.{Begins, BeginsWith, Restarts, BytesSeen, Quiet, OfFresh, restarted, tree_after, AgreeLives, HonestLives, SecondHalfOfLives}
use Rattle.machine.proofs.RestartRun.{second_half_of_lives}
use Rattle.claim_examples.specs.Computed.{cheap, written, image, guard_then, tree_then, computed}
use Rattle.claim_examples.specs.Examples.{cheap_fit, are_bytes, written-bytes, saved-image, honest-then}

abbrev pub start : State (guard cheap)
start = fresh cheap (guard cheap)

abbrev pub seed : State (tree cheap)
seed = fresh cheap (tree cheap)

abbrev pub digest : List ℕ
digest = cheap.digest image

abbrev pub before : List Event
before = written ++ (save 44776 ∷ [])

abbrev pub afterwards : List Event
afterwards = load current image digest ∷ []

-- what a fresh guard shows
abbrev pub life : List Event → List Seen
life es = shown cheap (guard cheap) start es

abbrev pub lives : List (List Seen)
lives = life before ∷ life afterwards ∷ []

pub of_fresh : (es : List Event) → OfFresh cheap (life es)
of_fresh es =
    shown-answers cheap (guard cheap) start es
    ∙ ap (outcomes cheap (guard cheap) start) (sym (shown-events cheap (guard cheap) start es))

pub in_bytes : (es : List Event) → All EventBytes es → BytesSeen (life es)
in_bytes es b = subst (All EventBytes) (sym (shown-events cheap (guard cheap) start es)) b

pub before-bytes : All EventBytes before
unfolding EventBytes
before-bytes = all_append written-bytes (both tt all_none)

pub afterwards-bytes : All EventBytes afterwards
unfolding EventBytes
afterwards-bytes =
    both {x = load current image digest} (are_bytes image computed.image-bytes, cheap_fit.bytes image) all_none

-- the second life begins with a load that is done
is_loaded : (step cheap (guard cheap) start (load current image digest)).outcome ≡ plain (done 0 [])
is_loaded =
    let h = always_holds cheap (λ s. (cheap_fit.long s, cheap_fit.bytes s)) cheap_fit.wide written written-bytes in
    subst (λ i. (step cheap (guard cheap) start (load current i (cheap.digest i))).outcome ≡ plain (done 0 []))
    (sym computed.guard-image)
    (load_restores cheap guard_then start h refl refl refl).0

pub restarts : Restarts lives
unfolding Restarts Begins BeginsWith shown is_done
restarts = both (inl (subst (λ o. is_done o.answer) (sym is_loaded) tt)) all_none

-- The host is honest: in the first life,
before-honest : HonestSeen cheap seed (life before)
unfolding Honest HonestAt
before-honest =
    subst (λ H. H) (sym (honest-shown cheap start seed before))
    (honest-then cheap written (save 44776 ∷ []) start seed computed.replies_right (tt, tt))

-- and in the second, whose load is of the save just done.
final-then : (c : Config) (S : Store) (s : State S) (es fs : List Event) → final c S s (es ++ fs) ≡ final c S (final c S s es) fs
unfolding final
final-then c S s [] fs = refl
final-then c S s (e ∷ es) fs = final-then c S (step c S s e).state es fs

of_latest : (c : Config) (t : State (tree c)) (n : ℕ) (i : List ℕ) → judge c t.skeleton (save n) ≡ saving → i ≡ image_of c (tree c) t
    → OfLatest c (restarted c (step c (tree c) t (save n)).state) i (c.digest i)
unfolding step apply restarted
of_latest c t n i e q = rw e (record {
  latest = record { digest = c.digest (image_of c (tree c) t); files = files c (tree c) t };
  earlier = t.saves;
  saves = refl;
  image = q;
  digest = ap c.digest q;
  unchanged = refl;
})

tree-saved : tree_after cheap seed (life before) ≡ (step cheap (tree cheap) tree_then (save 44776)).state
unfolding restarted final
tree-saved =
    ap (final cheap (tree cheap) seed) (shown-events cheap (guard cheap) start before)
    ∙ final-then cheap (tree cheap) seed written (save 44776 ∷ [])

pub honest-lives : HonestLives cheap seed lives
unfolding HonestLives HonestSeen HonestIn shown restarted
honest-lives = (
  before-honest,
  (
    (
      (λ _. subst (λ t. OfLatest cheap (restarted cheap t) image digest) (sym tree-saved) (of_latest cheap tree_then 44776 image computed.tree_saves saved-image)),
      tt,
    ),
    tt,
  ),
)

-- So nothing stops, and the guard that loaded is the one that saved.
pub lives_agree : All Quiet lives × AgreeLives cheap seed lives
unfolding SecondHalfOfLives
lives_agree =
    second_half_of_lives cheap cheap_fit lives (both (of_fresh before) (both (of_fresh afterwards) all_none))
    (both (in_bytes before before-bytes) (both (in_bytes afterwards afterwards-bytes) all_none)) restarts honest-lives
