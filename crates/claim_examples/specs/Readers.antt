-- The claim with a read-only guard can be met: a guard writes a file and saves; after power-up a read-only guard
-- refuses a chmod and loads what was saved.
use Rattle.std.specs.Prelude.{◌≡◌, refl, true, false, List, [], ◌∷◌}
use Rattle.std.proofs.Common.{ap, sym, ◌∙◌, subst}
use Rattle.lists.specs.Pick.{pick}
use Rattle.lists.specs.Equal.{equal}
use Rattle.lists.specs.Search.{every, any}
use Rattle.lists.specs.All.{All, both, none as all_none}
use Rattle.lists.specs.Form.{bind}
use Rattle.lists.specs.Checks.{decide}
use Rattle.filesystem.specs.Paths.{component_form, onto, split, after_slash, read_path, joined, path_bytes, too_long}
use Rattle.filesystem.specs.Image.{current}
use Rattle.rules.specs.Calls.{by_path, by_number_and_path, read_fields, read_call}
use Rattle.rules.specs.Skeleton.{Event, load, refused, plain, answer_length, request_length}
use Rattle.rules.specs.Requests.{store_length}
use Rattle.rules.specs.Rules.{is_idle, call_or, is_none}
use Rattle.machine.specs.Machine.{Result, step, guard}
use Rattle.machine.specs.Seen.{Seen, shown}
use Rattle.machine.specs.Restart.{BytesSeen, Quiet, Restarts, HonestLives}
use Rattle.read_only.specs.ReadOnly.{takes_call, takes, length_checks, form_checks, read_only_checks, read_only_step}
use Rattle.read_only.specs.ReadOnly.{read_only_outcomes}
use Rattle.read_only.specs.Lives.{Life, taken_seen, all_kept, OfFresh, AgreeLives, SecondHalfOfLives}
use Rattle.read_only.proofs.laws.LifeLaws.{second_half_with_readers}
use Rattle.claim_examples.specs.Computed.{cheap, image, c}
use Rattle.claim_examples.specs.Examples.{cheap_fit}
use Rattle.claim_examples.specs.Lives.{start, seed, digest, before, afterwards, life, of_fresh, in_bytes}
use Rattle.claim_examples.specs.Lives.{before-bytes}
use Rattle.claim_examples.specs.Lives.{afterwards-bytes, lives, restarts, honest-lives}

-- chmod of `/a`
abbrev barred : Event
barred = c (11 ∷ 5 ∷ 47 ∷ 97 ∷ [])

abbrev reading : List Seen
reading = record { event = barred; outcome = plain (refused 30) } ∷ life afterwards

abbrev both_kinds : List Life
both_kinds = record { read_only = false; seen = life before } ∷ record { read_only = true; seen = reading } ∷ []

not_taken : takes cheap barred ≡ false
unfolding takes takes_call call_or read_call read_fields by_number_and_path by_path bind read_path after_slash split onto
    component_form every equal pick cheap
not_taken = refl

-- the chmod is refused, and the load is the guard's
refused-30 : read_only_step cheap (guard cheap) start barred ≡ record { outcome = plain (refused 30); state = start }
unfolding read_only_step read_only_checks form_checks length_checks takes_call call_or is_none is_idle read_call read_fields
    by_number_and_path by_path bind read_path after_slash split onto component_form every any equal too_long path_bytes joined
    decide pick answer_length request_length store_length cheap
refused-30 = refl

load_same : read_only_step cheap (guard cheap) start (load current image digest)
    ≡ step cheap (guard cheap) start (load current image digest)
unfolding read_only_step read_only_checks decide
load_same = refl

writes_fresh : OfFresh cheap (record { read_only = false; seen = life before })
unfolding pick
writes_fresh = of_fresh before

reads-fresh : OfFresh cheap (record { read_only = true; seen = reading })
unfolding read_only_outcomes shown pick
reads-fresh =
    let G = guard cheap in
    ap (λ (r : Result G). plain (refused 30) ∷ r.outcome ∷ []) (sym load_same)
    ∙ ap (λ (r : Result G). r.outcome ∷ read_only_outcomes cheap G r.state afterwards) (sym refused-30)

-- of the second life the load is kept
kept-lives : all_kept cheap both_kinds ≡ lives
unfolding taken_seen takes shown pick
kept-lives = ap (λ b. life before ∷ pick b (seen-30 ∷ rest) rest ∷ []) not_taken
  where
    seen-30 : Seen
    seen-30 = record { event = barred; outcome = plain (refused 30) }

    rest : List Seen
    rest = taken_seen cheap (life afterwards)

-- So nothing stops, every outcome is the tree's, the refused one too, and what the read-only guard holds is what was
-- saved.
pub with_reader_agrees : All (λ (l : Life). Quiet l.seen) both_kinds × AgreeLives cheap seed both_kinds
unfolding SecondHalfOfLives
with_reader_agrees =
    let k = sym kept-lives in
    second_half_with_readers cheap cheap_fit both_kinds (both writes_fresh (both reads-fresh all_none))
    (subst (All BytesSeen) k
    (both (in_bytes before before-bytes) (both (in_bytes afterwards afterwards-bytes) all_none)))
    (subst Restarts k restarts) (subst (HonestLives cheap seed) k honest-lives)
