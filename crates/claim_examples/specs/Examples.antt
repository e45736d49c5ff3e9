-- The claim's hypotheses can be met and its conclusion is not empty: an honest list, one with a rename, a stale page,
-- a digest that is constant.
use Rattle.std.specs.Prelude.{◌≡◌, refl, true, List, [], ◌∷◌, ◌++◌, map, ℕ, ltb}
use Rattle.std.proofs.Common.{ap, sym, ◌∙◌, map-id, arith, ltb-true}
use Rattle.lists.specs.All.{All, both, none as all_none, Bytes, all_map, all_append}
use Rattle.lists.specs.Cells.{length-tab}
use Rattle.lists.specs.Places.{all_tab}
use Rattle.lists.specs.Search.{every, every_all}
use Rattle.filesystem.specs.Image.{current}
use Rattle.rules.specs.Skeleton.{Config, Event, save, load, EventBytes, done, stopped}
use Rattle.rules.specs.Rules.{judge, saving}
use Rattle.machine.specs.Machine.{State, files, image_of, apply, step, fresh, outcomes, final, guard}
use Rattle.machine.specs.Tree.{tree, digests_of, guard_of}
use Rattle.machine.specs.Claim.{Fit, NoStop, HonestAt, Honest, Agrees, SecondHalf}
use Rattle.machine.proofs.HonestRun.{second_half}
use Rattle.claim_examples.specs.Computed.{moved, moved_answers, moved_image}
use Rattle.claim_examples.specs.Computed.{cheap, constant, written, honest, honest_answers, image, guard_then, tree_then, forged, answers_of, last_answer, computed}

pub cheap_fit : Fit cheap
unfolding cheap
cheap_fit = record { long = λ s. length-tab 32 _; bytes = λ s. all_tab 32 _ (λ i h. omega arith); wide = omega arith }

-- An honest list: what is handed in is bytes,
pub are_bytes : (s : List ℕ) → every (λ b. ltb b 256) s ≡ true → Bytes s
are_bytes s e = all_map (λ b h. ltb-true b 256 h) (every_all (λ b. ltb b 256) s e)

pub written-bytes : All EventBytes written
unfolding EventBytes every
written-bytes =
    both (are_bytes _ refl) (both (are_bytes _ refl) (both (are_bytes _ refl) (both (are_bytes _ refl) (both (are_bytes _ refl) (both (are_bytes _ refl)
    (both (are_bytes _ refl) (both (are_bytes _ refl) (both (are_bytes _ refl) all_none))))))))

honest-bytes : All EventBytes honest
unfolding EventBytes
honest-bytes = all_append written-bytes (both tt (both (are_bytes image computed.image-bytes, cheap_fit.bytes image) all_none))

-- and the load is of the save just done, the tree unchanged since.
pub saved-image : image ≡ image_of cheap (tree cheap) tree_then
unfolding guard_of Agrees SecondHalf
saved-image =
    let e : guard_then ≡ guard_of cheap tree_then = (second_half cheap cheap_fit written written-bytes computed.replies_right).1.1 in
    computed.guard-image ∙ (ap (image_of cheap (guard cheap)) e ∙ rw (map-id (map (digests_of cheap) tree_then.contents)))

save_load : (c : Config) (g : State (guard c)) (t : State (tree c)) (n : ℕ) (image : List ℕ) → judge c t.skeleton (save n) ≡ saving
    → image ≡ image_of c (tree c) t
    → Honest c g t (save n ∷ load current image (c.digest image) ∷ [])
unfolding Honest HonestAt step apply
save_load c g t n image e q = (tt, ((λ d. rw e (record { latest = record { digest = c.digest (image_of c (tree c) t); files = files c (tree c) t }; earlier = t.saves; saves = refl; image = q; digest = ap c.digest q; unchanged = refl })), tt))

pub honest-then : (c : Config) (es fs : List Event) (g : State (guard c)) (t : State (tree c)) → Honest c g t es
    → Honest c (final c (guard c) g es) (final c (tree c) t es) fs → Honest c g t (es ++ fs)
unfolding Honest final
honest-then c [] fs g t h k = k
honest-then c (e ∷ es) fs g t (h, hs) k = (h, honest-then c es fs _ _ hs k)

honest_host : Honest cheap (fresh cheap (guard cheap)) (fresh cheap (tree cheap)) honest
honest_host = honest-then cheap written _ _ _ computed.replies_right (save_load cheap guard_then tree_then 44776 image computed.tree_saves saved-image)

-- So nothing stops, and the tree answers as the guard was seen to.
honest_agrees : Agrees cheap honest
unfolding SecondHalf
honest_agrees = (second_half cheap cheap_fit honest honest-bytes honest_host).1

tree-does : answers_of (outcomes cheap (tree cheap) (fresh cheap (tree cheap)) honest) ≡ honest_answers
unfolding Agrees
tree-does = ap answers_of (sym honest_agrees.0) ∙ computed.guard-does

-- The same of a list with a rename.
moved-bytes : All EventBytes moved
unfolding EventBytes every
moved-bytes =
    both (are_bytes _ refl) (both (are_bytes _ refl) (both (are_bytes _ refl) (both (are_bytes _ refl)
    (both (are_bytes _ refl) (both (are_bytes _ refl)
    (both tt (both {x = load current moved_image (cheap.digest moved_image)}
    (are_bytes moved_image computed.moved-bytes, cheap_fit.bytes moved_image)
    (both (are_bytes _ refl) (both (are_bytes _ refl) all_none)))))))))

moved_agrees : All NoStop (outcomes cheap (guard cheap) (fresh cheap (guard cheap)) moved) × Agrees cheap moved
unfolding SecondHalf
moved_agrees = second_half cheap cheap_fit moved moved-bytes computed.moved_right

tree_moves : answers_of (outcomes cheap (tree cheap) (fresh cheap (tree cheap)) moved) ≡ moved_answers
unfolding Agrees
tree_moves = ap answers_of (sym moved_agrees.1.0) ∙ computed.moved_does

-- With a digest that is constant guard and tree part: the collision alternative is needed.
parted : outcomes constant (guard constant) (fresh constant (guard constant)) forged ≡ outcomes constant (tree constant) (fresh constant (tree constant)) forged
    → ⊥
parted e =
    let q : done 3 (0 ∷ 0 ∷ 0 ∷ []) ≡ stopped 5 = sym computed.guard_taken_in ∙ (ap (λ os. last_answer (answers_of os)) e ∙ computed.tree_not) in
    let z : ◌≡◌ {A = ℕ} 0 1 = cc in
    omega arith
