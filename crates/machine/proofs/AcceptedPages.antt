-- A page that is accepted is the kept one (SPECIFICATION 5.5, 13.3): the first page of a read, and each later one.
-- Assumes nothing.
use Rattle.std.specs.Prelude.{◌≡◌, true, false, List, [], ℕ, ◌<◌, length}
use Rattle.std.proofs.Common.{ap, sym, ◌∙◌, subst, true≢false}
use Rattle.std.proofs.Math.ListN.{get_or}
use Rattle.lists.specs.Pick.{pick_ind}
use Rattle.lists.specs.Equal.{equal_true}
use Rattle.lists.specs.Checks.{decide_ind}
use Rattle.filesystem.specs.Tables.{pages_for}
use Rattle.rules.specs.Pages.{Change, page_of}
use Rattle.rules.specs.Requests.{Pending, reading}
use Rattle.rules.specs.Skeleton.{Config, reply, Answer, done, ask, refused, stopped}
use Rattle.rules.specs.Rules.{Move, refuse, halt, read_page, fill_page, reasons, reply_action, tells_full, event_checks, event_action, judge}
use Rattle.machine.specs.Machine.{Store, State, Result, content_at, apply, step, guard}
use Rattle.machine.specs.Tree.{tree, guard_of}
use Rattle.machine.proofs.DigestLaws.{digest-at, digests_at_lem}

-- what came is accepted: no refusal, no stop
abbrev pub Accepted : Answer → Type 0
Accepted (done n b) = Unit {0}
Accepted (ask q) = Unit {0}
Accepted (refused n) = ⊥
Accepted (stopped n) = ⊥

module _ (c : Config) (S : Store) (s : State S) where
  abbrev answer : Move → Answer
  answer m = (apply c S s m).outcome.answer

  abbrev pub IsKept : (k i : ℕ) → List ℕ → Type 0
  IsKept k i r = S.is_page (content_at c S s k) i r ≡ true

  -- a page that came for a read; for a change
  pub read_accepts : (k o p n i : ℕ) (r : List ℕ) → Accepted (answer (read_page k o p n i r)) → IsKept k i r
  unfolding apply
  read_accepts k o p n i r = pick_ind (λ (x : Result S). Accepted x.outcome.answer → IsKept k i r) _ (λ e _. e) (λ _ h. absurd h)

  pub change_accepts : (k o : ℕ) (q : Change) (i : ℕ) (r : List ℕ) → Accepted (answer (fill_page k o q i r)) → IsKept k i r
  unfolding apply
  change_accepts k o q i r = pick_ind (λ (x : Result S). Accepted x.outcome.answer → IsKept k i r) _ (λ e _. e) (λ _ h. absurd h)

  -- a reply that is accepted, and does not say that the disk is full, is acted on
  abbrev action_on : List ℕ → Pending → Move
  action_on r p = reply_action c.width s.skeleton.tables r p

  accepted_acts : (r : List ℕ) (a q : ℕ) → tells_full c.width r s.skeleton.pending ≡ false → Accepted (step c S s (reply r a q)).outcome.answer
      → Accepted (answer (action_on r s.skeleton.pending))
  unfolding step judge event_action apply
  accepted_acts r a q f =
      let F : Move → Type 0 = λ m. Accepted (answer m) → Accepted (answer (action_on r s.skeleton.pending)) in
      let cs = reasons c.width s.skeleton r in
      decide_ind refuse F (event_checks c s.skeleton (reply r a q)) _ (λ _ _ h. absurd h)
      (λ _. pick_ind F (tells_full c.width r s.skeleton.pending) (λ e. absurd (true≢false (sym e ∙ f)))
      (λ _. decide_ind halt F cs _ (λ _ _ h. absurd h) (λ _ h. h)))

  -- a reply to the fetch of page i, whichever page of the read it is
  pub page_checked : (k o p n i : ℕ) → s.skeleton.pending ≡ reading k o p n i → (r : List ℕ) (a q : ℕ)
      → Accepted (step c S s (reply r a q)).outcome.answer → IsKept k i r
  unfolding reply_action
  page_checked k o p n i w r a q h =
      read_accepts k o p n i r (subst (λ x. Accepted (answer (action_on r x))) w (accepted_acts r a q (ap (tells_full c.width r) w) h))

-- The guard accepts a page that has the kept digest, the tree one that it holds.
module _ (c : Config) (k o p n i : ℕ) (r : List ℕ) (a q : ℕ) where
  pub guard_accepts : (g : State (guard c)) → g.skeleton.pending ≡ reading k o p n i
      → Accepted (step c (guard c) g (reply r a q)).outcome.answer → c.digest r ≡ get_or (get_or g.contents k []) i []
  guard_accepts g w h = equal_true _ _ (page_checked c (guard c) g k o p n i w r a q h)

  pub tree_accepts : (t : State (tree c)) → t.skeleton.pending ≡ reading k o p n i
      → Accepted (step c (tree c) t (reply r a q)).outcome.answer → r ≡ page_of (get_or t.contents k []) i
  tree_accepts t w h = equal_true _ _ (page_checked c (tree c) t k o p n i w r a q h)

  -- beside a tree: it has the digest of the page that the tree holds, so it is that page, or the two are a collision
  pub accepts_as_tree : (t : State (tree c)) → t.skeleton.pending ≡ reading k o p n i → i < pages_for (length (get_or t.contents k []))
      → Accepted (step c (guard c) (guard_of c t) (reply r a q)).outcome.answer → c.digest r ≡ c.digest (page_of (get_or t.contents k []) i)
  unfolding guard_of
  accepts_as_tree t w l h =
      guard_accepts (guard_of c t) w h ∙ (ap (λ x. get_or x i []) (digests_at_lem c t.contents k) ∙ digest-at c (get_or t.contents k []) i l)
