-- A full disk that ends a call with nothing finished (SPECIFICATION 5.5): a create, a mkdir, a growth, and a write at its first store are refused 28, and
-- all but the request is as before. (A write with a page stored: PartialRuns. The state of before the call: GivenUpRuns.)
-- Assumes nothing.
use Rattle.std.specs.Prelude.{◌≡◌, true, List, ℕ}
use Rattle.std.proofs.Math.Path.{ap}
use Rattle.std.proofs.Common.{◌∙◌, arith, le-ltb}
use Rattle.lists.specs.Pick.{pick_true, pick-false}
use Rattle.lists.specs.Checks.{Passed, decide_passed}
use Rattle.rules.specs.Pages.{writing, growing, first}
use Rattle.rules.specs.Requests.{asked, creating, storing, cutting}
use Rattle.rules.specs.Skeleton.{Config, reply}
use Rattle.rules.specs.Rules.{says_full, tells_full, full_action, event_checks, event_action, judge}
use Rattle.machine.specs.Machine.{Store, State, gave_up, apply, step}

module _ (c : Config) (S : Store) (s : State S) (r : List ℕ) (a b : ℕ) (passed : Passed (event_checks c s.skeleton (reply r a b))) where
  -- what such a reply comes to
  told : tells_full c.width r s.skeleton.pending ≡ true → step c S s (reply r a b) ≡ apply c S s (full_action s.skeleton.pending)
  unfolding step judge event_action
  told f = ap (apply c S s) (decide_passed _ _ _ passed ∙ pick_true _ _ _ f)

  pub new_node-full : (p k m : ℕ) (name : List ℕ) → s.skeleton.pending ≡ asked (creating p k m name) → says_full c.width r ≡ true
      → step c S s (reply r a b) ≡ gave_up c S s
  unfolding full_action apply
  new_node-full p k m name w f = told (ap (tells_full c.width r) w ∙ f) ∙ ap (λ x. apply c S s (full_action x)) w

  pub growth_full : (k o n : ℕ) → s.skeleton.pending ≡ cutting k o (growing n) → says_full 4 r ≡ true → step c S s (reply r a b) ≡ gave_up c S s
  unfolding full_action apply
  growth_full k o n w f = told (ap (tells_full c.width r) w ∙ f) ∙ ap (λ x. apply c S s (full_action x)) w

  pub first_store_full : (k o p : ℕ) (d : List ℕ) (i : ℕ) → s.skeleton.pending ≡ storing k o (writing p d) i → says_full 4 r ≡ true
      → first (writing p d) ≡ i → step c S s (reply r a b) ≡ gave_up c S s
  unfolding full_action apply
  first_store_full k o p d i w f e =
      told (ap (tells_full c.width r) w ∙ f)
      ∙ (ap (λ x. apply c S s (full_action x)) w ∙ ap (apply c S s) (pick-false _ _ _ (le-ltb (first (writing p d)) i (omega arith))))
