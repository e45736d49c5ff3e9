-- A remove and an rmdir are judged by stat's numbers, then their own.
-- Assumes nothing.
use Rattle.std.specs.Prelude.{◌≡◌, refl, List, ℕ}
use Rattle.std.proofs.Common.{◌∙◌}
use Rattle.filesystem.specs.Tables.{Tables}
use Rattle.filesystem.specs.Paths.{parent_of}
use Rattle.rules.specs.Calls.{remove, rmdir, stat, call_bytes}
use Rattle.rules.specs.Rules.{call_checks, call_action}
use Rattle.paths.specs.Parts.{components_of}
use Rattle.std.specs.Prelude.{Err}
use Rattle.path_calls.specs.Judged.{node_for}
use Rattle.path_calls.specs.laws.ReachedLaws.{Reached, reach-stops, reach_goes}
use Rattle.removals.specs.RemoveChecks.{remove_own, rmdir_own}
use Rattle.lists.specs.Pick.{pick}
use Rattle.requests.specs.PathRequests.{has_number, path_request}
use Rattle.guard_state.specs.Calls.{REMOVING, question_on}
use Rattle.path_calls.specs.Begun.{WalksFirst, SendsItself}

module _ (t : Tables) (s : List ℕ) where
  -- stat's numbers come first
  module _ (b : ℕ) (e : node_for t s stat ≡ Err b) where
    pub remove-stops : node_for t s remove ≡ Err b
    unfolding node_for call_checks
    remove-stops = reach-stops t s Err _ _ b e

    pub rmdir-stops : node_for t s rmdir ≡ Err b
    unfolding node_for call_checks
    rmdir-stops = reach-stops t s Err _ _ b e

  -- then the call's own
  module _ (k : ℕ) (h : Reached t s k) (d : ℕ) (e : parent_of t.nodes 0 (components_of s) ≡ d) where
    pub remove_goes : node_for t s remove ≡ remove_own t k d
    unfolding node_for call_checks remove_own
    remove_goes = reach_goes t s Err _ _ k h ∙ (λ i. remove_own t (h.node-place i) (e i))

    pub rmdir_goes : node_for t s rmdir ≡ rmdir_own t.nodes k d
    unfolding node_for call_checks rmdir_own
    rmdir_goes = reach_goes t s Err _ _ k h ∙ (λ i. rmdir_own t.nodes (h.node-place i) (e i))

-- remove walks first, and sends itself
pub remove_walks : WalksFirst remove
unfolding call_checks
remove_walks t p = (_, refl)

pub remove_itself : SendsItself REMOVING 9 0 remove
unfolding call_action question_on path_request has_number call_bytes pick
remove_itself t w p = refl

-- rmdir walks first, and sends itself
pub rmdir_walks : WalksFirst rmdir
unfolding call_checks
rmdir_walks t p = (_, refl)

pub rmdir_itself : SendsItself REMOVING 10 0 rmdir
unfolding call_action question_on path_request has_number call_bytes pick
rmdir_itself t w p = refl
