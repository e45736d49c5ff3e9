-- An open is judged by stat's numbers, then its own.
-- Assumes nothing.
use Rattle.std.specs.Prelude.{◌≡◌, refl, List, ℕ}
use Rattle.std.proofs.Math.Path.{ap}
use Rattle.std.proofs.Common.{◌∙◌}
use Rattle.filesystem.specs.Tables.{Tables}
use Rattle.rules.specs.Calls.{open_as, stat, call_bytes}
use Rattle.rules.specs.Rules.{call_checks, call_action}
use Rattle.std.specs.Prelude.{Err}
use Rattle.path_calls.specs.Judged.{node_for}
use Rattle.path_calls.specs.laws.ReachedLaws.{Reached, reach-stops, reach_goes}
use Rattle.opens.specs.OpenChecks.{open_own}
use Rattle.lists.specs.Pick.{pick}
use Rattle.requests.specs.PathRequests.{has_number, path_request}
use Rattle.guard_state.specs.Calls.{OPENING, question_on}
use Rattle.path_calls.specs.Begun.{WalksFirst, SendsItself}

module _ (t : Tables) (s : List ℕ) where
  -- stat's numbers come first
  module _ (b : ℕ) (e : node_for t s stat ≡ Err b) where
    pub open_stops : (r : ℕ) → node_for t s (open_as r) ≡ Err b
    unfolding node_for call_checks
    open_stops r = reach-stops t s Err _ _ b e

  -- then the call's own
  module _ (k : ℕ) (h : Reached t s k) where
    pub open_goes : (r : ℕ) → node_for t s (open_as r) ≡ open_own t k r
    unfolding node_for call_checks open_own
    open_goes r = reach_goes t s Err _ _ k h ∙ ap (λ (j : ℕ). open_own t j r) h.node-place

-- open walks first, and sends itself
pub open_walks : (r : ℕ) → WalksFirst (open_as r)
unfolding call_checks
open_walks r t p = (_, refl)

pub open_itself : (r : ℕ) → SendsItself OPENING 3 r (open_as r)
unfolding call_action question_on path_request has_number call_bytes pick
open_itself r t w p = refl
