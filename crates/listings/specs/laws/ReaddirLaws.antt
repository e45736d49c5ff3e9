-- A readdir is judged by stat's numbers, then its own.
-- Assumes nothing.
use Rattle.std.specs.Prelude.{◌≡◌, refl, List, ℕ}
use Rattle.std.proofs.Math.Path.{ap}
use Rattle.std.proofs.Common.{◌∙◌}
use Rattle.filesystem.specs.Tables.{Tables}
use Rattle.rules.specs.Calls.{readdir, stat, call_bytes}
use Rattle.rules.specs.Rules.{call_checks, call_action}
use Rattle.std.specs.Prelude.{Err}
use Rattle.path_calls.specs.Judged.{node_for}
use Rattle.path_calls.specs.laws.ReachedLaws.{Reached, reach-stops, reach_goes}
use Rattle.listings.specs.ListChecks.{readdir_own}
use Rattle.lists.specs.Pick.{pick}
use Rattle.requests.specs.PathRequests.{has_number, path_request}
use Rattle.guard_state.specs.Calls.{LISTING, question_on}
use Rattle.path_calls.specs.Begun.{WalksFirst, SendsItself}

module _ (t : Tables) (s : List ℕ) where
  -- stat's numbers come first
  module _ (b : ℕ) (e : node_for t s stat ≡ Err b) where
    pub readdir-stops : node_for t s readdir ≡ Err b
    unfolding node_for call_checks
    readdir-stops = reach-stops t s Err _ _ b e

  -- then the call's own
  module _ (k : ℕ) (h : Reached t s k) where
    pub readdir_goes : node_for t s readdir ≡ readdir_own t.nodes k
    unfolding node_for call_checks readdir_own
    readdir_goes = reach_goes t s Err _ _ k h ∙ ap (readdir_own t.nodes) h.node-place

-- readdir walks first, and sends itself
pub readdir_walks : WalksFirst readdir
unfolding call_checks
readdir_walks t p = (_, refl)

pub readdir_itself : SendsItself LISTING 12 0 readdir
unfolding call_action question_on path_request has_number call_bytes pick
readdir_itself t w p = refl
