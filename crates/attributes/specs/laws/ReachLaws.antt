-- A chmod and a stat are judged by the walk alone.
-- Assumes nothing.
use Rattle.path_calls.specs.Judged.{node_for}
use Rattle.std.specs.Prelude.{◌≡◌, refl, List, [], ℕ}
use Rattle.std.proofs.Common.{sym, append-nil}
use Rattle.lists.specs.Pick.{pick}
use Rattle.filesystem.specs.Tables.{Tables}
use Rattle.rules.specs.Calls.{chmod, stat, call_bytes}
use Rattle.rules.specs.Rules.{call_checks, call_action, reach}
use Rattle.requests.specs.PathRequests.{has_number, path_request}
use Rattle.guard_state.specs.Calls.{CHANGING, STATING, question_on}
use Rattle.path_calls.specs.Begun.{WalksFirst, SendsItself}

-- chmod walks first, and sends itself
pub chmod_walks : (r : ℕ) → WalksFirst (chmod r)
unfolding call_checks
chmod_walks r t p = ([], sym (append-nil (reach t p)))

pub chmod_itself : (r : ℕ) → SendsItself CHANGING 11 r (chmod r)
unfolding call_action question_on path_request has_number call_bytes pick
chmod_itself r t w p = refl

-- stat walks first, and sends itself
pub stat_walks : WalksFirst stat
unfolding call_checks
stat_walks t p = ([], sym (append-nil (reach t p)))

pub stat_itself : SendsItself STATING 13 0 stat
unfolding call_action question_on path_request has_number call_bytes pick
stat_itself t w p = refl

-- chmod is judged as stat is
pub as_chmod : (mode : ℕ) (t : Tables) (path : List ℕ) → node_for t path stat ≡ node_for t path (chmod mode)
unfolding node_for call_checks
as_chmod mode t path = refl
