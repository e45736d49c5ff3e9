-- A reply as the machine takes it: it ends its call where the disk is full, is stopped by the first of its reasons, or
-- acted on.
-- Assumes nothing.
use Rattle.std.specs.Prelude.{List, ℕ}
use Rattle.lists.specs.Pick.{pick}
use Rattle.lists.specs.Checks.{decide}
use Rattle.rules.specs.Skeleton.{Config}
use Rattle.rules.specs.Rules.{Move, halt, reasons, reply_action, tells_full, full_action}
use Rattle.machine.specs.Machine.{State, Result, apply, guard as digest_store}

unfoldable pub taken : (c : Config) → State (digest_store c) → List ℕ → Move
taken c s r =
    pick (tells_full c.width r s.skeleton.pending) (full_action s.skeleton.pending)
    (decide halt (reasons c.width s.skeleton r)
    (reply_action c.width s.skeleton.tables r s.skeleton.pending))

unfoldable pub answered : (c : Config) → State (digest_store c) → List ℕ → Result (digest_store c)
answered c s r = apply c (digest_store c) s (taken c s r)
