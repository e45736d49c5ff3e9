-- A call that was read, on the machine's state: refused, or begun.
--   started_by     a call on files, which asks nothing of the maps
--   map_started    a call on maps, which asks nothing of the files
-- Assumes nothing.
use Rattle.lists.specs.Checks.{decide}
use Rattle.rules.specs.Calls.{Call}
use Rattle.rules.specs.Skeleton.{Config}
use Rattle.rules.specs.Rules.{refuse, call_checks, map_checks, call_action}
use Rattle.machine.specs.Machine.{State, Result, apply, guard as digest_store}

unfoldable pub started_by : (c : Config) → State (digest_store c) → Call → Result (digest_store c)
started_by c s q = apply c (digest_store c) s (decide refuse (call_checks s.skeleton.tables q)
    (call_action s.skeleton.tables c.width q))

unfoldable pub map_started : (c : Config) → State (digest_store c) → Call → Result (digest_store c)
map_started c s q = apply c (digest_store c) s (decide refuse (map_checks s.skeleton.maps q)
    (call_action s.skeleton.tables c.width q))
