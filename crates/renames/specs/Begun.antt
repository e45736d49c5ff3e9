-- A rename as it begins: judged on the state, its request sent.
--   rename_begun     what the machine makes of a rename of these path bytes
--   BeginsRename    memory, request buffer and outcome are then the machine's
-- Assumes nothing.
use Rattle.std.specs.Prelude.{List, ℕ}
use Rattle.numbers.specs.Slices.{Lent, KeepsLength}
use Rattle.rules.specs.Calls.{rename}
use Rattle.rules.specs.Skeleton.{Config}
use Rattle.rules.specs.Rules.{refuse, call_checks, call_action}
use Rattle.machine.specs.Machine.{State, Result, apply, guard as digest_store}
use Rattle.outcomes.specs.declared.Outcome.{Outcome}
use Rattle.outcomes.specs.Sent.{Sends}
use Rattle.outcomes.specs.Clauses.{Rightly}
use Rattle.renames.specs.Judged.{judged_both}

unfoldable pub rename_begun : (c : Config) → State (digest_store c) → (first second : List ℕ) → Result (digest_store c)
rename_begun c s first second =
    apply c (digest_store c) s
    (judged_both refuse (λ p q. call_checks s.skeleton.tables (rename p q))
    (λ p q. call_action s.skeleton.tables c.width (rename p q)) first second)

abbrev pub BeginsRename : (m q : Lent) → (first second : List ℕ) → Outcome → Type 0
BeginsRename m q first second r =
    Rightly m (λ c s. Sends c (rename_begun c s first second) r m.exit.now
    q.entry.now q.exit.now)
    × KeepsLength m
