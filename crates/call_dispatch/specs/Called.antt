-- A call's bytes on the machine's state: refused 22 where they are no call, else what the call that they mean comes to.
--   called, called_with    what the machine makes of what was read, and of the bytes
--   Calls                 outcome, memory and request buffer are those
-- Assumes nothing.
use Rattle.std.specs.Prelude.{List, ◌∷◌, ◌++◌, ℕ}
use Rattle.std.proofs.Math.Option.{Option}
use Rattle.lists.specs.Checks.{decide}
use Rattle.rules.specs.Calls.{Call, read_call}
use Rattle.rules.specs.Skeleton.{Config}
use Rattle.rules.specs.Rules.{refuse, call_checks, map_checks, call_action, call_or, is_none}
use Rattle.machine.specs.Machine.{State, Result, apply, guard as digest_store}
use Rattle.numbers.specs.Slices.{Lent, KeepsLength}
use Rattle.outcomes.specs.declared.Outcome.{Outcome}
use Rattle.outcomes.specs.Sent.{Sends}
use Rattle.outcomes.specs.Clauses.{Rightly}

module _ (c : Config) (s : State (digest_store c)) where
  -- what the bytes were read as
  unfoldable pub called : Option Call → Result (digest_store c)
  called q =
      apply c (digest_store c) s
      (decide refuse ((22, is_none q) ∷ (call_checks s.skeleton.tables (call_or q)
      ++ map_checks s.skeleton.maps (call_or q)))
      (call_action s.skeleton.tables c.width (call_or q)))

  unfoldable pub called_with : List ℕ → Result (digest_store c)
  called_with b = called (read_call c.width b)

-- memory, request buffer and outcome are those of the machine
abbrev pub Calls : (m q : Lent) → (b : List ℕ) → Outcome → Type 0
Calls m q b r =
    Rightly m (λ c s. Sends c (called_with c s b) r m.exit.now q.entry.now q.exit.now)
    × KeepsLength m
