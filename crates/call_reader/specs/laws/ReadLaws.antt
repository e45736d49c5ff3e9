-- Where nothing was read, no call is meant and no range is asked for.
-- Assumes nothing.
use Rattle.std.specs.Prelude.{◌≡◌, List, ℕ, length, Option as Maybe, None}
use Rattle.std.proofs.Math.Path.{sym}
use Rattle.std.proofs.Common.{subst}
use Rattle.std.proofs.Math.Option.{Option, none}
use Rattle.rules.specs.Calls.{Call}
use Rattle.call_reader.specs.declared.ParsedCall.{ParsedCall}
use Rattle.call_reader.specs.Meaning.{meant_of, RangesOf}

pub nothing_read : (p : Maybe ParsedCall) (s : List ℕ) {q : Option Call} → p ≡ None → none ≡ q
    → (meant_of p s ≡ q) × RangesOf p (length s)
unfolding meant_of
nothing_read p s {q} e h =
    subst (λ (o : Maybe ParsedCall). (meant_of o s ≡ q) × RangesOf o (length s)) (sym e) (h, tt)
