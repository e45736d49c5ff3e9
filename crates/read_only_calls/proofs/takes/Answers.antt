-- `read_only_calls::takes` meets its contract. Assumes nothing.
use Rattle.std.specs.Prelude.{◌≡◌, ℕ, false}
use mathlib.Core.Path.{refl, ap, sym, ◌∙◌}
use mathlib.Core.Logic.{inl, inr}
use Rattle.call_reader.specs.declared.ParsedCall.{ParsedCall}
use Rattle.call_reader.specs.declared.ParsedCall.TheVariants.{ByPath, Close, Seek, Read, Write, Truncate}
use Rattle.call_reader.specs.declared.ParsedCall.TheVariants.{Map, Unmap, Rename}
use Rattle.read_only_calls.specs.Refusals.{takes_parsed}
use Rattle.read_only_calls.proofs.takes.Goals as goal

pub returns-in-ByPath : goal.returns-in-ByPath
unfolding takes_parsed
returns-in-ByPath c = c.takes_by_path.ensures ∙ sym (ap takes_parsed c.in-ByPath.is)

pub returns-in-Close : goal.returns-in-Close
unfolding takes_parsed
returns-in-Close c =
    sym (elim c.in-Close.is [
      | inl h ↦ ap takes_parsed h.1
      | inr (inl h) ↦ ap takes_parsed h.2
      | inr (inr h) ↦ ap takes_parsed h.2
    ])

-- what writes, maps, unmaps or renames
other : (p : ParsedCall) → ((k n start : ℕ) → p ≡ ByPath k n start → ⊥) → ((x : ℕ) → p ≡ Close x → ⊥)
    → ((x n : ℕ) → p ≡ Seek x n → ⊥) → ((x n : ℕ) → p ≡ Read x n → ⊥) → false ≡ takes_parsed p
unfolding takes_parsed
other (ByPath k n start) a b d e = absurd (a k n start refl)
other (Close x) a b d e = absurd (b x refl)
other (Seek x n) a b d e = absurd (d x n refl)
other (Read x n) a b d e = absurd (e x n refl)
other (Write x start) a b d e = refl
other (Truncate x n) a b d e = refl
other (Map n) a b d e = refl
other (Unmap x) a b d e = refl
other (Rename second) a b d e = refl

pub returns-in_default : goal.returns-in_default
returns-in_default c =
    let d = c.in_default in
    other c.args.p d.not-ByPath d.not-Close d.not-Seek d.not-Read
