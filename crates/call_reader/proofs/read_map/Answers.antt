-- `call_reader::read_map` meets its contract. Assumes nothing.
use Rattle.std.specs.Prelude.{◌≡◌, Bool, true, false, List, ℕ, ◌<◌, length, drop, Option as Maybe}
use Rattle.std.specs.Bool.{then_some}
use Rattle.std.proofs.Common.{subst}
use mathlib.Core.Path.{sym}
use Rattle.lists.specs.LittleEndian.{decode}
use Rattle.lists.specs.Parts.{part}
use Rattle.rules.specs.MapRules.{is_map_size}
use Rattle.rules.specs.Calls.{by_number, map_memory}
use Rattle.call_reader.specs.declared.ParsedCall.{ParsedCall}
use Rattle.call_reader.specs.declared.ParsedCall.TheVariants.{Map}
use Rattle.call_reader.specs.Meaning.{meant, meant_of, RangesOf}
use Rattle.call_reader.specs.laws.FieldLaws.{alone-wrong, alone_allowed, alone_refused}
use Rattle.call_reader.proofs.read_map.Goals as goal

pub returns-then-s : goal.returns-then-s
unfolding meant_of
returns-then-s c =
    (alone-wrong 4 is_map_size map_memory c.args.s.now c.requires.0 c.requires.1 c.if-s.true, tt)

-- whether the size is one of a map
sized : (s : List ℕ) → 0 < length s → (n : ℕ) → n ≡ decode (part 1 4 s) → length s ≡ 5 → (b : Bool) → is_map_size n ≡ b
    → (meant_of (then_some b (Map n)) s ≡ by_number 4 is_map_size map_memory (drop 1 s))
    × RangesOf (then_some b (Map n)) (length s)
unfolding meant_of meant
sized s there n e l true h = (alone_allowed 4 is_map_size map_memory s there n e l h, h)
sized s there n e l false h = (alone_refused 4 is_map_size map_memory s there n e l h, tt)

pub returns : goal.returns
returns c =
    let s = c.args.s.now in
    let n = c.u32_at-size.result in
    subst (λ (o : Maybe ParsedCall). (meant_of o s ≡ by_number 4 is_map_size map_memory (drop 1 s))
    × RangesOf o (length s)) (sym c.then_some.ensures)
    (sized s c.requires.0 n c.u32_at-size.ensures c.if-s.false c.is_map_size.result (sym c.is_map_size.ensures))
