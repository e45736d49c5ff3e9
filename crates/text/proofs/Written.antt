-- What `decimal::write` rests on, as its attribute names it. Assumes nothing.
use Rattle.std.proofs.Common.{◌≡◌, ℕ, ◌-◌, List, [], ◌<◌, ◌≤◌, ◌^◌, length, drop, sym, arith}
use Rattle.std.proofs.Common.{drop_of_length-le, length-drop}
use Rattle.std.proofs.lemmas.Grind.{common_steps}
use Rattle.std.specs.Fmt.{decimal}
use Rattle.text.specs.Digits.{decimal_of}
use Rattle.text.specs.laws.DigitLaws.{decimal_is, decimal_most}

-- nothing stands behind a list's end
pub none_behind : (l : List ℕ) (from : ℕ) → drop (length l - from) (drop from l) ≡ []
none_behind l from = drop_of_length-le (drop from l) {i = length l - from} (rw (length-drop from l) (omega arith))

pub digits_are : (n : ℕ) → n < 2 ^ 64 → decimal n ≡ decimal_of n
digits_are n h = sym (decimal_is n (omega arith))

pub digits_fit : (n : ℕ) → n < 2 ^ 64 → length (decimal_of n) ≤ 20
digits_fit n h = decimal_most 19 n (omega arith)

pub ruleset written = (common_steps, none_behind, digits_are, digits_fit)
