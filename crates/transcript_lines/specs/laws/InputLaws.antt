-- A line that was found in the filled part of a buffer.
-- Assumes nothing.
use Rattle.std.specs.Prelude.{◌≡◌, true, not, List, ℕ, ◌+◌, ◌-◌, ◌≤◌, ◌<◌, length, take, drop}
use Rattle.std.proofs.Common.{sym, ap, ◌∙◌, arith, take-take, length-take}
use Rattle.std.proofs.Math.Path.{subst}
use Rattle.lists.specs.PartLaws.{drop-take}
use Rattle.lists.specs.Search.{every, place}
use Rattle.lists.specs.Scans.{every-before}
use Rattle.text.specs.Line.{is_newline, LineEnd}

pub no_newline : (b : List ℕ) (n a e : ℕ) → LineEnd (take n b) a e → e < n
    → every (λ (c : ℕ). not (is_newline c)) (take (e - a) (drop a b)) ≡ true
no_newline b n a e line h =
    let f = line.found in
    let r = drop a (take n b) in
    let k = place is_newline r in
    let i : n ≡ a + (n - a) = omega arith in
    let s : r ≡ take (n - a) (drop a b) = ap (λ (z : ℕ). drop a (take z b)) i ∙ drop-take a (n - a) b in
    let j : e - a ≡ k = omega arith in
    let t : take k r ≡ take (e - a) (drop a b) =
    ap (λ (z : List ℕ). take k z) s ∙ take-take k (n - a) (drop a b) (omega arith)
    ∙ ap (λ (z : ℕ). take z (drop a b)) (sym j) in
    subst (λ (z : List ℕ). every (λ (c : ℕ). not (is_newline c)) z ≡ true) t (every-before is_newline r)

pub line_most : (b : List ℕ) (n a e : ℕ) → e < n → length (take (e - a) (drop a b)) ≤ n
line_most b n a e h = let l = length-take (e - a) (drop a b) in omega arith
