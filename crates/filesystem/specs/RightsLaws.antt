-- What the table of rights says: reading needs bit 4, writing bit 2 (SPECIFICATION 4.8).
-- Assumes nothing.
use Rattle.std.specs.Prelude.{◌≡◌, refl, Bool, true, false, ◌&&◌, ◌||◌, not, ℕ, ◌+◌, ◌-◌, ◌*◌, ◌/◌, ◌%◌, ◌<◌, ◌≤◌, eqb}
use Rattle.std.proofs.Common.{ap, sym, ◌∙◌, arith}
use Rattle.std.specs.Bool.{beq}
use Rattle.std.proofs.lemmas.Bool.{false≢true}
use Rattle.lists.specs.Cells.{tab, get_or-tab, length-tab}
use Rattle.lists.specs.Search.{every}
use Rattle.lists.specs.Places.{every-at}
use Rattle.filesystem.specs.Rights.{cover_table, covers}

-- right 1 needs bit 4 of the mode, right 2 needs bit 2
unfoldable pub suffices : (mode rights : ℕ) → Bool
suffices mode rights = (eqb (mode / 4 % 2) 1 || not (eqb (rights % 2) 1)) && (eqb (mode / 2 % 2) 1 || not (eqb (rights / 2 % 2) 1))

beq-true : (a b : Bool) → beq a b ≡ true → a ≡ b
beq-true true true e = refl
beq-true true false e = absurd (false≢true e)
beq-true false true e = absurd (false≢true e)
beq-true false false e = refl

-- the rule at entry k of the table
right : ℕ → Bool
right k = beq (covers (k % 8) (k / 8 + 1)) (suffices (k % 8) (k / 8 + 1))

whole-table : every right (tab 24 (λ k. k)) ≡ true
unfolding every tab right covers cover_table suffices
whole-table = refl

pub covers-suffices : (mode rights : ℕ) → mode < 8 → 1 ≤ rights → rights ≤ 3 → covers mode rights ≡ suffices mode rights
unfolding right
covers-suffices mode rights h l m =
    let k = 8 * (rights - 1) + mode in
    let e : k % 8 ≡ mode = omega arith in
    let e₂ : k / 8 + 1 ≡ rights = omega arith in
    let b : k < 24 = omega arith in
    let t : right k ≡ true = ap right (sym (get_or-tab 24 (λ i. i) k 0 b)) ∙ every-at right 0 (tab 24 (λ k. k)) k whole-table (rw length-tab b) in
    beq-true _ _ (rw (e, e₂) at t)
