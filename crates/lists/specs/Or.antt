-- A fact, or else what excuses its absence.
-- Assumes nothing.
pub data Or (C A : Type 0) : Type 0 where
  bad : C → Or C A
  ok : A → Or C A

infixl 20 ◌>>=◌
module _ {C : Type 0} where
  abbrev pub ◌>>=◌ : {A B : Type 0} → Or C A → (A → Or C B) → Or C B
  ◌>>=◌ (bad c) f = bad c
  ◌>>=◌ (ok a) f = f a
