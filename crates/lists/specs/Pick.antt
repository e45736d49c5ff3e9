-- A test between two values, shut: a goal shows it whole, and unification goes through it.
-- Assumes nothing.
use Rattle.std.specs.Prelude.{◌≡◌, refl, Bool, true, false}

-- x where the test holds, else y
unfoldable pub pick : {A : Type 0} → Bool → A → A → A
pick true x y = x
pick false x y = y

pub pick_true : {A : Type 0} (b : Bool) (x y : A) → b ≡ true → pick b x y ≡ x
unfolding pick
pick_true b x y e = rw e

pub pick-false : {A : Type 0} (b : Bool) (x y : A) → b ≡ false → pick b x y ≡ y
unfolding pick
pick-false b x y e = rw e

-- what holds of each arm, under what the test says, holds of the pick
pub pick_ind : {A : Type 0} (F : A → Type 0) (b : Bool) {x y : A} → (b ≡ true → F x) → (b ≡ false → F y) → F (pick b x y)
unfolding pick
pick_ind F true f g = f refl
pick_ind F false f g = g refl

-- a function of a pick, beside another pick on the same test
pub pick-map : {A B : Type 0} (f : A → B) (b : Bool) {x y : A} {x' y' : B} → (b ≡ true → x' ≡ f x) → (b ≡ false → y' ≡ f y) → pick b x' y' ≡ f (pick b x y)
unfolding pick
pick-map f true p q = p refl
pick-map f false p q = q refl
