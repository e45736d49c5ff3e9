-- Forms of bytes: how a value is put at the front of bytes and got from there, and how two forms, many of one, or the whole of the bytes are read. The
-- formats that are put together from these stand in Formats, the laws of the pieces in FormLaws.
-- Assumes nothing.
use Rattle.std.specs.Prelude.{◌≡◌, List, [], ◌∷◌, ◌++◌, ℕ, zero, suc, leb, length, take, drop}
use Rattle.std.proofs.Math.Option.{Option, some, none}
use Rattle.lists.specs.Pick.{pick}
use Rattle.lists.specs.Equal.{equal}
use Rattle.lists.specs.All.{All, Bytes}

-- values that bytes can hold (`ok`), how they are put at the front of bytes and got from there, with the rest; what is put is got back, and what is got
-- was so put
pub record Form (A : Type 0) : Type 1 where
  pub ok : A → Type 0
  pub put : A → List ℕ
  pub get : List ℕ → Option (A × List ℕ)
  pub read_back : (a : A) (r : List ℕ) → ok a → get (put a ++ r) ≡ some (a, r)
  pub was-written : (s : List ℕ) (a : A) (r : List ℕ) → Bytes s → get s ≡ some (a, r) → ok a × (s ≡ put a ++ r) × Bytes r

-- what f makes of a value, if there is one
unfoldable pub bind : {A B : Type 0} → Option A → (A → Option B) → Option B
bind none f = none
bind (some a) f = f a

-- the first n bytes, by f
unfoldable pub front : {A : Type 0} → ℕ → (List ℕ → A) → List ℕ → Option (A × List ℕ)
front n f s = pick (leb n (length s)) (some (f (take n s), drop n s)) none

-- one form after another, which may hang on the first's value
module _ {A B : Type 0} (F : Form A) (G : A → Form B) where
  unfoldable pub get₂ : List ℕ → Option ((A × B) × List ℕ)
  get₂ s = bind (F.get s) (λ p. bind ((G p.0).get p.1) (λ q. some ((p.0, q.0), q.1)))

  abbrev pub put₂ : A × B → List ℕ
  put₂ p = F.put p.0 ++ (G p.0).put p.1

  abbrev pub Ok₂ : A × B → Type 0
  Ok₂ p = F.ok p.0 × (G p.0).ok p.1

-- a form behind fixed bytes
module _ {A : Type 0} (bs : List ℕ) (F : Form A) where
  unfoldable pub get_fixed : List ℕ → Option (A × List ℕ)
  get_fixed s = bind (front (length bs) (λ b. b) s) (λ p. pick (equal p.0 bs) (F.get p.1) none)

-- the same bytes for another type
module _ {A B : Type 0} (to : A → B) (F : Form A) where
  unfoldable pub get_as : List ℕ → Option (B × List ℕ)
  get_as s = bind (F.get s) (λ p. some (to p.0, p.1))

-- n times the same form
module _ {A : Type 0} (F : Form A) where
  unfoldable pub put_all : List A → List ℕ
  put_all [] = []
  put_all (x ∷ xs) = F.put x ++ put_all xs

  unfoldable pub get_all : ℕ → List ℕ → Option (List A × List ℕ)
  get_all zero s = some ([], s)
  get_all (suc n) s = bind (F.get s) (λ p. bind (get_all n p.1) (λ q. some (p.0 ∷ q.0, q.1)))

  abbrev pub OkAll : ℕ → List A → Type 0
  OkAll n xs = (length xs ≡ n) × All F.ok xs

-- a form that the whole of the bytes has
module _ {A : Type 0} (F : Form A) where
  unfoldable pub ended : A → List ℕ → Option A
  ended a [] = some a
  ended a (b ∷ r) = none

  unfoldable pub whole : List ℕ → Option A
  whole s = bind (F.get s) (λ p. ended p.0 p.1)
