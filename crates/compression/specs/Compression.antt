-- SHA-256's compression function as FIPS 180-4 (August 2015) defines it: one block into the hash value. Section and
-- equation
-- numbers and names are the standard's. A byte is a number below 256, a word one below 2 ^ 32. Assumes nothing.
use Rattle.std.specs.Prelude.{ℕ, zero, suc, ◌+◌, ◌-◌, ◌*◌, ◌/◌, ◌%◌, ◌^◌, List, [], ◌∷◌, ◌++◌, map, bit_and, bit_or, bit_xor, slice_index, slice_index_or}
use Rattle.compression.specs.declared.State.{State}

infixl 65 ◌⊞◌
infixl 60 ◌⊕◌
-- §3.2: operations on words. `x ⊞ y` is the standard's x + y on words, the sum modulo 2 ^ 32
abbrev pub ◌⊞◌ : ℕ → ℕ → ℕ
◌⊞◌ x y = (x + y) % 2 ^ 32

abbrev pub ◌⊕◌ : ℕ → ℕ → ℕ
◌⊕◌ x y = bit_xor x y

abbrev pub complement : ℕ → ℕ
complement x = (2 ^ 32 - 1) - x

abbrev pub SHR : ℕ → ℕ → ℕ
SHR n x = x / 2 ^ n

abbrev pub SHL : ℕ → ℕ → ℕ
SHL n x = x * 2 ^ n % 2 ^ 32

abbrev pub ROTR : ℕ → ℕ → ℕ
ROTR n x = bit_or (SHR n x) (SHL (32 - n) x)

-- §4.1.2: the functions (4.2) to (4.7)
abbrev pub Ch : ℕ → ℕ → ℕ → ℕ
Ch x y z = bit_and x y ⊕ bit_and (complement x) z

abbrev pub Maj : ℕ → ℕ → ℕ → ℕ
Maj x y z = bit_and x y ⊕ bit_and x z ⊕ bit_and y z

abbrev pub Σ0 : ℕ → ℕ
Σ0 x = ROTR 2 x ⊕ ROTR 13 x ⊕ ROTR 22 x

abbrev pub Σ1 : ℕ → ℕ
Σ1 x = ROTR 6 x ⊕ ROTR 11 x ⊕ ROTR 25 x

abbrev pub σ0 : ℕ → ℕ
σ0 x = ROTR 7 x ⊕ ROTR 18 x ⊕ SHR 3 x

abbrev pub σ1 : ℕ → ℕ
σ1 x = ROTR 17 x ⊕ ROTR 19 x ⊕ SHR 10 x

-- §4.2.2: the constants
unfoldable pub K : List ℕ
K =
    0x428a2f98 ∷ 0x71374491 ∷ 0xb5c0fbcf ∷ 0xe9b5dba5 ∷ 0x3956c25b ∷ 0x59f111f1 ∷ 0x923f82a4 ∷ 0xab1c5ed5 ∷
    0xd807aa98 ∷ 0x12835b01 ∷ 0x243185be ∷ 0x550c7dc3 ∷ 0x72be5d74 ∷ 0x80deb1fe ∷ 0x9bdc06a7 ∷ 0xc19bf174 ∷
    0xe49b69c1 ∷ 0xefbe4786 ∷ 0x0fc19dc6 ∷ 0x240ca1cc ∷ 0x2de92c6f ∷ 0x4a7484aa ∷ 0x5cb0a9dc ∷ 0x76f988da ∷
    0x983e5152 ∷ 0xa831c66d ∷ 0xb00327c8 ∷ 0xbf597fc7 ∷ 0xc6e00bf3 ∷ 0xd5a79147 ∷ 0x06ca6351 ∷ 0x14292967 ∷
    0x27b70a85 ∷ 0x2e1b2138 ∷ 0x4d2c6dfc ∷ 0x53380d13 ∷ 0x650a7354 ∷ 0x766a0abb ∷ 0x81c2c92e ∷ 0x92722c85 ∷
    0xa2bfe8a1 ∷ 0xa81a664b ∷ 0xc24b8b70 ∷ 0xc76c51a3 ∷ 0xd192e819 ∷ 0xd6990624 ∷ 0xf40e3585 ∷ 0x106aa070 ∷
    0x19a4c116 ∷ 0x1e376c08 ∷ 0x2748774c ∷ 0x34b0bcb5 ∷ 0x391c0cb3 ∷ 0x4ed8aa4a ∷ 0x5b9cca4f ∷ 0x682e6ff3 ∷
    0x748f82ee ∷ 0x78a5636f ∷ 0x84c87814 ∷ 0x8cc70208 ∷ 0x90befffa ∷ 0xa4506ceb ∷ 0xbef9a3f7 ∷ 0xc67178f2 ∷ []

-- §3.1, §5.2.1: the word at byte i, and the sixteen words of the block that starts at byte i
unfoldable pub word : List ℕ → ℕ → ℕ
word p i = slice_index p i * 2 ^ 24 + slice_index p (i + 1) * 2 ^ 16 + slice_index p (i + 2) * 2 ^ 8 + slice_index p (i + 3)

unfoldable pub block : List ℕ → ℕ → List ℕ
block p i = map (λ j. word p (i + 4 * j)) (0 ∷ 1 ∷ 2 ∷ 3 ∷ 4 ∷ 5 ∷ 6 ∷ 7 ∷ 8 ∷ 9 ∷ 10 ∷ 11 ∷ 12 ∷ 13 ∷ 14 ∷ 15 ∷ [])

-- §6.2.2, step 1: W_t for t from 16 on, and the message schedule W_0 to W_{15+n} of a block's words
unfoldable pub next_word : List ℕ → ℕ → ℕ
next_word w t = σ1 (slice_index w (t - 2)) ⊞ slice_index_or w (t - 7) 0 ⊞ σ0 (slice_index w (t - 15)) ⊞ slice_index_or w (t - 16) 0

unfoldable pub schedule : List ℕ → ℕ → List ℕ
schedule m zero = m
schedule m (suc n) = schedule m n ++ next_word (schedule m n) (16 + n) ∷ []

-- step 3: one round, with K_t and W_t
unfoldable pub round : State → ℕ → ℕ → State
round s k w =
    let t1 : ℕ = s.h ⊞ Σ1 s.e ⊞ Ch s.e s.f s.g ⊞ k ⊞ w in
    let t2 : ℕ = Σ0 s.a ⊞ Maj s.a s.b s.c in
    record { a = t1 ⊞ t2; b = s.a; c = s.b; d = s.c; e = s.d ⊞ t1; f = s.e; g = s.f; h = s.g }

-- the working variables before round t
unfoldable pub rounds : State → List ℕ → ℕ → State
rounds s w zero = s
rounds s w (suc t) = round (rounds s w t) (slice_index K t) (slice_index w t)

-- steps 2 to 4: the hash value after the block with the words m
abbrev pub sum : State → State → State
sum x y = record {
  a = x.a ⊞ y.a;
  b = x.b ⊞ y.b;
  c = x.c ⊞ y.c;
  d = x.d ⊞ y.d;
  e = x.e ⊞ y.e;
  f = x.f ⊞ y.f;
  g = x.g ⊞ y.g;
  h = x.h ⊞ y.h;
}

unfoldable pub compress : State → List ℕ → State
compress s m = sum (rounds s (schedule m 48) 64) s
