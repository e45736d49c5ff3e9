-- Bytes, put together from SPECIFICATION alone and by none of the definitions that the rows are to pin; pages; a digest that costs little.
-- The width of ids is the one that is delivered: the rows' own bytes have four.
use Rattle.std.specs.Prelude.{List, [], ◌∷◌, ◌++◌, ℕ, zero, suc, ◌+◌, ◌-◌, ◌/◌, ◌%◌, length, take, drop, replicate}
use Prim.Native.Char.{code}
use Prim.Native.String as S
use Prim.Native.String.{String}
use Rattle.filesystem.specs.Tables.{ID_BYTES}
use Rattle.rules.specs.Skeleton.{Config}

-- bytes: of a text, of a number in 4 and in 8 bytes, the same byte n times
unfoldable pub bytes_of : String → List ℕ
bytes_of S.[] = []
bytes_of (S.◌∷◌ c s) = code c ∷ bytes_of s

abbrev pub four : ℕ → List ℕ
four n = n % 256 ∷ n / 256 % 256 ∷ n / 65536 % 256 ∷ n / 16777216 % 256 ∷ []

abbrev pub eight : ℕ → List ℕ
eight n = four n ++ four (n / 4294967296)

abbrev pub many : ℕ → ℕ → List ℕ
many n b = replicate n b

-- no bytes
abbrev pub nothing : List ℕ
nothing = []

-- a page that begins so, zeros behind
abbrev pub padded : List ℕ → List ℕ
padded b = b ++ replicate (1024 - length b) 0

-- long paths: a text n times; one `/` and n letters
unfoldable pub times : ℕ → String → String
times zero s = ""
times (suc n) s = S.◌++◌ s (times n s)

abbrev pub name : ℕ → String
name n = times n "n"

abbrev pub under : String → ℕ → String
under p n = S.◌++◌ p (S.◌++◌ "/" (name n))

-- a name of the bytes 128 and 255 (a character is the byte of its code); the same with 127 for 255; a name behind `/`
abbrev pub high : String
high = "\u{80}ÿ"

abbrev pub lowered : String
lowered = "\u{80}\u{7f}"

abbrev pub slashed : String → String
slashed s = S.◌++◌ "/" s

-- the pages of a file of this size, zero past the bytes
unfoldable pub pages_of : ℕ → List ℕ → List (List ℕ)
pages_of zero b = []
pages_of (suc n) b = padded (take 1024 b) ∷ pages_of n (drop 1024 b)

abbrev pub pages : (size : ℕ) → List ℕ → List (List ℕ)
pages size b = pages_of ((size + 1023) / 1024) b

-- a digest that costs little: the first two bytes, the last, and the length, found in one pass
unfoldable pub ends : (first second last length : ℕ) → List ℕ → List ℕ
ends f g l n [] = f ∷ g ∷ l ∷ n % 256 ∷ n / 256 % 256 ∷ many 27 0
ends f g l n (b ∷ s) = ends f g b (suc n) s

unfoldable pub digest : List ℕ → List ℕ
digest [] = ends 0 0 0 0 []
digest (a ∷ []) = ends a 0 a 1 []
digest (a ∷ b ∷ s) = ends a b b 2 s

abbrev pub config : Config
config = record { digest = digest; width = ID_BYTES }
