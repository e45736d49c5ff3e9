-- Requests written a number at a time.
-- Assumes nothing.
use Rattle.std.specs.Prelude.{ℕ, ◌≡◌, List, ◌∷◌, ◌++◌, length}
use Rattle.std.proofs.Common.{◌∙◌, append_assoc, arith, length-append}
use Rattle.lists.specs.LittleEndian.{encode, length-encode}
use Rattle.lists.specs.Parts.{overwrite}
use Rattle.lists.specs.PartLaws.{overwrite_next}
use Rattle.rules.specs.Requests.{store_request}
use Rattle.rules.specs.Skeleton.{at_front}

-- the kind, and one number or two
pub length_head : (k a : ℕ) → length (k ∷ encode 4 a) ≡ 5
length_head k a = omega (arith, length-encode 4 a)

pub length_longer : (k a b : ℕ) → length (k ∷ (encode 4 a ++ encode 4 b)) ≡ 9
length_longer k a b = omega (arith, length-append (encode 4 a) (encode 4 b), length-encode 4 a, length-encode 4 b)

-- what is written behind them
pub behind_head : (l : List ℕ) (k a : ℕ) (y : List ℕ) → overwrite (overwrite l 0 (k ∷ encode 4 a)) 5 y ≡ overwrite l 0
    (k ∷ (encode 4 a ++ y))
behind_head l k a y = overwrite_next l 0 (k ∷ encode 4 a) y 5 (omega (arith, length_head k a)) (omega arith)

pub behind_longer : (l : List ℕ) (k a b : ℕ) (y : List ℕ)
    → overwrite (overwrite l 0 (k ∷ (encode 4 a ++ encode 4 b))) 9 y ≡ overwrite l 0 (k
    ∷ (encode 4 a ++ (encode 4 b ++ y)))
behind_longer l k a b y =
    overwrite_next l 0 (k ∷ (encode 4 a ++ encode 4 b)) y 9 (omega (arith, length_longer k a b)) (omega arith)
    ∙ rw (append_assoc (encode 4 a) (encode 4 b) y)

-- a store's page behind its head
pub behind_store : (l m out : List ℕ) (d i size : ℕ) (page : List ℕ)
    → m ≡ overwrite l 0 (7 ∷ (encode 4 d ++ (encode 4 i ++ encode 4 size)))
    → out ≡ overwrite m 13 page
    → out ≡ at_front (store_request d i size page) l
unfolding store_request
behind_store l m out d i size page e f =
    let n : length (encode 4 d ++ (encode 4 i ++ encode 4 size)) ≡ 12 = simp (length-append, length-encode) in
    f
    ∙ rw e
    (overwrite_next l 0 (7 ∷ (encode 4 d ++ (encode 4 i ++ encode 4 size))) page 13 (omega arith) (omega arith)
    ∙ rw (append_assoc (encode 4 d) (encode 4 i ++ encode 4 size) page, append_assoc (encode 4 i) (encode 4 size) page))
