-- A full disk: where it may be said, what says it, and that the write of the pages finished before it fits where the whole write does.
-- Assumes nothing.
use Rattle.std.specs.Prelude.{◌≡◌, true, List, [], ◌∷◌, ℕ, zero, suc, ◌-◌, ◌*◌, ◌^◌, ◌≤◌, ◌<◌, eqb, ltb, ℤ, pos, negsuc, length}
use Rattle.std.proofs.Common.{ap, ◌∙◌, eqb-true, eq-eqb}
use Rattle.std.proofs.lemmas.Bool.{false≢true}
use native.Mathlib.Omega.{arith}
use Rattle.std.proofs.Math.Nat.{pow-le-pow_right}
use Rattle.lists.specs.Pick.{pick_ind}
use Rattle.lists.specs.Equal.{and_fst, and_snd, and_both}
use Rattle.lists.specs.LittleEndian.{encode, decode, length-encode, decode-encode}
use Rattle.lists.specs.Signed.{signed, signed_high}
use Rattle.filesystem.specs.Tables.{Node, node_at, pages_for, page_total, set_size, OpenFile}
use Rattle.rules.specs.Pages.{Change, writing, shrinking, growing, first, size_after, stores_more, before}
use Rattle.rules.specs.Requests.{asked, Pending, idle, creating, opening, closing, removing, changing, listing, stating, mapping, unmapping, reading, fetching, storing, cutting}
use Rattle.rules.specs.Requests.{renaming}
use Rattle.rules.proofs.PageLaws.{before_fits, before-less}
use Rattle.rules.specs.Rules.{is_full, says_full, tells_full}
use Rattle.rules.specs.RightReplies.{Full}
use Rattle.rules.specs.Valid.{ChangeFits, PageFits}

-- -28 is said as the reply to a create or mkdir, to a write's store, to a growing cut, and nowhere else
pub data MayBeFull : Pending → Type 0 where
  new_node : {p k m : ℕ} {name : List ℕ} → MayBeFull (asked (creating p k m name))
  written_page : {k o p : ℕ} {d : List ℕ} {i : ℕ} → MayBeFull (storing k o (writing p d) i)
  growth : {k o n : ℕ} → MayBeFull (cutting k o (growing n))

pub told_where : (w : ℕ) (r : List ℕ) (p : Pending) → tells_full w r p ≡ true → MayBeFull p
told_where w r idle e = absurd (false≢true e)
told_where w r (asked (creating p k m name)) e = new_node
told_where w r (asked (opening k rights)) e = absurd (false≢true e)
told_where w r (asked (closing o)) e = absurd (false≢true e)
told_where w r (asked (removing k)) e = absurd (false≢true e)
told_where w r (asked (changing k m)) e = absurd (false≢true e)
told_where w r (asked (listing k)) e = absurd (false≢true e)
told_where w r (asked (stating k)) e = absurd (false≢true e)
told_where w r (asked (mapping n)) e = absurd (false≢true e)
told_where w r (asked (unmapping a)) e = absurd (false≢true e)
told_where w r (asked (renaming k p name)) e = absurd (false≢true e)
told_where w r (reading k o p n i) e = absurd (false≢true e)
told_where w r (fetching k o q i) e = absurd (false≢true e)
told_where w r (storing k o (writing p d) i) e = written_page
told_where w r (storing k o (shrinking n) i) e = absurd (false≢true e)
told_where w r (storing k o (growing n) i) e = absurd (false≢true e)
told_where w r (cutting k o (writing p d)) e = absurd (false≢true e)
told_where w r (cutting k o (shrinking n)) e = absurd (false≢true e)
told_where w r (cutting k o (growing n)) e = growth

is_full_lem : (z : ℤ) → is_full z ≡ true → z ≡ negsuc 27
unfolding is_full
is_full_lem (pos m) e = absurd (false≢true e)
is_full_lem (negsuc m) e = ap negsuc (eqb-true m 27 e)

-- what is accepted as -28 says it, and what says it is accepted
pub full_right : (w : ℕ) (r : List ℕ) → says_full w r ≡ true → Full w r
unfolding says_full
full_right w r e = (eqb-true _ _ (and_fst _ _ e), is_full_lem _ (and_snd (eqb (length r) w) _ e))

pub right_full : (w : ℕ) (r : List ℕ) → Full w r → says_full w r ≡ true
unfolding says_full is_full
right_full w r (l, e) = and_both _ _ (eq-eqb _ _ l) (ap is_full e)

-- there are such bytes at every width
unfoldable pub full_bytes : ℕ → List ℕ
full_bytes w = encode w (256 ^ w - 28)

pub full_bytes_lem : (w : ℕ) → 1 ≤ w → Full w (full_bytes w)
unfolding full_bytes
full_bytes_lem w h =
    let wide : 256 ^ 1 ≤ 256 ^ w = pow-le-pow_right (omega arith) h in
    let d : decode (encode w (256 ^ w - 28)) ≡ 256 ^ w - 28 = decode-encode w (256 ^ w - 28) (omega arith) in
    (length-encode w (256 ^ w - 28), signed_high w (decode (encode w (256 ^ w - 28))) (omega arith) ∙ ap negsuc (omega arith))

-- and only one number is -28
pub full_is : (w x : ℕ) → x < 256 ^ w → signed w x ≡ negsuc 27 → x ≡ 256 ^ w - 28
unfolding signed
full_is w x h =
    pick_ind (λ z. z ≡ negsuc 27 → x ≡ 256 ^ w - 28) (ltb (2 * x) (256 ^ w)) (λ _ e. absurd (let z : ◌≡◌ {A = ℕ} 0 1 = cc in omega arith))
    (λ _ e. let z : 256 ^ w - suc x ≡ 27 = cc in omega arith)

-- fewer bytes need no more pages
pub fewer_pages : (ns : List Node) (k n m : ℕ) → n ≤ m → page_total (set_size ns k n) ≤ page_total (set_size ns k m)
unfolding page_total set_size node_at
fewer_pages [] k n m h = omega arith
fewer_pages (x ∷ ns) zero n m h = unfold pages_for in omega arith
fewer_pages (x ∷ ns) (suc k) n m h = let z = fewer_pages ns k n m h in omega arith

pub before_change : (ns : List Node) (os : List OpenFile) (k o : ℕ) (q : Change) (i : ℕ) → PageFits ns os k o q i → stores_more q ≡ true → first q < i
    → ChangeFits ns os k o (before q i)
before_change ns os k o q i f s l =
    let less = before-less q i (node_at ns k).size s l f.to in
    let most = f.change.most in
    let fewer = fewer_pages ns k (size_after (before q i) (node_at ns k).size) (size_after q (node_at ns k).size) less in
    let room = f.change.room in
    record { opened = f.change.opened; fits = before_fits q i (node_at ns k).size s l f.to f.change.fits; most = omega arith; room = omega arith }
