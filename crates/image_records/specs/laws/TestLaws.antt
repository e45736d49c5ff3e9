-- What each test of a node by itself says, case by case.
-- Assumes nothing.
use Rattle.std.specs.Prelude.{ℕ, zero, suc, ◌+◌, ◌-◌, ◌*◌, ◌^◌, ◌≤◌, ◌<◌, ◌≡◌, refl, Bool, false, ◌&&◌, ◌||◌, not, eqb, leb, length, take}
use Rattle.std.proofs.Math.Path.{ap}
use Rattle.std.proofs.Common.{ap₂, sym, ◌∙◌, arith, add-one, drop_of_length-le, drop-cons, get_or-drop, ne_eqb}
use Rattle.std.proofs.Math.Bool.{true}
use mathlib.Core.List.{List, [], ◌∷◌, nil≢cons, head-eq_of_cons-eq}
use Rattle.std.proofs.Math.ListN.{get_or, drop}
use Rattle.lists.specs.All.{Bytes}
use Rattle.lists.specs.Equal.{Is, is_t, is_f, is, equal, equal_true, and_both}
use Rattle.lists.specs.NumberParts.{part_below}
use Rattle.lists.specs.Search.{every}
use Rattle.lists.specs.Parts.{part}
use Rattle.filesystem.specs.Paths.{slash, dot, component_form}
use Rattle.paths.specs.PathForms.{is_name}
use Rattle.filesystem.specs.Image.{Layout, maker_bytes, front_length}
use Rattle.filesystem.specs.Layouts.{layout, no_maker}
use Rattle.filesystem.proofs.LayoutLaws.{one_maker}
use Rattle.image_records.specs.Records.{maker_at, record_at, record_end, is_marked, marked_from, plain_byte}

or-false : (b : Bool) → (b || false) ≡ b
or-false true = refl
or-false false = refl

-- kind and size
module _ (k s : ℕ) where
  pub file_case : k ≡ 1 → leb s 65536 ≡ (eqb k 1 && leb s 65536 || eqb k 2 && eqb s 0)
  file_case e = rw e (sym (or-false (leb s 65536)))

  pub folder_case : k ≡ 2 → eqb s 0 ≡ (eqb k 1 && leb s 65536 || eqb k 2 && eqb s 0)
  folder_case e = rw e

  pub neither_case : (k ≡ 1 → ⊥) → (k ≡ 2 → ⊥) → false ≡ (eqb k 1 && leb s 65536 || eqb k 2 && eqb s 0)
  neither_case m n = rw (ne_eqb k 1 m, ne_eqb k 2 n)

-- names
regroup : (a b c d : Bool) → (a && (b && (c && d))) ≡ ((a && (b && c)) && d)
regroup true true c d = refl
regroup true false c d = refl
regroup false b c d = refl

pub component_name : (c : List ℕ) → component_form c ≡ (is_name c && every plain_byte c)
unfolding component_form is_name
component_name c = regroup (not (equal c [])) (not (equal c (dot ∷ []))) (not (equal c (dot ∷ dot ∷ [])))
    (every plain_byte c)

module _ (l : List ℕ) (i : ℕ) where
  plain_at : i < length l → every plain_byte (drop i l) ≡ (plain_byte (get_or l i 0) && every plain_byte (drop (i + 1) l))
  unfolding every
  plain_at h = ap (every plain_byte) (drop-cons l i 0 h ∙ ap (λ (n : ℕ). get_or l i 0 ∷ drop n l) (sym (add-one i)))

  pub plain-zero : i < length l → get_or l i 0 ≡ 0 → every plain_byte (drop i l) ≡ false
  plain-zero h e = plain_at h ∙ ap (λ (b : ℕ). plain_byte b && every plain_byte (drop (i + 1) l)) e

  pub plain-slash : i < length l → get_or l i 0 ≡ slash → every plain_byte (drop i l) ≡ false
  plain-slash h e = plain_at h ∙ ap (λ (b : ℕ). plain_byte b && every plain_byte (drop (i + 1) l)) e

  pub plain-next : i < length l → (get_or l i 0 ≡ 0 → ⊥) → (get_or l i 0 ≡ slash → ⊥)
      → every plain_byte (drop i l) ≡ every plain_byte (drop (i + 1) l)
  plain-next h m n = plain_at h ∙ rw (ne_eqb (get_or l i 0) 0 m, ne_eqb (get_or l i 0) slash n)

  pub plain_end : length l ≤ i → every plain_byte (drop i l) ≡ true
  unfolding every
  plain_end h = ap (every plain_byte) (drop_of_length-le l {i = i} h)

-- an empty name
pub no_bytes : (c : List ℕ) → eqb (length c) 0 ≡ equal c []
unfolding equal
no_bytes [] = refl
no_bytes (x ∷ c) = ne_eqb (suc (length c)) 0 (λ e. omega arith)

-- ids fit their width
pub id_below : (y : Layout) (s : List ℕ) (at : ℕ) → Bytes s → at + y.id_bytes ≤ length s
    → (record_at y s at).id < 256 ^ y.id_bytes
unfolding record_at
id_below y s at b h = part_below at y.id_bytes s b h

pub name-part : (y : Layout) (s : List ℕ) (at : ℕ) → part (at + front_length y) (record_end y s at - (at + front_length y))
    s ≡ (record_at y s at).name
unfolding record_at record_end
name-part y s at = ap₂ (λ (a n : ℕ). part a n s) (omega arith) (omega arith)

-- one byte of a part
part-one : (i : ℕ) (s : List ℕ) → i < length s → part i 1 s ≡ get_or s i 0 ∷ []
unfolding part
part-one i s h = ap (take 1) (drop-cons s i 0 h)

first_of : (i : ℕ) (s : List ℕ) → part i 1 s ≡ 1 ∷ [] → get_or s i 0 ≡ 1
unfolding part
first_of i s e =
    let z : i + 0 ≡ i = omega arith in
    ap (λ (k : ℕ). get_or s k 0) (sym z) ∙ sym (get_or-drop i s 0 0) ∙ first (drop i s) e
  where
    first : (l : List ℕ) → take 1 l ≡ 1 ∷ [] → get_or l 0 0 ≡ 1
    first [] e = absurd (nil≢cons e)
    first (x ∷ l) e = head-eq_of_cons-eq e

-- a record's maker, by the layout's number
pub unmade : (w maker : ℕ) (s : List ℕ) → maker ≡ 0 → (n at : ℕ) → marked_from (layout w maker) s at n ≡ true
unfolding marked_from equal part
unmade w maker s e zero at = refl
unmade w maker s e (suc n) at =
    let k : maker_bytes (layout w maker) ≡ [] = ap (λ (i : ℕ). maker_bytes (layout w i)) e ∙ no_maker w in
    and_both _ _ (ap (λ (b : List ℕ). equal (part (maker_at (layout w maker) at) (length b) s) b) k)
    (unmade w maker s e n (record_end (layout w maker) s at))

module _ (w maker : ℕ) (s : List ℕ) (at : ℕ) (e : maker ≡ 1) where
  by_byte : (b : Bool) → equal (part (maker_at (layout w maker) at) 1 s) (1 ∷ []) ≡ b
      → is_marked (layout w maker) s at ≡ b
  by_byte b t =
      let k : maker_bytes (layout w maker) ≡ 1 ∷ [] = ap (λ (i : ℕ). maker_bytes (layout w i)) e ∙ one_maker w in
      ap (λ (b : List ℕ). equal (part (maker_at (layout w maker) at) (length b) s) b) k ∙ t

  pub made : at + 2 * w + 2 < length s → get_or s (at + 2 * w + 2) 0 ≡ 1 → is_marked (layout w maker) s at ≡ true
  unfolding equal
  made h t = by_byte true (ap (λ (b : List ℕ). equal b (1 ∷ [])) (part-one (at + 2 * w + 2) s h) ∙ rw t)

  pub made_otherwise : (get_or s (at + 2 * w + 2) 0 ≡ 1 → ⊥) → is_marked (layout w maker) s at ≡ false
  made_otherwise n = by_byte false (go (is (equal (part (at + 2 * w + 2) 1 s) (1 ∷ []))))
    where
      go : Is (equal (part (at + 2 * w + 2) 1 s) (1 ∷ [])) → equal (part (at + 2 * w + 2) 1 s) (1 ∷ []) ≡ false
      go (is_f t) = t
      go (is_t t) = absurd (n (first_of (at + 2 * w + 2) s (equal_true _ _ t)))
