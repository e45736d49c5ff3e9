-- Overwrites: their cells, and one that lies in another.
-- Assumes nothing.
use Rattle.std.specs.Prelude.{ℕ, ◌+◌, ◌≤◌, ◌-◌, ◌≡◌, List, ◌++◌, get_or, take}
use Rattle.std.proofs.Common.{sym, ap, ◌∙◌, add-zero, arith, drop_at, get_or-take, get_or-drop, get_or-append-add}
use Rattle.std.proofs.Math.ListN.{length, drop, get_or-append}
use Rattle.std.proofs.Math.Seq.{length-take-le}
use Rattle.lists.specs.Cells.{inside, Where, low, mid, high, range}
use Rattle.lists.specs.Pick.{pick, pick_true, pick-false}
use Rattle.lists.specs.Parts.{part, overwrite}
use Rattle.lists.specs.PartLaws.{length_part, length_overwrite, part_within, overwrite_part, overwrite_all, overwrite_behind}

module _ {A : Type 0} where
  -- a cell is the new list's or the old one's
  pub get_or_overwrite : (d : A) (l : List A) (at : ℕ) (x : List A) (j : ℕ) → at + length x ≤ length l
      → get_or (overwrite l at x) j d ≡ pick (inside at (length x) j) (get_or x (j - at) d) (get_or l j d)
  unfolding overwrite
  get_or_overwrite d l at x j f = go (range at (length x) j)
    where
      t : length (take at l) ≡ at
      t = length-take-le at l (omega arith)

      behind : at ≤ j → get_or (take at l ++ (x ++ drop (at + length x) l)) j d ≡ get_or (x ++ drop (at + length x) l) (j - at) d
      behind h =
          let e : j ≡ length (take at l) + (j - at) = omega (arith, t) in
          ap (λ (k : ℕ). get_or (take at l ++ (x ++ drop (at + length x) l)) k d) e ∙ get_or-append-add (take at l) (x ++ drop (at + length x) l) (j - at) d

      go : Where at (length x) j → get_or (take at l ++ (x ++ drop (at + length x) l)) j d ≡ pick (inside at (length x) j) (get_or x (j - at) d) (get_or l j d)
      go (low h e) = get_or-append (take at l) (x ++ drop (at + length x) l) d j (omega (arith, t)) ∙ get_or-take at l j d h ∙ sym (pick-false _ _ _ e)
      go (mid h g e) = behind h ∙ get_or-append x (drop (at + length x) l) d (j - at) (omega arith) ∙ sym (pick_true _ _ _ e)
      go (high h g e) =
          let a : j - at ≡ length x + (j - (at + length x)) = omega arith in
          let b : at + length x + (j - (at + length x)) ≡ j = omega arith in
          behind h
          ∙ ap (λ (k : ℕ). get_or (x ++ drop (at + length x) l) k d) a
          ∙ get_or-append-add x (drop (at + length x) l) (j - (at + length x)) d
          ∙ get_or-drop (at + length x) l (j - (at + length x)) d
          ∙ ap (λ (k : ℕ). get_or l k d) b
          ∙ sym (pick-false _ _ _ e)

  -- one in place of another, and one in what another wrote
  again : (l : List A) (at : ℕ) (x z : List A) → length z ≡ length x → at + length x ≤ length l → overwrite (overwrite l at x) at z ≡ overwrite l at z
  unfolding overwrite
  again l at x z e f =
      overwrite_behind (take at l) (x ++ drop (at + length x) l) z at (length-take-le at l (omega arith))
      ∙ rw (drop_at x (drop (at + length x) l) (length z) (sym e), e)

  pub overwrite_within : (l : List A) (at : ℕ) (x : List A) (b : ℕ) (y : List A) → b + length y ≤ length x → at + length x ≤ length l
      → overwrite (overwrite l at x) (at + b) y ≡ overwrite l at (overwrite x b y)
  overwrite_within l at x b y h f =
      let n : length (overwrite l at x) ≡ length l = length_overwrite l at x f in
      let p : part at (length x) (overwrite l at x) ≡ x = part_within l at x at (length x) 0 (sym (add-zero at)) (omega arith) f ∙ overwrite_all (part at (length x) l) x (length_part at (length x) l f) in
      overwrite_part (overwrite l at x) at (length x) b y h (omega arith) ∙ rw p (again l at x (overwrite x b y) (length_overwrite x b y h) f)
