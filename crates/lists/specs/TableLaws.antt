-- What a write does to the values of a table, and a move within the list that holds it.
-- Over any element, value, width and count; assumes nothing.
use Rattle.std.specs.Prelude.{ℕ, ◌+◌, ◌*◌, ◌<◌, ◌≤◌, ◌≡◌, get_or}
use Rattle.std.proofs.Math.Path.{sym, ap}
use Rattle.std.proofs.Common.{◌∙◌, arith, mul-le-mul_right}
use mathlib.Core.List.{List, [], map}
use Rattle.std.proofs.Math.Nat.{add-mul}
use Rattle.std.proofs.Math.ListN.{length, set, length-map, get_or-map}
use Rattle.lists.specs.Parts.{part, overwrite}
use Rattle.lists.specs.PartLaws.{length_part, part-part}
use Rattle.lists.specs.Rows.{rows, table}
use Rattle.lists.specs.RowLaws.{length-rows, row_at, rows_overwrite, rows-set, rows_within, rows-part, row_fits}
use Rattle.lists.specs.Maps.{map-set}
use Rattle.lists.specs.MapParts.{map-part, map_overwrite}

module _ {A B : Type 0} (v : List A → B) (w n : ℕ) where
  pub length-table : (b : List A) → length (table v w n b) ≡ n
  unfolding table
  length-table b = length-map (rows w n b) v ∙ length-rows w n b

  -- k rows from row i
  pub table_overwrite : (b : List A) (i k : ℕ) (x : List A) → length x ≡ k * w → i + k ≤ n → n * w ≤ length b
      → table v w n (overwrite b (i * w) x) ≡ overwrite (table v w n b) i (map v (rows w k x))
  unfolding table
  table_overwrite b i k x e h f = ap (map v) (rows_overwrite w n b i k x e h f) ∙ map_overwrite v (rows w n b) i (rows w k x)

  -- row i
  pub table-set : (b : List A) (i : ℕ) (x : List A) → length x ≡ w → i < n → n * w ≤ length b
      → table v w n (overwrite b (i * w) x) ≡ set (table v w n b) i (v x)
  unfolding table
  table-set b i x e h f = ap (map v) (rows-set w n b i x e h f) ∙ map-set v (rows w n b) i x

  -- inside row i
  pub table_within : (b : List A) (i k : ℕ) (x : List A) → k + length x ≤ w → i < n → n * w ≤ length b
      → table v w n (overwrite b (i * w + k) x) ≡ set (table v w n b) i (v (overwrite (part (i * w) w b) k x))
  unfolding table
  table_within b i k x g h f =
      ap (map v) (rows_within w n b i k x g h f)
      ∙ map-set v (rows w n b) i (overwrite (get_or (rows w n b) i []) k x)
      ∙ ap (λ (r : List A). set (map v (rows w n b)) i (v (overwrite r k x))) (row_at w n b i h)

  -- of the table that stands at a of l: the value of row i, and a move of k rows
  pub table_at : (a : ℕ) (l : List A) (i : ℕ) → i < n → get_or (table v w n (part a (n * w) l)) i (v []) ≡ v (part (a + i * w) w l)
  unfolding table
  table_at a l i h =
      get_or-map v (rows w n (part a (n * w) l)) i []
      ∙ ap v (row_at w n (part a (n * w) l) i h ∙ part-part a (n * w) (i * w) w l (row_fits w n i h))

  pub table-move : (a : ℕ) (l : List A) (from to k : ℕ) → from + k ≤ n → to + k ≤ n → a + n * w ≤ length l
      → table v w n (overwrite (part a (n * w) l) (to * w) (part (a + from * w) (k * w) l)) ≡ overwrite (table v w n (part a (n * w) l)) to (part from k (table v w n (part a (n * w) l)))
  unfolding table
  table-move a l from to k h g f =
      let e : from * w + k * w ≤ n * w = rw add-mul at (mul-le-mul_right {m = from + k} {n = n} w h) in
      let p : length (part a (n * w) l) ≡ n * w = length_part a (n * w) l f in
      let q : part (a + from * w) (k * w) l ≡ part (from * w) (k * w) (part a (n * w) l) = sym (part-part a (n * w) (from * w) (k * w) l e) in
      table_overwrite (part a (n * w) l) to k (part (a + from * w) (k * w) l) (length_part (a + from * w) (k * w) l (omega arith)) g (omega arith)
      ∙ ap (overwrite (map v (rows w n (part a (n * w) l))) to)
      (ap (λ (r : List A). map v (rows w k r)) q ∙ ap (map v) (rows-part w n (part a (n * w) l) from k h (omega arith)) ∙ map-part v from k (rows w n (part a (n * w) l)))
