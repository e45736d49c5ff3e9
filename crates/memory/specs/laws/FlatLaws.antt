-- Digests as they stand in the memory, one behind the other: read and written many at once.
-- Assumes nothing.
use Rattle.std.specs.Prelude.{ℕ, zero, suc, ◌+◌, ◌*◌, ◌≤◌, ◌≡◌, refl, List, [], ◌∷◌, length, take, drop}
use Rattle.std.proofs.Common.{sym, ap, ◌∙◌, zero-mul, suc-mul, arith, length-drop, take-append-drop}
use Rattle.lists.specs.Form.{put_all}
use Rattle.lists.specs.Formats.{bytes}
use Rattle.lists.specs.Parts.{part, overwrite}
use Rattle.lists.specs.PartLaws.{length_part, part-part}
use Rattle.lists.specs.Rows.{rows, table}
use Rattle.lists.specs.RowLaws.{rows-part}
use Rattle.lists.specs.TableLaws.{table_overwrite}
use Rattle.lists.specs.MapParts.{map_same}
use Rattle.filesystem.specs.Tables.{PAGES}
use Rattle.memory.specs.Layout.{mem_of, mem_from, memory_size, digest_width, digests_at, with_digests}
use Rattle.memory.specs.laws.MemLaws.{in_digests}

-- rows one behind the other are the list that was cut
pub flat_rows : (w n : ℕ) (x : List ℕ) → length x ≡ n * w → put_all (bytes w) (rows w n x) ≡ x
unfolding put_all rows
flat_rows w zero [] e = refl
flat_rows w zero (b ∷ x) e = absurd (let z : length (b ∷ x) ≡ 0 = rw (zero-mul w) at e in omega arith)
flat_rows w (suc n) x e =
    let g : length x ≡ n * w + w = rw (suc-mul n w) at e in
    rw (flat_rows w n (drop w x) (rw (length-drop w x) (omega arith))) (take-append-drop w x)

pub first_digests : (m : List ℕ) (n : ℕ) → n ≤ PAGES → memory_size ≤ length m
    → take n (mem_of m).digests ≡ rows digest_width n (part digests_at (n * digest_width) m)
unfolding mem_of mem_from table part
first_digests m n h f =
    let b = part digests_at (PAGES * digest_width) m in
    let e : length b ≡ PAGES * digest_width = length_part digests_at (PAGES * digest_width) m (omega arith) in
    ap (take n) (map_same (rows digest_width PAGES b))
    ∙ sym (rows-part digest_width PAGES b 0 n (omega arith) (omega arith))
    ∙ ap (rows digest_width n) (part-part digests_at (PAGES * digest_width) 0 (n * digest_width) m (omega arith))

pub flat_digests : (m : List ℕ) (n : ℕ) → n ≤ PAGES → memory_size ≤ length m
    → put_all (bytes digest_width) (take n (mem_of m).digests) ≡ part digests_at (n * digest_width) m
flat_digests m n h f =
    ap (put_all (bytes digest_width)) (first_digests m n h f)
    ∙ flat_rows digest_width n (part digests_at (n * digest_width) m) (length_part digests_at (n * digest_width) m
    (omega arith))

pub mem_digests : (m x : List ℕ) (n : ℕ) → memory_size ≤ length m → length x ≡ n * digest_width → n ≤ PAGES
    → mem_of (overwrite m digests_at x) ≡ with_digests (overwrite (mem_of m).digests 0 (rows digest_width n x)) (mem_of m)
unfolding mem_of mem_from
mem_digests m x n f e h =
    let b = part digests_at (PAGES * digest_width) m in
    let g : length b ≡ PAGES * digest_width = length_part digests_at (PAGES * digest_width) m (omega arith) in
    in_digests m x f 0 _ (omega arith)
    (table_overwrite (λ r. r) digest_width PAGES b 0 n x e (omega arith) (omega arith)
    ∙ ap (overwrite (mem_of m).digests 0) (map_same (rows digest_width n x)))
