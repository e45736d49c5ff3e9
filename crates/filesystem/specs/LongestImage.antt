-- Tables whose image is the longest over every layout in which 256 ids fit.
-- Assumes nothing.
use Rattle.std.specs.Prelude.{◌≡◌, refl, true, false, ◌||◌, ℕ, zero, suc, ◌+◌, ◌/◌, ◌%◌, ◌^◌, ◌≤◌, ◌<◌, leb, ltb, length}
use Rattle.std.proofs.Common.{ap, sym, ◌∙◌, subst, eq-eqb, ne_eqb}
use mathlib.Core.List.{List, [], ◌∷◌, head-eq_of_cons-eq, tail-eq_of_cons-eq}
use native.Mathlib.Omega.{arith}
use Rattle.lists.specs.Pick.{pick, pick_ind}
use Rattle.lists.specs.Equal.{equal, and_both}
use Rattle.lists.specs.Search.{every}
use Rattle.lists.specs.All.{All, Bytes, both, none}
use Rattle.lists.specs.Cells.{tab, get_or-tab, length-tab}
use Rattle.lists.specs.Places.{all_tab}
use Rattle.filesystem.specs.Tables.{FILE_BYTES, PATH_BYTES, Node, root, node_at, pages_for, page_total}
use Rattle.filesystem.specs.Paths.{component_form}
use Rattle.filesystem.specs.Image.{Layout, Image, in_limits, is_named, sound_nodes, sound, print, image_length}
use Rattle.filesystem.specs.Image.{records_length, longest_length}
use Rattle.filesystem.specs.Sound.{ParentAt, of_limits, of_sound}
use Rattle.filesystem.specs.Ways.{Way, top, up, bytes}
use Rattle.filesystem.specs.ImageLaws.{Shaped, length-print}

-- 255 files in the root, each with a name of 32 bytes; sixteen of them have all the pages
unfoldable pub leaf_name : ℕ → List ℕ
leaf_name i = (65 + i / 16) ∷ (65 + i % 16) ∷ tab 30 (λ _. 97)

unfoldable pub leaf : ℕ → Node
leaf i = record { id = i + 2; parent = 1; kind = 1; mode = 0; size = pick (ltb i 16) FILE_BYTES 0; name = leaf_name i }

unfoldable pub full : List Node
full = root ∷ tab 255 leaf

length-full : length full ≡ 256
unfolding full
length-full = ap suc (length-tab 255 leaf)

-- what holds of the root and of each file
full_ind : (P : ℕ → Node → Type 0) → P 0 root → ((k : ℕ) → k < 255 → P (suc k) (leaf k)) → (k : ℕ) → k < length full → P k (node_at full k)
unfolding full node_at
full_ind P f g zero h = f
full_ind P f g (suc k) h = let l : k < 255 = omega (arith, length-full) in subst (P (suc k)) (sym (get_or-tab 255 leaf k _ l)) (g k l)

leaf_limits : (w k : ℕ) → 256 < 256 ^ w → k < 255 → in_limits w (leaf k) ≡ true
unfolding leaf
leaf_limits w k wide h =
    of_limits w (leaf k) (record {
      id_some = omega arith;
      id_fits = omega arith;
      mode_fits = omega arith;
      kind_size = pick_ind (λ size. (leb size FILE_BYTES || false) ≡ true) (ltb k 16) (λ _. refl) (λ _. refl);
    })

root_limits : (w : ℕ) → 256 < 256 ^ w → in_limits w root ≡ true
root_limits w wide = of_limits w root (record {
  id_some = omega arith;
  id_fits = omega arith;
  mode_fits = omega arith;
  kind_size = refl;
})

leaf-named : (k : ℕ) → is_named (leaf k) ≡ true
unfolding leaf leaf_name component_form equal every tab
leaf-named k =
    let a = 65 + k / 16 in
    let b = 65 + k % 16 in
    rw (ne_eqb a 46 (omega arith), ne_eqb a 0 (omega arith), ne_eqb a 47 (omega arith), ne_eqb b 0 (omega arith), ne_eqb b 47 (omega arith))

full_limits : (w : ℕ) → 256 < 256 ^ w → (k : ℕ) → k < length full → in_limits w (node_at full k) ≡ true
full_limits w wide = full_ind (λ k n. in_limits w n ≡ true) (root_limits w wide) (λ k h. leaf_limits w k wide h)

full_ids : (i j : ℕ) → i < length full → j < length full → (node_at full i).id ≡ (node_at full j).id → i ≡ j
unfolding leaf
full_ids i j h l =
    full_ind (λ i n. n.id ≡ (node_at full j).id → i ≡ j)
    (full_ind (λ j m. 1 ≡ m.id → 0 ≡ j) (λ e. refl) (λ j l e. omega arith) j l)
    (λ i h. full_ind (λ j m. i + 2 ≡ m.id → suc i ≡ j) (λ e. omega arith) (λ j l e. omega arith) j l) i h

full_siblings : (i j : ℕ) → i < length full → j < length full → (node_at full i).parent ≡ (node_at full j).parent → (node_at full i).name ≡ (node_at full j).name
    → i ≡ j
unfolding leaf leaf_name
full_siblings i j h l =
    full_ind (λ i n. n.parent ≡ (node_at full j).parent → n.name ≡ (node_at full j).name → i ≡ j)
    (full_ind (λ j m. 0 ≡ m.parent → [] ≡ m.name → 0 ≡ j) (λ e f. refl) (λ j l e f. absurd (omega arith)) j l)
    (λ i h. full_ind (λ j m. 1 ≡ m.parent → leaf_name i ≡ m.name → suc i ≡ j) (λ e f. absurd (omega arith))
    (λ j l e f.
    let a : 65 + i / 16 ≡ 65 + j / 16 = head-eq_of_cons-eq f in
    let b : 65 + i % 16 ≡ 65 + j % 16 = head-eq_of_cons-eq (tail-eq_of_cons-eq f) in
    omega arith) j l) i h

leaf_parent : (k : ℕ) → ParentAt full (leaf k) 0
unfolding full leaf node_at
leaf_parent k = record { is_parent = refl; is_directory_lem = refl }

full_ways : (k : ℕ) → k < length full → (v : Way full 0 k) × (bytes v ≤ PATH_BYTES)
unfolding bytes
full_ways zero h = (top, omega arith)
full_ways (suc k) h =
    let q = full_ind (λ k n. 0 < k → ParentAt full n 0) (λ l. absurd (omega arith)) (λ k h l. leaf_parent k) (suc k) h (omega arith) in
    let n : length (node_at full (suc k)).name ≤ 32 = full_ind (λ k n. length n.name ≤ 32) (omega arith) (λ k h. leaf-short k) (suc k) h in
    (up 0 h q top, omega arith)
  where
    leaf-short : (k : ℕ) → length (leaf k).name ≤ 32
    leaf-short k = unfold leaf leaf_name in rw length-tab (omega arith)

full-pages : page_total full ≡ 1024
unfolding full leaf tab page_total pages_for pick
full-pages = refl

pub full-sound : (w : ℕ) → 256 < 256 ^ w → sound_nodes w full ≡ true
full-sound w wide =
    of_sound w full (record {
      has-root = omega (arith, length-full);
      count = omega (arith, length-full);
      root-first = unfold full node_at equal in refl;
      limits = full_limits w wide;
      names = λ k l h. full_ind (λ k n. 0 < k → is_named n ≡ true) (λ l. absurd (omega arith)) (λ k h l. leaf-named k) k h l;
      ids = full_ids;
      siblings = full_siblings;
      ways = full_ways;
      pages = omega (arith, full-pages);
    })

-- any digests will do
longest_image : Image
longest_image = (full, tab 1024 (λ _. tab 32 (λ _. 0)))

longest_sound : (w : ℕ) → 256 < 256 ^ w → sound w longest_image ≡ true
unfolding sound longest_image
longest_sound w wide = and_both _ _ (full-sound w wide)
    (eq-eqb _ _ (length-tab 1024 (λ _. tab 32 (λ _. 0)) ∙ sym full-pages))

leaf-bytes : (k : ℕ) → k < 255 → Bytes (leaf k).name
unfolding leaf leaf_name
leaf-bytes k h = both {x = 65 + k / 16} (omega arith) (both {x = 65 + k % 16} (omega arith) (all_tab 30 (λ _. 97) (λ i l. omega arith)))

pub full-named : All (λ (n : Node). Bytes n.name) full
unfolding full
full-named = both none (all_tab 255 leaf leaf-bytes)

longest_shaped : Shaped longest_image
unfolding longest_image
longest_shaped = record {
  names = full-named;
  digests = all_tab 1024 (λ _. tab 32 (λ _. 0)) (λ i l. (length-tab 32 (λ _. 0), all_tab 32 (λ _. 0) (λ i l. omega arith)));
}

pub longest_reached : (y : Layout) → 256 < 256 ^ y.id_bytes → (i : Image) × (sound y.id_bytes i ≡ true) × Shaped i
    × (length (print y i) ≡ longest_length y)
longest_reached y wide =
    let e = longest_sound y.id_bytes wide in
    (longest_image, e, longest_shaped, length-print y longest_image e longest_shaped ∙ long)
  where
    long : image_length y longest_image.0 ≡ longest_length y
    long = unfold longest_image full leaf leaf_name tab page_total pages_for pick image_length records_length longest_length
        in omega arith
