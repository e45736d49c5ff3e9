-- The staging area: bytes and new digests staged behind those that are there, each leaving the other alone.
-- Assumes nothing.
use Rattle.std.specs.Prelude.{◌≡◌, List, [], ◌∷◌, ◌++◌}
use Rattle.std.proofs.Math.Path.{refl, ap}
use Rattle.std.proofs.Common.{sym, ◌∙◌, arith}
use Prim.Native.Nat.{ℕ, suc, ◌+◌, ◌*◌, ◌≤◌, ◌<◌}
use Rattle.std.proofs.Math.ListN.{length, take, drop_of_length-le}
use Rattle.std.proofs.Math.Seq.{set_split}
use Rattle.lists.specs.Parts.{part, overwrite}
use Rattle.lists.specs.PartLaws.{length_part, part-part, part-after, part_within, take_overwrite}
use Rattle.lists.specs.Rows.{rows}
use Rattle.lists.specs.RowLaws.{length-rows, rows-part, rows-set}
use Rattle.memory.specs.Layout.{digest_width, data_size, new_digests, staging_size}
use Rattle.tables.specs.View.{staged_digests}
use Rattle.tables.specs.laws.ContentLaws.{front_kept}
use Rattle.guard_state.specs.declared.Guard.{Guard}
use Rattle.guard_state.specs.State.{staged_bytes}

-- the first k of n digests
pub digests_fewer : (s : List ℕ) → length s ≡ staging_size → (k n : ℕ) → k ≤ n → n ≤ new_digests
    → take k (staged_digests n s) ≡ staged_digests k s
unfolding staged_digests part
digests_fewer s full k n h f =
    let b = part data_size (n * digest_width) s in
    let l : length b ≡ n * digest_width = length_part data_size (n * digest_width) s (omega arith) in
    sym (rows-part digest_width n b 0 k (omega arith) (omega arith))
    ∙ ap (rows digest_width k) (part-part data_size (n * digest_width) (0 * digest_width) (k * digest_width) s (omega arith))

module _ (s : List ℕ) (full : length s ≡ staging_size) (x : List ℕ) where
  -- bytes behind the first n
  pub bytes-more : (n : ℕ) → n + length x ≤ data_size → take (n + length x) (overwrite s n x) ≡ take n s ++ x
  bytes-more n h = take_overwrite s n x (n + length x) refl (omega arith)

  pub digests_kept_lem : (n k : ℕ) → n + length x ≤ data_size → k ≤ new_digests
      → staged_digests k (overwrite s n x) ≡ staged_digests k s
  unfolding staged_digests
  digests_kept_lem n k h g = ap (rows digest_width k) (part-after s n x data_size (k * digest_width) h (omega arith))

  -- a digest behind the first k
  pub bytes-kept : (g : Guard) (k : ℕ) → g.bytes ≤ data_size → length x ≡ digest_width → k < new_digests
      → staged_bytes g (overwrite s (data_size + k * digest_width) x) ≡ staged_bytes g s
  unfolding staged_bytes
  bytes-kept g k h e f = front_kept s (data_size + k * digest_width) x g.bytes (omega arith) (omega arith)

  pub digests_more : (k : ℕ) → length x ≡ digest_width → k < new_digests
      → staged_digests (k + 1) (overwrite s (data_size + k * digest_width) x) ≡ staged_digests k s ++ (x ∷ [])
  unfolding staged_digests part
  digests_more k e f =
      let b = part data_size ((k + 1) * digest_width) s in
      let n : length b ≡ (k + 1) * digest_width = length_part data_size ((k + 1) * digest_width) s (omega arith) in
      let l : length (rows digest_width (k + 1) b) ≡ k + 1 = length-rows digest_width (k + 1) b in
      let front : take k (rows digest_width (k + 1) b) ≡ rows digest_width k (part data_size (k * digest_width) s) =
      digests_fewer s full k (k + 1) (omega arith) (omega arith) in
      ap (rows digest_width (k + 1)) (part_within s (data_size + k * digest_width) x data_size ((k + 1) * digest_width)
      (k * digest_width) refl (omega arith) (omega arith))
      ∙ rows-set digest_width (k + 1) b k x e (omega arith) (omega arith)
      ∙ set_split (rows digest_width (k + 1) b) k x (omega arith)
      ∙ rw (front, drop_of_length-le (rows digest_width (k + 1) b) {i = suc k} (omega arith))
