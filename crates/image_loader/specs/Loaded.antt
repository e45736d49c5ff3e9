-- A memory into which an image was loaded: its tables are what is parsed, and nothing else has changed.
-- Assumes nothing.
use Rattle.std.specs.Prelude.{ℕ, ◌≤◌, ◌≡◌, true, List, take, drop}
use Rattle.std.proofs.Math.Option.{some}
use Rattle.filesystem.specs.Tables.{NODES, PAGES, page_total}
use Rattle.filesystem.specs.Image.{Layout, sound_nodes, parse}
use Rattle.memory.specs.Layout.{mem_of, with_nodes, with_digests}
use Rattle.image_writer.specs.Images.{image_in}
use Rattle.image_records.specs.Records.{digest_count, image_nodes, image_digests}
use Rattle.image_records.specs.Formed.{Formed}

-- before and after are the memory's bytes, n is the number of nodes
pub record Loaded (y : Layout) (image before after : List ℕ) (n : ℕ) : Type 0 where
  pub tables : parse y image ≡ some (image_in n after)
  pub few : n ≤ NODES
  pub rest : mem_of after ≡ with_digests (mem_of after).digests (with_nodes (mem_of after).nodes (mem_of before))
  -- rows behind the image's are as they were
  pub nodes-behind : drop n (mem_of after).nodes ≡ drop n (mem_of before).nodes
  pub digests_behind : (k : ℕ) → k ≡ page_total (take n (mem_of after).nodes)
      → drop k (mem_of after).digests ≡ drop k (mem_of before).digests

-- what a sound image says
pub record SoundImage (y : Layout) (s : List ℕ) : Type 0 where
  pub form : Formed y s
  pub nodes : sound_nodes y.id_bytes (image_nodes y s) ≡ true
  pub count : digest_count y s ≡ page_total (image_nodes y s)
  pub few : digest_count y s ≤ PAGES
  pub is : parse y s ≡ some (image_nodes y s, image_digests y s)
