-- A growing truncation (SPECIFICATION 4.6, 5.2): one cut and no page; what it leaves is the old bytes with zeros behind, the old digests and then the
-- zero page's; the cursor and every other node are as before.
-- Assumes nothing.
use Rattle.std.specs.Prelude.{◌≡◌, set}
use Rattle.std.proofs.Math.Path.{refl, ap}
use Rattle.std.proofs.Common.{sym, ◌∙◌}
use mathlib.Core.List.{List, [], ◌∷◌, ◌++◌}
use Prim.Native.Nat.{ℕ, ◌+◌, ◌-◌, ◌≤◌, ◌<◌}
use native.Mathlib.Omega.{arith}
use Rattle.std.proofs.Math.ListN.{length, get_or, get_or-eq_default}
use Rattle.std.proofs.lemmas.List.{set-get_or}
use Rattle.lists.specs.Pick.{pick, pick-false}
use Rattle.lists.specs.Cells.{Where, low, mid, high, range, inside, tab, tab_cong, tab-append}
use Rattle.filesystem.specs.Tables.{no_open_file, open_at, pages_for, set_size, set_cursor}
use Rattle.filesystem.specs.Digests.{replaced}
use Rattle.rules.specs.Pages.{growing, resized, first, last, cuts, bytes_after, size_after, cursor_after, number_of}
use Rattle.rules.specs.Requests.{cut_request, cutting}
use Rattle.rules.specs.Skeleton.{Config, done}
use Rattle.rules.specs.Rules.{begin, cut_done}
use Rattle.machine.specs.Machine.{Store, State, content_at, descriptor_at, asking, ending, cleared, finish_change, pages_stored, pages_from, apply, zero_digest, guard}
use Rattle.machine.specs.Tree.{tree}

cells : {A : Type 0} (z : A) (l : List A) → tab (length l) (λ j. get_or l j z) ≡ l
unfolding tab
cells z [] = refl
cells z (x ∷ l) = ap (λ k. x ∷ k) (cells z l)

module _ (c : Config) (S : Store) (s : State S) (k o n : ℕ) where
  -- one cut goes out, whatever the old size is
  pub growth_asks : apply c S s (begin k o (growing n))
      ≡ asking c S (cleared c S s) (cut_request (descriptor_at c S s o) n) (cutting k o (growing n)) S.nothing
  unfolding apply pages_from pages_stored pick first last cuts size_after
  growth_asks = refl

  -- what is left beside pages: that node's size is the new one; the open files are the same, cursors too
  pub growth_leaves : apply c S s (cut_done k o (growing n))
      ≡ ending c S s (done 0 []) (record { nodes = set_size s.skeleton.tables.nodes k n; opens = s.skeleton.tables.opens })
      (set s.contents k (S.changed (content_at c S s k) (growing n) n s.progress))
  unfolding apply finish_change number_of size_after cursor_after set_cursor open_at
  growth_leaves =
      ap (λ os. ending c S s (done 0 []) (record { nodes = set_size s.skeleton.tables.nodes k n; opens = os })
      (set s.contents k (S.changed (content_at c S s k) (growing n) n s.progress)))
      (set-get_or s.skeleton.tables.opens o no_open_file)

module _ (c : Config) where
  -- the tree holds the old bytes with zeros behind
  pub growth_bytes : (b : List ℕ) (n size : ℕ) → (tree c).changed b (growing n) size tt ≡ resized b n
  unfolding bytes_after
  growth_bytes b n size = refl

  -- the guard the old digests, and then the zero page's
  pub growth_digests : (ds : List (List ℕ)) (b : List ℕ) (size n : ℕ) → length ds ≡ pages_for size → size < n
      → (guard c).changed ds (growing n) n (record { bytes = b; digests = [] }) ≡ ds ++ tab (pages_for n - pages_for size) (λ _. zero_digest c)
  unfolding replaced first
  growth_digests ds b size n e h =
      ap (λ m. tab m cell) (sum e)
      ∙ (sym (tab-append (length ds) (pages_for n - pages_for size) cell)
      ∙ (λ i. (tab_cong (length ds) cell (λ j. get_or ds j (zero_digest c)) (λ j l. bare j) ∙ cells (zero_digest c) ds) i
      ++ tab_cong (pages_for n - pages_for size) (λ j. cell (length ds + j)) (λ _. zero_digest c)
      (λ j l. bare (length ds + j) ∙ get_or-eq_default ds (zero_digest c) {n = length ds + j} (omega arith)) i))
    where
      cell : ℕ → List ℕ
      cell i = pick (inside 0 0 i) (get_or [] (i - 0) []) (get_or ds i (zero_digest c))

      sum : length ds ≡ pages_for size → pages_for n ≡ length ds + (pages_for n - pages_for size)
      sum q = let l : pages_for size ≤ pages_for n = (unfold pages_for in omega arith) in omega arith

      bare : (i : ℕ) → cell i ≡ get_or ds i (zero_digest c)
      bare i = go (range 0 0 i)
        where
          go : Where 0 0 i → cell i ≡ get_or ds i (zero_digest c)
          go (low a q) = pick-false _ _ _ q
          go (mid a l q) = absurd (omega arith)
          go (high a l q) = pick-false _ _ _ q
