-- What the changes of the memory's tables do to the view.
-- Assumes nothing.
use Rattle.std.specs.Prelude.{◌≡◌, List, [], ◌∷◌, ◌++◌, ℕ, ◌+◌, ◌-◌, ◌≤◌, ◌<◌}
use Rattle.std.proofs.Math.Path.{refl, ap, ap₂}
use Rattle.std.proofs.Common.{sym, ◌∙◌, arith, take-suc-set}
use Rattle.std.proofs.Math.Numerals.{add-one}
use Rattle.std.proofs.Math.ListN.{length, get_or, take, set}
use Rattle.std.proofs.Math.Seq.{length-take-le, take-take, take-set-lt, get_or-take, map-set_same}
use Rattle.lists.specs.Parts.{part, overwrite}
use Rattle.lists.specs.PartLaws.{length_part, take_overwrite, part_of_take}
use Rattle.lists.specs.Search.{without}
use Rattle.filesystem.specs.Tables.{with_mode, Node, no_node, OpenFile, no_open_file, node_at, open_at, pages_for, page_total}
use Rattle.filesystem.specs.Tables.{set_mode, set_cursor}
use Rattle.filesystem.specs.Image.{divide}
use Rattle.memory.specs.Layout.{Mem, with_nodes, with_opens, with_digests, with_staged}
use Rattle.tables.specs.declared.Span.{Span}
use Rattle.tables.specs.View.{Spans, with_files, with_opens as view_opens, view_of, with_node, without_node, mode_at}
use Rattle.tables.specs.View.{with_open, without_open, cursor_at, with_staging}
use Rattle.tables.specs.laws.ContentLaws.{divide_snoc, divide-without, divide-sizes}

-- lists of which the first n count
module _ {A : Type 0} (l : List A) (n : ℕ) (fits : n ≤ length l) where
  pub front_added : (x : A) → n < length l → take (n + 1) (set l n x) ≡ take n l ++ (x ∷ [])
  front_added x h = rw (add-one n) (take-suc-set l n x h)

  pub front_removed : (i : ℕ) → i < n → take (n - 1) (overwrite l i (part (i + 1) (n - (i + 1)) l)) ≡ without i
      (take n l)
  unfolding without
  front_removed i h =
      let k : length (part (i + 1) (n - (i + 1)) l) ≡ n - (i + 1) = length_part (i + 1) (n - (i + 1)) l (omega arith) in
      take_overwrite l i (part (i + 1) (n - (i + 1)) l) (n - 1) (omega arith) (omega arith)
      ∙ rw (part_of_take l (i + 1) n (omega arith), take-take i n l (omega arith), add-one i)

module _ (m : Mem) (n o : ℕ) where
  pub view_add : (x : Node) → n < length m.nodes → x.size ≡ 0
      → view_of (n + 1) o (with_nodes (set m.nodes n x) m) ≡ with_node x (view_of n o m)
  unfolding view_of
  view_add x h e =
      let q : take (n + 1) (set m.nodes n x) ≡ take n m.nodes ++ (x ∷ []) = front_added m.nodes n (omega arith)
      x h in
      ap₂ (λ ns ds. with_files ns ds (view_of n o m)) q (ap (λ ns. divide ns m.digests) q
      ∙ divide_snoc (take n m.nodes) x m.digests e)

  pub view_open : (x : OpenFile) → o < length m.opens
      → view_of n (o + 1) (with_opens (set m.opens o x) m) ≡ with_open x (view_of n o m)
  unfolding view_of
  view_open x h = ap (λ os. view_opens os (view_of n o m)) (front_added m.opens o (omega arith) x h)

  pub view_close : (k : ℕ) → k < o → o ≤ length m.opens
      → view_of n (o - 1) (with_opens (overwrite m.opens k (part (k + 1) (o - (k + 1)) m.opens)) m) ≡ without_open k
      (view_of n o m)
  unfolding view_of
  view_close k h f = ap (λ os. view_opens os (view_of n o m)) (front_removed m.opens o f k h)

  -- node k is taken out, and its digests
  pub view_remove : {k : ℕ} {s : Span} → Spans m.nodes n k s → n ≤ length m.nodes → s.total ≤ length m.digests
      → view_of (n - 1) o (with_nodes (overwrite m.nodes k (part (k + 1) (n - (k + 1)) m.nodes))
      (with_digests (overwrite m.digests s.first (part s.end (s.total - s.end) m.digests)) m))
      ≡ without_node k (view_of n o m)
  unfolding view_of node_at
  view_remove {k} {s} p g t =
      let h = p.known in
      let ns = take n m.nodes in
      let r : take (n - 1) (overwrite m.nodes k (part (k + 1) (n - (k + 1)) m.nodes)) ≡ without k ns =
      front_removed m.nodes n g k h in
      let c : take k ns ≡ take k m.nodes = take-take k n m.nodes (omega arith) in
      let d : get_or ns k no_node ≡ get_or m.nodes k no_node = get_or-take n m.nodes k no_node h in
      let l : length ns ≡ n = length-take-le n m.nodes g in
      ap₂ (λ ns ds. with_files ns ds (view_of n o m)) r
      (ap₂ (λ ns j. divide ns (overwrite m.digests s.first (part s.end (j - s.end) m.digests))) r p.all
      ∙ divide-without ns k (omega arith) m.digests s.first s.end (p.begins ∙ ap page_total (sym c)) (p.ends
      ∙ ap (λ (x : Node). s.first + pages_for x.size) (sym d)) (rw p.all at t))

  -- what is staged, a node, the cursor of an open file
  pub view_stage : (s : List ℕ) → view_of n o (with_staged s m) ≡ with_staging s (view_of n o m)
  unfolding view_of
  view_stage s = refl

  -- a node that keeps its size
  pub view_node : (k : ℕ) (f : Node → Node) → ((z : Node) → (f z).size ≡ z.size) → k < n
      → view_of n o (with_nodes (set m.nodes k (f (node_at m.nodes k))) m)
      ≡ with_files (set (view_of n o m).nodes k (f (node_at (view_of n o m).nodes k))) (view_of n o m).contents
      (view_of n o m)
  unfolding view_of node_at
  view_node k f q h =
      let ns = take n m.nodes in
      let y = f (get_or ns k no_node) in
      let e : take n (set m.nodes k (f (get_or m.nodes k no_node))) ≡ set ns k y =
      take-set-lt n m.nodes k (f (get_or m.nodes k no_node)) h ∙ ap (λ (z : Node). set ns k (f z))
      (sym (get_or-take n m.nodes k no_node h)) in
      ap₂ (λ a b. with_files a b (view_of n o m)) e
      (ap (λ a. divide a m.digests) e ∙ divide-sizes (set ns k y) ns m.digests
      (map-set_same (λ (z : Node). z.size) ns k y no_node (q (get_or ns k no_node))))

  pub view_mode : (k x : ℕ) → k < n → view_of n o (with_nodes (set_mode m.nodes k x) m) ≡ mode_at k x (view_of n o m)
  unfolding set_mode
  view_mode k x h = view_node k (with_mode x) (λ z. refl) h

  pub view_cursor : (k x : ℕ) → k < o → view_of n o (with_opens (set_cursor m.opens k x) m) ≡ cursor_at k x
      (view_of n o m)
  unfolding view_of set_cursor open_at
  view_cursor k x h = ap (λ os. view_opens os (view_of n o m)) (take-set-lt o m.opens k _ h
      ∙ ap (λ (y : OpenFile). set (take o m.opens) k
      (record { handle = y.handle; descriptor = y.descriptor; rights = y.rights; cursor = x }))
      (sym (get_or-take o m.opens k no_open_file h)))
