-- Laws of the image's parts, and of parts written one behind the other.
-- Assumes nothing.
use Rattle.std.specs.Prelude.{ℕ, ◌+◌, ◌*◌, ◌≤◌, ◌<◌, ◌≡◌, refl, List, [], ◌∷◌, ◌++◌, length, take, drop}
use Rattle.std.proofs.Math.Path.{ap}
use Rattle.std.proofs.Common.{ap₂, sym, ◌∙◌, append_assoc, arith, length-append, length-take-le}
use Rattle.lists.specs.LittleEndian.{encode, length-encode}
use Rattle.lists.specs.Form.{put_all}
use Rattle.lists.specs.Formats.{bytes}
use Rattle.lists.specs.Scans.{rest, rest_none}
use Rattle.lists.specs.Parts.{overwrite}
use Rattle.lists.specs.PartLaws.{overwrite_none, overwrite_next}
use Rattle.filesystem.specs.Tables.{NODES, PAGES, Node, no_node, node_at, pages_for, page_total}
use Rattle.filesystem.specs.Image.{Layout, node_form, image_form, maker_bytes, front_length, print, records_length}
use Rattle.filesystem.specs.ImageLaws.{length_record, length-records}
use Rattle.memory.specs.Layout.{mem_of}
use Rattle.memory.specs.laws.MemLaws.{length-nodes, length_digests}
use Rattle.filesystem.specs.Layouts.{layout}
use Rattle.filesystem.proofs.LayoutLaws.{maker_encoded}
use Rattle.image_writer.specs.Images.{nodes_in, image_in, record_length, middle}

-- A part written behind another.
module _ (l : List ℕ) (at : ℕ) (h : at ≤ length l) where
  pub next-part : {l₁ l₂ : List ℕ} (x y : List ℕ) (k : ℕ) → l₁ ≡ overwrite l at x → k ≡ at + length x
      → l₂ ≡ overwrite l₁ k y → l₂ ≡ overwrite l at (x ++ y)
  next-part x y k e p f = f ∙ ap (λ (o : List ℕ). overwrite o k y) e ∙ overwrite_next l at x y k p h

-- What stands from place i on.
module _ (m : List ℕ) (n : ℕ) (h : n ≤ NODES) where
  few : n ≤ length (mem_of m).nodes
  few = rw (length-nodes m) h

  pub rest_in : (i : ℕ) → i < n → drop i (nodes_in n m) ≡ node_at (mem_of m).nodes i ∷ drop (i + 1) (nodes_in n m)
  unfolding node_at
  rest_in i l = rest no_node (mem_of m).nodes n i few l

  end_in : (i : ℕ) → n ≤ i → drop i (nodes_in n m) ≡ []
  end_in i l = rest_none no_node (mem_of m).nodes n i few l

  pub pages_in : (i : ℕ) → i < n → page_total (drop i (nodes_in n m)) ≡ pages_for (node_at (mem_of m).nodes i).size +
      page_total (drop (i + 1) (nodes_in n m))
  unfolding page_total
  pages_in i l = ap page_total (rest_in i l)

  pub records_in : (y : Layout) (i : ℕ) → i < n
      → records_length y (drop i (nodes_in n m)) ≡ record_length y (node_at (mem_of m).nodes i) + records_length y
      (drop (i + 1) (nodes_in n m))
  unfolding records_length
  records_in y i l = ap (records_length y) (rest_in i l)

  pub put_in : (y : Layout) (i : ℕ) → i < n
      → put_all (node_form y) (drop i (nodes_in n m)) ≡ (node_form y).put (node_at (mem_of m).nodes i)
      ++ put_all (node_form y) (drop (i + 1) (nodes_in n m))
  unfolding put_all
  put_in y i l = ap (put_all (node_form y)) (rest_in i l)

  pub pages-end : (i : ℕ) → n ≤ i → page_total (drop i (nodes_in n m)) ≡ 0
  unfolding page_total
  pages-end i l = ap page_total (end_in i l)

  pub records_end_lem : (y : Layout) (i : ℕ) → n ≤ i → records_length y (drop i (nodes_in n m)) ≡ 0
  unfolding records_length
  records_end_lem y i l = ap (records_length y) (end_in i l)

  pub put-end : (y : Layout) (i : ℕ) → n ≤ i → put_all (node_form y) (drop i (nodes_in n m)) ≡ []
  unfolding put_all
  put-end y i l = ap (put_all (node_form y)) (end_in i l)

-- A record in four parts.
pub length-middle : (y : Layout) (kind mode size n : ℕ)
    → length (middle y kind mode size n) ≡ length (maker_bytes y) + 7
unfolding middle
length-middle y kind mode size n = simp (length-append, length-encode) (omega arith)

pub record_parts : (y : Layout) (n : Node)
    → (node_form y).put n ≡ encode y.id_bytes n.id
    ++ (encode y.id_bytes n.parent ++ (middle y n.kind n.mode n.size (length n.name) ++ n.name))
unfolding node_form middle
record_parts y n = simp append_assoc

-- what stands between ids and name, as five writes make it
pub middle_made : (l : List ℕ) (at w maker kind mode size n : ℕ) → maker ≤ 1 → at ≤ length l
    → {l₁ l₂ l₃ l₄ l₅ : List ℕ} → l₁ ≡ overwrite l at (encode 1 kind) → l₂ ≡ overwrite l₁ (at + 1) (encode 1 mode)
    → l₃ ≡ overwrite l₂ (at + 2) (encode maker 1) → l₄ ≡ overwrite l₃ (at + maker + 2) (encode 4 size)
    → l₅ ≡ overwrite l₄ (at + maker + 6) (encode 1 n)
    → l₅ ≡ overwrite l at (middle (layout w maker) kind mode size n)
unfolding middle
middle_made l at w maker kind mode size n s h e₁ e₂ e₃ e₄ e₅ =
    let a = encode 1 kind in
    let b = encode 1 mode in
    let c = encode maker 1 in
    let d = encode 4 size in
    let e = encode 1 n in
    let g₂ = next-part l at h a b (at + 1) e₁ (simp length-encode) e₂ in
    let g₃ = next-part l at h (a ++ b) c (at + 2) g₂ (simp (length-append, length-encode)) e₃ in
    let g₄ = next-part l at h ((a ++ b) ++ c) d (at + maker + 2) g₃
    (simp (length-append, length-encode) (omega arith)) e₄ in
    let g₅ = next-part l at h (((a ++ b) ++ c) ++ d) e (at + maker + 6) g₄
    (simp (length-append, length-encode) (omega arith)) e₅ in
    g₅ ∙ ap (overwrite l at) (rw (maker_encoded w maker s) (simp append_assoc))

-- the record as three writes make it
pub record_made : (y : Layout) (x : Node) (l : List ℕ) (at p q : ℕ) → at ≤ length l → p ≡ at + 2 * y.id_bytes
    → q ≡ at + front_length y → {l₁ l₂ l₃ name : List ℕ} {id parent kind mode size n : ℕ}
    → l₁ ≡ overwrite l at (encode y.id_bytes id ++ encode y.id_bytes parent)
    → l₂ ≡ overwrite l₁ p (middle y kind mode size n) → l₃ ≡ overwrite l₂ q name
    → id ≡ x.id → parent ≡ x.parent → kind ≡ x.kind → mode ≡ x.mode → size ≡ x.size → n ≡ length x.name
    → name ≡ x.name → l₃ ≡ overwrite l at ((node_form y).put x)
record_made y x l at p q h u v {name = name} {id = id} {parent = parent} {kind = kind} {mode = mode} {size = size}
    {n = n} e₁ e₂ e₃ i₁ i₂ i₃ i₄ i₅ i₆ i₇ =
    let a = encode y.id_bytes id in
    let b = encode y.id_bytes parent in
    let c = middle y kind mode size n in
    let k : length c ≡ length (maker_bytes y) + 7 = length-middle y kind mode size n in
    let g₂ = next-part l at h (a ++ b) c p e₁ (simp (length-append, length-encode) (omega arith)) e₂ in
    let g₃ = next-part l at h ((a ++ b) ++ c) name q g₂ (simp (length-append, length-encode) (omega arith)) e₃ in
    g₃ ∙ ap (overwrite l at) (rw (record_parts y x, i₁, i₂, i₃, i₄, i₅, i₆, i₇) (simp append_assoc))

-- The image in four parts.
pub print_parts : (y : Layout) (ns : List Node) (ds : List (List ℕ))
    → print y (ns, ds) ≡ (encode 4 (length ns) ++ put_all (node_form y) ns)
    ++ (encode 4 (length ds) ++ put_all (bytes 32) ds)
unfolding print image_form
print_parts y ns ds = refl

-- Records one after another: what remains to be written.
module _ (m : List ℕ) (n : ℕ) (h : n ≤ NODES) (y : Layout) (i : ℕ) where
  pub record_next : i < n → (l : List ℕ) (at : ℕ) → at ≤ length l → {l' : List ℕ} {at' : ℕ}
      → l' ≡ overwrite l at ((node_form y).put (node_at (mem_of m).nodes i))
      → at' ≡ at + record_length y (node_at (mem_of m).nodes i)
      → overwrite l' at' (put_all (node_form y) (drop (i + 1) (nodes_in n m))) ≡ overwrite l at
      (put_all (node_form y) (drop i (nodes_in n m)))
  record_next b l at f e g =
      let x = (node_form y).put (node_at (mem_of m).nodes i) in
      let r = put_all (node_form y) (drop (i + 1) (nodes_in n m)) in
      ap₂ (λ (o : List ℕ) (k : ℕ). overwrite o k r) e (g
      ∙ ap (λ (k : ℕ). at + k) (sym (length_record y (node_at (mem_of m).nodes i))))
      ∙ overwrite_next l at x r (at + length x) refl f ∙ ap (overwrite l at) (sym (put_in m n h y i b))

  pub records_done : n ≤ i → (l : List ℕ) (at : ℕ) → l ≡ overwrite l at (put_all (node_form y) (drop i (nodes_in n m)))
  records_done b l at = sym (ap (overwrite l at) (put-end m n h y i b) ∙ overwrite_none 0 l at)

-- The image as four writes make it, and the place behind it.
module _ (y : Layout) (n : ℕ) (l m : List ℕ) (at behind pages : ℕ) (d : List ℕ) (h : n ≤ NODES)
    (few : page_total (nodes_in n m) ≤ PAGES) (fits : at ≤ length l)
    (sized : behind ≡ at + 4 + records_length y (nodes_in n m)) (count : pages ≡ page_total (nodes_in n m))
    (flat : d ≡ put_all (bytes 32) (take pages (mem_of m).digests)) (size : length d ≡ pages * 32) where
  abbrev records : List ℕ
  records = put_all (node_form y) (nodes_in n m)

  as_parts : print y (image_in n m) ≡ (encode 4 n ++ records) ++ (encode 4 pages ++ d)
  as_parts =
      let ds = take (page_total (nodes_in n m)) (mem_of m).digests in
      let j : length (nodes_in n m) ≡ n = length-take-le n (mem_of m).nodes (rw (length-nodes m) h) in
      let k : length ds ≡ pages = length-take-le (page_total (nodes_in n m)) (mem_of m).digests
      (rw (length_digests m) few) ∙ sym count in
      let e : put_all (bytes 32) ds ≡ d = ap (λ (k : ℕ). put_all (bytes 32) (take k (mem_of m).digests)) (sym count)
      ∙ sym flat in
      print_parts y (nodes_in n m) ds ∙ ap₂ (λ (a : ℕ) (r : List ℕ). (encode 4 a ++ records) ++ r) j
      (ap₂ (λ (a : ℕ) (r : List ℕ). encode 4 a ++ r) k e)

  pub image-written : {l₁ l₂ l₃ l₄ : List ℕ} → l₁ ≡ overwrite l at (encode 4 n) → l₂ ≡ overwrite l₁ (at + 4) records
      → l₃ ≡ overwrite l₂ behind (encode 4 pages) → l₄ ≡ overwrite l₃ (behind + 4) d
      → (l₄ ≡ overwrite l at (print y (image_in n m))) × (behind + 4 + 32 * pages ≡ at + length (print y (image_in n m)))
  image-written e₁ e₂ e₃ e₄ =
      let i = encode 4 n in
      let j = encode 4 pages in
      let a : length i ≡ 4 = length-encode 4 n in
      let b : length records ≡ records_length y (nodes_in n m) = length-records y (nodes_in n m) in
      let c : length j ≡ 4 = length-encode 4 pages in
      let g₂ = next-part l at fits i records (at + 4) e₁ (omega arith) e₂ in
      let g₃ = next-part l at fits (i ++ records) j behind g₂ (simp length-append (omega arith)) e₃ in
      let g₄ = next-part l at fits ((i ++ records) ++ j) d (behind + 4) g₃ (simp length-append (omega arith)) e₄ in (
        g₄ ∙ rw as_parts (ap (overwrite l at) (append_assoc (i ++ records) j d)),
        rw as_parts (simp length-append (omega arith)),
      )
