-- A sound image is what is loaded.
-- Assumes nothing.
use Rattle.std.specs.Prelude.{ℕ, ◌+◌, ◌≤◌, ◌<◌, ◌≡◌, refl, true, List, [], ◌∷◌, ◌++◌, eqb, length, take, drop, set}
use Rattle.std.proofs.Common.{ap, ap₂, sym, ◌∙◌, true≢false, arith, add-one, drop_at, eqb-true}
use Rattle.std.proofs.Math.Option.{some}
use Rattle.lists.specs.All.{Bytes}
use Rattle.lists.specs.Equal.{Is, is_t, is_f, is, and_fst, and_snd, and_both}
use Rattle.lists.specs.Pick.{pick_true}
use Rattle.lists.specs.LittleEndian.{decode}
use Rattle.lists.specs.Parts.{overwrite, part}
use Rattle.lists.specs.PartLaws.{overwrite_front, overwrite_snoc, take_overwrite}
use Rattle.lists.specs.Rows.{rows}
use Rattle.lists.specs.RowLaws.{length-rows}
use Rattle.lists.specs.Form.{bind}
use Rattle.filesystem.specs.Tables.{NAME_BYTES, Node, no_node, new_node, with_size, page_total}
use Rattle.filesystem.specs.Image.{Layout, sound_nodes, sound, parse}
use Rattle.filesystem.specs.Sound.{to_sound, name-short}
use Rattle.memory.specs.Layout.{Mem, mem_of, with_nodes, with_digests}
use Rattle.image_records.specs.Records.{record_id, record_parent, record_kind, record_mode, record_at, record_end, nodes_from}
use Rattle.image_records.specs.Records.{end_from, node_count, records_end, digest_count, image_nodes, image_digests, formed}
use Rattle.image_records.specs.Records.{is_some}
use Rattle.image_records.specs.Formed.{Formed}
use Rattle.image_records.specs.laws.RecordLaws.{length_from, end_snoc, nodes_snoc, in_place}
use Rattle.image_records.specs.laws.ParseLaws.{to_formed, parsed_formed, unparsed, whole_got}
use Rattle.image_loader.specs.Loaded.{Loaded, SoundImage}

module _ (y : Layout) (s : List ℕ) where
  found : Formed y s → sound_nodes y.id_bytes (image_nodes y s) ≡ true
      → eqb (digest_count y s) (page_total (image_nodes y s)) ≡ true
      → parse y s ≡ some (image_nodes y s, image_digests y s)
  unfolding parse bind sound image_digests
  found f a b = rw (whole_got y s f.four f.marked f.ends)
      (pick_true _ _ _ (and_both _ _ a (rw (length-rows 32 (digest_count y s)) b)))

  pub to_sound_image : Bytes s → is_some (parse y s) ≡ true → SoundImage y s
  to_sound_image b e = go (is (formed y s))
    where
      go : Is (formed y s) → SoundImage y s
      go (is_f f) = absurd (true≢false (sym e ∙ unparsed y s b f))
      go (is_t t) =
          let f = to_formed y s t in
          let both = sym (parsed_formed y s f) ∙ e in
          let a = and_fst _ _ both in
          let c = and_snd (sound_nodes y.id_bytes (image_nodes y s)) _ both in
          let q : digest_count y s ≡ page_total (image_nodes y s) = eqb-true _ _ c in
          let p = (to_sound y.id_bytes (image_nodes y s) a).pages in
          record { form = f; nodes = a; count = q; few = omega arith; is = found f a c }

  -- the name of a sound node fits its row
  pub short-name : (n i : ℕ) → sound_nodes y.id_bytes (nodes_from y s 4 n) ≡ true → i < n → {at : ℕ}
      → at ≡ end_from y s 4 i
      → length (record_at y s at).name ≤ NAME_BYTES
  short-name n i e h q =
      let ns = nodes_from y s 4 n in
      let t = name-short y.id_bytes ns (to_sound y.id_bytes ns e) i (rw (length_from y s 4 n) h) in
      let k = ap (λ (x : Node). length x.name) (in_place y s 4 n i h ∙ ap (record_at y s) (sym q)) in
      omega (arith, t, k)

  -- one record more
  pub next-end : (at i : ℕ) → at ≡ end_from y s 4 i → {at' : ℕ} → at' ≡ record_end y s at → at' ≡ end_from y s 4 (i + 1)
  next-end at i e q = q ∙ ap (record_end y s) e ∙ sym (end_snoc y s 4 i) ∙ ap (end_from y s 4) (sym (add-one i))

  pub loaded-next : (l : List Node) (i at : ℕ) → at ≡ end_from y s 4 i → i < length l
      → set (overwrite l 0 (nodes_from y s 4 i)) i (record_at y s at) ≡ overwrite l 0 (nodes_from y s 4 (i + 1))
  loaded-next l i at e h =
      let k : length (nodes_from y s 4 i) ≡ i = length_from y s 4 i in
      let j : i ≡ 0 + length (nodes_from y s 4 i) = omega arith in
      ap (λ (n : ℕ). set (overwrite l 0 (nodes_from y s 4 i)) n (record_at y s at)) j
      ∙ overwrite_snoc no_node l 0 (nodes_from y s 4 i) (record_at y s at) (omega arith)
      ∙ ap (overwrite l 0) (sym (ap (nodes_from y s 4) (add-one i) ∙ nodes_snoc y s 4 i
      ∙ ap (λ (p : ℕ). nodes_from y s 4 i ++ (record_at y s p ∷ [])) (sym e)))

  pub same_node_lem : (at : ℕ) {id parent kind mode size : ℕ} {name : List ℕ}
      → id ≡ record_id y.id_bytes s at → parent ≡ record_parent y.id_bytes s at
      → kind ≡ record_kind y.id_bytes s at → mode ≡ record_mode y.id_bytes s at
      → size ≡ (record_at y s at).size → name ≡ (record_at y s at).name
      → with_size size (new_node id parent kind mode name) ≡ record_at y s at
  unfolding record_at
  same_node_lem at a b c d e f =
      λ i. record { id = a i; parent = b i; kind = c i; mode = d i; size = e i; name = f i }

-- both tables
front : {A : Type 0} (l x : List A) (n : ℕ) → n ≡ length x → take n (overwrite l 0 x) ≡ x
front l x n e = take_overwrite l 0 x n (e ∙ omega arith) (omega arith)

behind : {A : Type 0} (l x : List A) (n : ℕ) → n ≡ length x → drop n (overwrite l 0 x) ≡ drop n l
behind l x n e = rw (overwrite_front l x, e) (drop_at x (drop (length x) l) (length x) refl)

pub both-loaded : (y : Layout) (s before middle after : List ℕ) (n end : ℕ) → SoundImage y s → n ≡ node_count s
    → end ≡ records_end y s
    → mem_of middle ≡ with_nodes (overwrite (mem_of before).nodes 0 (image_nodes y s)) (mem_of before)
    → mem_of after ≡ with_digests
    (overwrite (mem_of middle).digests 0 (rows 32 (decode (part end 4 s)) (drop (end + 4) s))) (mem_of middle)
    → Loaded y s before after n
unfolding image_digests
both-loaded y s before middle after n end i q g a b =
    let ns = image_nodes y s in
    let ds = image_digests y s in
    let many : n ≡ length ns = q ∙ sym (length_from y s 4 (node_count s)) in
    let more : page_total ns ≡ length ds = sym i.count ∙ sym (length-rows 32 (digest_count y s) _) in
    let m = b ∙ ap₂ (λ (e : ℕ) (M : Mem).
    with_digests (overwrite M.digests 0 (rows 32 (decode (part e 4 s)) (drop (e + 4) s))) M) g a in
    let e : take n (mem_of after).nodes ≡ ns = ap (λ (M : Mem). take n M.nodes) m
    ∙ front (mem_of before).nodes ns n many in
    let d : take (page_total (take n (mem_of after).nodes)) (mem_of after).digests ≡ ds =
    ap₂ (λ (u : List Node) (M : Mem). take (page_total u) M.digests) e m
    ∙ front (mem_of before).digests ds (page_total ns) more in
    record {
      nodes-behind = ap (λ (M : Mem). drop n M.nodes) m ∙ behind (mem_of before).nodes ns n many;
      digests_behind = λ k p. ap (λ (M : Mem). drop k M.digests) m
          ∙ behind (mem_of before).digests ds k (p ∙ ap page_total e ∙ more);
      few = let z = i.form.count in omega arith;
      tables = i.is ∙ ap₂ (λ (u : List Node) (v : List (List ℕ)). some (u, v)) (sym e) (sym d);
      rest = m ∙ ap (λ (M : Mem). with_digests M.digests (with_nodes M.nodes (mem_of before))) (sym m);
    }
