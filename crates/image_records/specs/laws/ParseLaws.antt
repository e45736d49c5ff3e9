-- The form read as the definition reads it: which bytes are parsed, and what is parsed.
-- Assumes nothing.
use Prim.Native.Nat.{ℕ, zero, suc, ◌+◌, ◌-◌, ◌*◌, ◌%◌, ◌≤◌, ◌<◌}
use Rattle.std.specs.Prelude.{◌≡◌, Bool, false, ◌&&◌, leb, take}
use Rattle.std.proofs.Math.Path.{refl, ap, sym}
use Rattle.std.proofs.Common.{◌∙◌, get_or-drop}
use Rattle.std.proofs.Math.Bool.{true, true≢false}
use mathlib.Core.List.{List, [], ◌∷◌, ◌++◌, append_assoc}
use Rattle.std.proofs.Math.Option.{Option, some, none}
use native.Mathlib.Omega.{arith}
use Rattle.std.proofs.Math.Dec.{eqb}
use Rattle.std.proofs.Math.ListN.{length, get_or, drop, length-append, length-drop, drop_of_length-le}
use Rattle.std.proofs.Math.Seq.{take_at, drop_at, drop-drop, get_or-append-add}
use borrow.Author.Tests.{le-leb, lt-leb, leb-true, leb-false, eqb-true, eqb-false}
use Rattle.lists.specs.All.{Bytes, all_drop}
use Rattle.lists.specs.Equal.{Is, is_t, is_f, is, equal, equal_yes, and_fst, and_snd, and_both}
use Rattle.lists.specs.Pick.{pick, pick_true, pick-false}
use Rattle.lists.specs.Parts.{part}
use Rattle.lists.specs.Rows.{rows}
use Rattle.lists.specs.RowLaws.{length-rows}
use Rattle.lists.specs.LittleEndian.{encode, decode, length-encode}
use Rattle.lists.specs.NumberParts.{decode-first, decode_none}
use Rattle.lists.specs.Form.{Form, front, bind, get₂, get_fixed, get_as, get_all, whole, ended}
use Rattle.lists.specs.Formats.{num, text, bytes, counted}
use Rattle.filesystem.specs.Tables.{NODES, Node, page_total}
use Rattle.filesystem.specs.Image.{Layout, maker_bytes, front_length, node_form, Image, image_form, sound_nodes, sound}
use Rattle.filesystem.specs.Image.{parse}
use Rattle.filesystem.specs.ImageLaws.{length_record}
use Rattle.filesystem.specs.Sound.{unsound}
use Rattle.image_records.specs.Records.{maker_at, size_at, record_at, record_end, nodes_from, end_from, node_count}
use Rattle.image_records.specs.Records.{records_end, is_marked, marked_from}
use Rattle.image_records.specs.Records.{digest_count, image_nodes, image_digests, formed, is_some}
use Rattle.image_records.specs.laws.RecordLaws.{end-least, length_from, formed_yes}
use Rattle.image_records.specs.Formed.{Formed}

-- one byte
byte : (at : ℕ) (l : List ℕ) → decode (part at 1 l) ≡ get_or l at 0
byte at l = rw (decode-first 0 at l, decode_none (at + 1) l) (omega arith)

module _ {A : Type 0} (n : ℕ) (f : List ℕ → A) (at : ℕ) (s : List ℕ) where
  front_yes : at + n ≤ length s → front n f (drop at s) ≡ some (f (part at n s), drop (at + n) s)
  unfolding front part
  front_yes h = pick_true _ _ _ (le-leb n (length (drop at s)) (rw length-drop (omega arith))) ∙ rw (drop-drop n at s)

  front-no : at ≤ length s → length s < at + n → front n f (drop at s) ≡ none
  unfolding front
  front-no g h = pick-false _ _ _ (lt-leb n (length (drop at s)) (rw length-drop (omega arith)))

-- A record.
module _ (y : Layout) (s : List ℕ) (at : ℕ) where
  abbrev w : ℕ
  w = y.id_bytes

  abbrev m : ℕ
  m = length (maker_bytes y)

  record_got : record_end y s at ≤ length s → is_marked y s at ≡ true
      → (node_form y).get (drop at s) ≡ some (record_at y s at, drop (record_end y s at) s)
  unfolding node_form get_as get₂ get_fixed bind record_at record_end
  record_got h t =
      let p₄ = at + w + w + 1 + 1 in
      let p₅ = p₄ + m in
      let p₆ = p₅ + 4 in
      let n = decode (part p₆ 1 s) in
      let q₂ : at + w + w ≡ at + 2 * w = omega arith in
      let q₃ : at + w + w + 1 ≡ at + 2 * w + 1 = omega arith in
      let q₄ : p₄ ≡ maker_at y at = omega arith in
      let q₅ : p₅ ≡ size_at y at = omega arith in
      let q₆ : p₆ ≡ size_at y at + 4 = omega arith in
      let q₇ : p₆ + 1 ≡ size_at y at + 5 = omega arith in
      let e : n ≡ get_or s (size_at y at + 4) 0 = byte p₆ s ∙ ap (λ (p : ℕ). get_or s p 0) q₆ in
      let q₈ : p₆ + 1 + n ≡ at + front_length y + get_or s (size_at y at + 4) 0 = omega arith in
      let k₂ : decode (part (at + w + w) 1 s) ≡ get_or s (at + 2 * w) 0 = byte (at + w + w) s
      ∙ ap (λ (p : ℕ). get_or s p 0) q₂ in
      let k₃ : decode (part (at + w + w + 1) 1 s) ≡ get_or s (at + 2 * w + 1) 0 = byte (at + w + w + 1) s
      ∙ ap (λ (p : ℕ). get_or s p 0) q₃ in
      let u : equal (part p₄ m s) (maker_bytes y) ≡ true = ap (λ (p : ℕ). equal (part p m s) (maker_bytes y)) q₄ ∙ t in
      rw (
        front_yes w decode at s (omega arith),
        front_yes w decode (at + w) s (omega arith),
        front_yes 1 decode (at + w + w) s (omega arith),
        front_yes 1 decode (at + w + w + 1) s (omega arith),
        front_yes m (λ b. b) p₄ s (omega arith),
        pick_true (equal (part p₄ m s) (maker_bytes y)) (get₂ (num 4) (λ _. text 1) (drop p₅ s)) none u,
        front_yes 4 decode p₅ s (omega arith),
        front_yes 1 decode p₆ s (omega arith),
        front_yes n (λ b. b) (p₆ + 1) s (omega arith),
      )
      (λ i. some (
        record {
          id = decode (part at w s);
          parent = decode (part (at + w) w s);
          kind = k₂ i;
          mode = k₃ i;
          size = decode (part (q₅ i) 4 s);
          name = part (q₇ i) (e i) s;
        },
        drop (q₈ i) s,
      ))

  -- what was put has its maker and its length's byte where they are read
  module _ (x : Node) (r : List ℕ) (q : drop at s ≡ (node_form y).put x ++ r) where
    abbrev front₄ : List ℕ
    front₄ = encode w x.id ++ (encode w x.parent ++ (encode 1 x.kind ++ encode 1 x.mode))

    abbrev behind : List ℕ
    behind = encode 4 x.size ++ (encode 1 (length x.name) ++ (x.name ++ r))

    front_length_lem : length front₄ ≡ 2 * w + 2
    front_length_lem = simp (length-append, length-encode) (omega arith)

    parts : drop at s ≡ front₄ ++ (maker_bytes y ++ behind)
    unfolding node_form
    parts = q ∙ simp append_assoc

    is_marked_lem : is_marked y s at ≡ true
    unfolding part
    is_marked_lem =
        let e : at + (2 * w + 2) ≡ maker_at y at = omega arith in
        let d : drop (maker_at y at) s ≡ maker_bytes y ++ behind = ap (λ (p : ℕ). drop p s) (sym e)
        ∙ sym (drop-drop (2 * w + 2) at s) ∙ ap (drop (2 * w + 2)) parts
        ∙ drop_at front₄ (maker_bytes y ++ behind) (2 * w + 2) front_length_lem in
        equal_yes _ _ (ap (take m) d ∙ take_at (maker_bytes y) behind m refl)

    length_byte : get_or s (size_at y at + 4) 0 ≡ length x.name % 256
    unfolding encode
    length_byte =
        let a = front₄ ++ (maker_bytes y ++ encode 4 x.size) in
        let l : length a ≡ 2 * w + m + 6 = simp (length-append, length-encode) (omega arith) in
        let e : at + (length a + 0) ≡ size_at y at + 4 = omega arith in
        let d : drop at s ≡ a ++ (encode 1 (length x.name) ++ (x.name ++ r)) = parts ∙ simp append_assoc in
        ap (λ (p : ℕ). get_or s p 0) (sym e) ∙ sym (get_or-drop at s (length a + 0) 0)
        ∙ ap (λ (b : List ℕ). get_or b (length a + 0) 0) d
        ∙ get_or-append-add a (encode 1 (length x.name) ++ (x.name ++ r)) 0 0

  name_fits : (x : Node) → (node_form y).ok x → length x.name < 256
  unfolding node_form
  name_fits x o = o.1.1.1.1.1.0

  end_fits : (x : Node) (r : List ℕ) → at ≤ length s → (node_form y).ok x → drop at s ≡ (node_form y).put x ++ r
      → record_end y s at ≤ length s
  unfolding record_end
  end_fits x r g o q =
      let n : length s - at ≡ front_length y + length x.name + length r = sym (length-drop at s) ∙ ap length q
      ∙ length-append ((node_form y).put x) r ∙ ap (λ (k : ℕ). k + length r) (length_record y x) in
      omega (arith, name_fits x o, length_byte x r q)

  record_none : Bytes s → at ≤ length s → (record_end y s at ≤ length s → is_marked y s at ≡ true → ⊥)
      → (node_form y).get (drop at s) ≡ none
  record_none b g h = go ((node_form y).get (drop at s)) refl
    where
      go : (o : Option (Node × List ℕ)) → (node_form y).get (drop at s) ≡ o → o ≡ none
      go none e = refl
      go (some (x, r)) e =
          let (o, q, _) = (node_form y).was-written (drop at s) x r (all_drop at b) e in
          absurd (h (end_fits x r g o q) (is_marked_lem x r q))

-- Records and digests.
module _ (y : Layout) (s : List ℕ) where
  all_got : (n at : ℕ) → end_from y s at n ≤ length s → marked_from y s at n ≡ true
      → get_all (node_form y) n (drop at s) ≡ some
      (nodes_from y s at n, drop (end_from y s at n) s)
  unfolding get_all bind nodes_from end_from marked_from
  all_got zero at h t = refl
  all_got (suc n) at h t =
      let l = end-least y s (record_end y s at) n in
      rw (
        record_got y s at (omega arith) (and_fst _ _ t),
        all_got n (record_end y s at) h
            (and_snd (is_marked y s at) _ t),
      )

  all_none : Bytes s → (n at : ℕ) → at ≤ length s → (end_from y s at n ≤ length s → marked_from y s at n ≡ true → ⊥)
      → get_all (node_form y) n (drop at s) ≡ none
  unfolding get_all bind end_from marked_from
  all_none b zero at g h = absurd (h g refl)
  all_none b (suc n) at g h = go (is (leb (record_end y s at) (length s))) (is (is_marked y s at))
      (all_none b n (record_end y s at))
    where
      go : Is (leb (record_end y s at) (length s)) → Is (is_marked y s at)
          → (record_end y s at ≤ length s
          → (end_from y s (record_end y s at) n ≤ length s → marked_from y s (record_end y s at) n ≡ true → ⊥)
          → get_all (node_form y) n (drop (record_end y s at) s) ≡ none)
          → get_all (node_form y) (suc n) (drop at s) ≡ none
      go (is_t t) (is_t k) ih =
          let l = leb-true _ _ t in
          rw (record_got y s at l k, ih l (λ e f. h e (and_both _ _ k f)))
      go (is_f t) k ih = rw (record_none y s at b g (λ e f. let l = leb-false (record_end y s at) (length s) t in omega
          arith))
      go (is_t t) (is_f k) ih = rw (record_none y s at b g (λ e f. true≢false (sym f ∙ k)))

  digests_got : (k at : ℕ) → at + k * 32 ≤ length s → get_all (bytes 32) k (drop at s) ≡ some
      (rows 32 k (drop at s), drop (at + k * 32) s)
  unfolding get_all bind rows part
  digests_got zero at h = let e : at + 0 * 32 ≡ at = omega arith in rw e
  digests_got (suc k) at h =
      let e : at + suc k * 32 ≡ at + 32 + k * 32 = omega arith in
      rw (front_yes 32 (λ b. b) at s (omega arith), digests_got k (at + 32) (omega arith), e, drop-drop 32 at s)

  digests_none : (k at : ℕ) → at ≤ length s → length s < at + k * 32 → get_all (bytes 32) k (drop at s) ≡ none
  unfolding get_all bind
  digests_none zero at g h = absurd (omega arith)
  digests_none (suc k) at g h = go (is (leb (at + 32) (length s))) (digests_none k (at + 32))
    where
      go : Is (leb (at + 32) (length s)) → (at + 32 ≤ length s → length s < at + 32 + k * 32
          → get_all (bytes 32) k (drop (at + 32) s) ≡ none)
          → get_all (bytes 32) (suc k) (drop at s) ≡ none
      go (is_t t) ih = let l = leb-true _ _ t in rw (front_yes 32 (λ b. b) at s l, ih l (omega arith))
      go (is_f t) ih = rw (front-no 32 (λ b. b) at s g (leb-false _ _ t))

-- A list after its count.
module _ {A : Type 0} (F : Form A) (s : List ℕ) (at : ℕ) where
  count_got : (xs : List A) (r : List ℕ) → at + 4 ≤ length s → get_all F (decode (part at 4 s)) (drop (at + 4) s) ≡ some
      (xs, r)
      → (counted 4 F).get (drop at s) ≡ some (xs, r)
  unfolding get_as get₂ bind
  count_got xs r h e = rw (front_yes 4 decode at s h, e)

  count_none : at + 4 ≤ length s → get_all F (decode (part at 4 s)) (drop (at + 4) s) ≡ none
      → (counted 4 F).get (drop at s) ≡ none
  unfolding get_as get₂ bind
  count_none h e = rw (front_yes 4 decode at s h, e)

  count-short : at ≤ length s → length s < at + 4 → (counted 4 F).get (drop at s) ≡ none
  unfolding get_as get₂ bind
  count-short g h = rw (front-no 4 decode at s g h)

-- The image.
less_than : (a b : ℕ) → a ≤ b → (a ≡ b → ⊥) → a < b
less_than a b h n = go (is (leb b a))
  where
    go : Is (leb b a) → a < b
    go (is_f l) = leb-false _ _ l
    go (is_t l) = let z = leb-true b a l in absurd (n (omega arith))

unended : {A : Type 0} (F : Form A) (a : A) (r : List ℕ) → 0 < length r → ended F a r ≡ none
unfolding ended
unended F a [] h = absurd (omega arith)
unended F a (b ∷ r) h = refl

module _ (y : Layout) (s : List ℕ) (four : 4 ≤ length s) where
  module _ (marked : marked_from y s 4 (node_count s) ≡ true) where
    nodes_got : records_end y s ≤ length s → (counted 4 (node_form y)).get s ≡ some
        (image_nodes y s, drop (records_end y s) s)
    nodes_got h = count_got (node_form y) s 0 (image_nodes y s) (drop (records_end y s) s) four
        (all_got y s (node_count s) 4 h marked)

    digests_found : records_end y s + 4 + digest_count y s * 32 ≤ length s
        → (counted 4 (bytes 32)).get (drop (records_end y s) s) ≡ some
        (image_digests y s, drop (records_end y s + 4 + digest_count y s * 32) s)
    unfolding image_digests
    digests_found h = count_got (bytes 32) s (records_end y s) _ _ (omega arith) (digests_got y s (digest_count y s)
        (records_end y s + 4) h)

    pub whole_got : records_end y s + 4 + digest_count y s * 32 ≡ length s
        → whole (image_form y) s ≡ some (image_nodes y s, image_digests y s)
    unfolding whole image_form get₂ bind ended
    whole_got e = rw (
      nodes_got (omega arith),
      digests_found (omega arith),
      drop_of_length-le s
          {i = records_end y s + 4 + digest_count y s * 32} (omega arith),
    )

    whole-rest : records_end y s + 4 + digest_count y s * 32 < length s → whole (image_form y) s ≡ none
    unfolding whole image_form get₂ bind
    whole-rest h = rw (nodes_got (omega arith), digests_found (omega arith))
        (unended (image_form y) _ _ (rw (length-drop (records_end y s + 4 + digest_count y s * 32) s) (omega arith)))

    whole_digests : records_end y s + 4 ≤ length s → length s < records_end y s + 4 + digest_count y s * 32
        → whole (image_form y) s ≡ none
    unfolding whole image_form get₂ bind
    whole_digests g h = rw (
      nodes_got (omega arith),
      count_none (bytes 32) s (records_end y s) g
          (digests_none y s (digest_count y s) (records_end y s + 4) g h),
    )

    whole-count : records_end y s ≤ length s → length s < records_end y s + 4 → whole (image_form y) s ≡ none
    unfolding whole image_form get₂ bind
    whole-count g h = rw (nodes_got g, count-short (bytes 32) s (records_end y s) g h)

  whole-records : Bytes s → (records_end y s ≤ length s → marked_from y s 4 (node_count s) ≡ true → ⊥)
      → whole (image_form y) s ≡ none
  unfolding whole image_form get₂ bind
  whole-records b h = rw (count_none (node_form y) s 0 four (all_none y s b (node_count s) 4 four h))

whole-short : (y : Layout) (s : List ℕ) → length s < 4 → whole (image_form y) s ≡ none
unfolding whole image_form get₂ bind
whole-short y s h = rw (count-short (node_form y) s 0 (omega arith) h)

-- What is parsed.
picked : {A : Type 0} (b : Bool) (a : A) → is_some (pick b (some a) none) ≡ b
unfolding is_some pick
picked true a = refl
picked false a = refl

module _ (y : Layout) (s : List ℕ) where
  none_parsed : whole (image_form y) s ≡ none → is_some (parse y s) ≡ false
  unfolding parse bind is_some
  none_parsed e = rw e

  some_parsed : (i : Image) → whole (image_form y) s ≡ some i → is_some (parse y s) ≡ sound y.id_bytes i
  unfolding parse bind
  some_parsed i e = rw e (picked (sound y.id_bytes i) i)

  parsed : 4 ≤ length s → marked_from y s 4 (node_count s) ≡ true → records_end y s + 4 + digest_count y s * 32 ≡ length s
      → is_some (parse y s) ≡ (sound_nodes y.id_bytes (image_nodes y s)
      && eqb (digest_count y s) (page_total (image_nodes y s)))
  unfolding sound image_digests
  parsed h t e =
      some_parsed (image_nodes y s, image_digests y s) (whole_got y s h t e)
      ∙ ap (λ (n : ℕ). sound_nodes y.id_bytes (image_nodes y s) && eqb n (page_total (image_nodes y s)))
      (length-rows 32 (digest_count y s) (drop (records_end y s + 4) s))

  pub parsed_formed : Formed y s
      → is_some (parse y s) ≡ (sound_nodes y.id_bytes (image_nodes y s)
      && eqb (digest_count y s) (page_total (image_nodes y s)))
  parsed_formed f = parsed f.four f.marked f.ends

  -- bytes without the form, by what they lack
  module _ (b : Bytes s) where
    many : 4 ≤ length s → marked_from y s 4 (node_count s) ≡ true → records_end y s + 4 + digest_count y s * 32 ≡ length s
        → NODES < node_count s → is_some (parse y s) ≡ false
    many h t e l =
        parsed h t e
        ∙ rw (unsound y.id_bytes (image_nodes y s)
        (λ z. let c = z.count in let k = length_from y s 4 (node_count s) in omega arith))

    behind-records : 4 ≤ length s → marked_from y s 4 (node_count s) ≡ true → records_end y s ≤ length s
        → (records_end y s + 4 + digest_count y s * 32 ≡ length s → ⊥)
        → Is (leb (records_end y s + 4) (length s)) → Is (leb (length s) (records_end y s + 4 + digest_count y s * 32))
        → is_some (parse y s) ≡ false
    behind-records h t g n (is_f k) l = none_parsed (whole-count y s h t g (leb-false _ _ k))
    behind-records h t g n (is_t k) (is_f l) = none_parsed (whole-rest y s h t (leb-false _ _ l))
    behind-records h t g n (is_t k) (is_t l) =
        none_parsed (whole_digests y s h t (leb-true _ _ k) (less_than _ _ (leb-true (length s) _ l) (λ e. n (sym e))))

    pub unparsed : formed y s ≡ false → is_some (parse y s) ≡ false
    unparsed f = one (is (leb 4 (length s)))
      where
        three : 4 ≤ length s → records_end y s ≤ length s → marked_from y s 4 (node_count s) ≡ true
            → Is (eqb (records_end y s + 4 + digest_count y s * 32) (length s)) → Is (leb (node_count s) NODES)
            → is_some (parse y s) ≡ false
        three h g t (is_t e) (is_t n) =
            absurd (true≢false (sym (formed_yes y s h (leb-true _ _ n) (eqb-true _ _ e) t) ∙ f))
        three h g t (is_t e) (is_f n) = many h t (eqb-true _ _ e) (leb-false _ _ n)
        three h g t (is_f e) n =
            behind-records h t g (eqb-false _ _ e) (is (leb (records_end y s + 4) (length s)))
            (is (leb (length s) (records_end y s + 4 + digest_count y s * 32)))

        two : 4 ≤ length s → Is (leb (records_end y s) (length s)) → Is (marked_from y s 4 (node_count s))
            → is_some (parse y s) ≡ false
        two h (is_t g) (is_t t) =
            three h (leb-true _ _ g) t (is (eqb (records_end y s + 4 + digest_count y s * 32) (length s)))
            (is (leb (node_count s) NODES))
        two h (is_f g) t = none_parsed (whole-records y s h b
            (λ e u. let l = leb-false (records_end y s) (length s) g in omega arith))
        two h (is_t g) (is_f t) = none_parsed (whole-records y s h b (λ e u. true≢false (sym u ∙ t)))

        one : Is (leb 4 (length s)) → is_some (parse y s) ≡ false
        one (is_t h) = two (leb-true _ _ h) (is (leb (records_end y s) (length s))) (is (marked_from y s 4 (node_count s)))
        one (is_f h) = none_parsed (whole-short y s (leb-false _ _ h))

pub to_formed : (y : Layout) (s : List ℕ) → formed y s ≡ true → Formed y s
unfolding formed
to_formed y s e =
    let e₁ = and_snd (leb 4 (length s)) _ e in
    let e₂ = and_snd (leb (node_count s) NODES) _ e₁ in
    let e₃ = and_snd (leb (records_end y s + 4) (length s)) _ e₂ in
    record {
      four = leb-true _ _ (and_fst _ _ e);
      count = leb-true _ _ (and_fst _ _ e₁);
      within = leb-true _ _ (and_fst _ _ e₂);
      ends = eqb-true _ _ (and_fst _ _ e₃);
      marked = and_snd (eqb (records_end y s + 4 + digest_count y s * 32) (length s)) _ e₃;
    }

-- a place that is 0 where the form is not kept
pub form_none : (y : Layout) (s : List ℕ) (r : ℕ) → r ≡ pick (formed y s) (records_end y s) 0 → r ≡ 0
    → formed y s ≡ false
form_none y s r q z = go (is (formed y s))
  where
    go : Is (formed y s) → formed y s ≡ false
    go (is_f f) = f
    go (is_t f) = let e : r ≡ records_end y s = q ∙ pick_true _ _ _ f in let l = end-least y s 4 (node_count s) in absurd
        (omega arith)

pub form_some : (y : Layout) (s : List ℕ) (r : ℕ) → r ≡ pick (formed y s) (records_end y s) 0 → (r ≡ 0 → ⊥)
    → (r ≡ records_end y s) × Formed y s
form_some y s r q n = go (is (formed y s))
  where
    go : Is (formed y s) → (r ≡ records_end y s) × Formed y s
    go (is_t f) = (q ∙ pick_true _ _ _ f, to_formed y s f)
    go (is_f f) = absurd (n (q ∙ pick-false _ _ _ f))
