-- The image over any layout: what is printed is parsed back, what is parsed was so printed, and how long it is.
-- Assumes nothing.
use Rattle.std.specs.Prelude.{◌≡◌, refl, ◌↔◌, true, ℕ, zero, suc, ◌+◌, ◌*◌, ◌^◌, ◌≤◌, ◌<◌, length, drop}
use Rattle.std.proofs.Common.{ap, ap₂, sym, ◌∙◌, subst, arith, suc-mul, length-append, length-drop, take-append-drop, take_at, drop_at, length-take-le, eqb-true}
use mathlib.Core.List.{List, [], ◌∷◌, map, head-eq_of_cons-eq, tail-eq_of_cons-eq, nil≢cons, cons≢nil}
use Rattle.std.proofs.Math.Option.{some}
use Rattle.lists.specs.Pick.{pick, pick_true, pick_ind}
use Rattle.lists.specs.Equal.{and_fst, and_snd}
use Rattle.lists.specs.All.{All, both, none as all_none, Bytes, all_map, all_append, all-at}
use Rattle.lists.specs.Places.{at_all}
use Rattle.lists.specs.LittleEndian.{length-encode, bytes-encode}
use Rattle.lists.specs.Form.{bind, put_all}
use Rattle.lists.specs.FormLaws.{bind-some, pick_some, whole_read_back, whole-was-written}
use Rattle.lists.specs.Formats.{bytes}
use Rattle.filesystem.specs.Tables.{ID_BYTES, Node, no_node, node_at, pages_for, page_total}
use Rattle.filesystem.specs.Image.{Layout, saved, maker_bytes, node_form, Image, image_form, flatten, divide}
use Rattle.filesystem.specs.Image.{sound_nodes, sound, print, front_length, records_length, image_length}
use Rattle.filesystem.specs.Image.{longest_length, parse}
use Rattle.filesystem.specs.Sound.{Sound, by_kind, to_sound, limits_at, root_name_lem, parent_fits, name-short}

-- Digests in one list, and a list for each node.

-- node by node as many digests as its size needs
abbrev pub Divided : List Node → List (List (List ℕ)) → Type 0
Divided ns dss = map length dss ≡ map (λ n. pages_for n.size) ns

pub length-flatten : (ns : List Node) (dss : List (List (List ℕ))) → Divided ns dss → length (flatten dss) ≡ page_total ns
unfolding flatten page_total
length-flatten [] [] e = refl
length-flatten [] (ds ∷ dss) e = absurd (cons≢nil e)
length-flatten (n ∷ ns) [] e = absurd (nil≢cons e)
length-flatten (n ∷ ns) (ds ∷ dss) e = length-append ds (flatten dss) ∙ ap₂ ◌+◌ (head-eq_of_cons-eq e) (length-flatten ns dss (tail-eq_of_cons-eq e))

pub divide-flatten : (ns : List Node) (dss : List (List (List ℕ))) → Divided ns dss → divide ns (flatten dss) ≡ dss
unfolding flatten divide
divide-flatten [] [] e = refl
divide-flatten [] (ds ∷ dss) e = absurd (cons≢nil e)
divide-flatten (n ∷ ns) [] e = absurd (nil≢cons e)
divide-flatten (n ∷ ns) (ds ∷ dss) e =
    let q : length ds ≡ pages_for n.size = head-eq_of_cons-eq e in
    rw (take_at ds (flatten dss) (pages_for n.size) q, drop_at ds (flatten dss) (pages_for n.size) q, divide-flatten ns dss (tail-eq_of_cons-eq e))

rest-total : (n : Node) (ns : List Node) (ds : List (List ℕ)) → length ds ≡ page_total (n ∷ ns) → length (drop (pages_for n.size) ds) ≡ page_total ns
unfolding page_total
rest-total n ns ds e = length-drop (pages_for n.size) ds ∙ omega arith

pub divided : (ns : List Node) (ds : List (List ℕ)) → length ds ≡ page_total ns → Divided ns (divide ns ds)
unfolding divide page_total
divided [] ds e = refl
divided (n ∷ ns) ds e = ap₂ ◌∷◌ (length-take-le (pages_for n.size) ds (omega arith)) (divided ns (drop (pages_for n.size) ds) (rest-total n ns ds e))

pub flatten-divide : (ns : List Node) (ds : List (List ℕ)) → length ds ≡ page_total ns → flatten (divide ns ds) ≡ ds
unfolding flatten divide page_total
flatten-divide [] [] e = refl
flatten-divide [] (d ∷ ds) e = absurd (omega arith)
flatten-divide (n ∷ ns) ds e = rw (flatten-divide ns (drop (pages_for n.size) ds) (rest-total n ns ds e)) (take-append-drop (pages_for n.size) ds)

pub all_flatten : {F : List ℕ → Type 0} {dss : List (List (List ℕ))} → All (All F) dss → All F (flatten dss)
unfolding flatten
all_flatten all_none = all_none
all_flatten (both a p) = all_append a (all_flatten p)

-- Images.

abbrev pub Digest : List ℕ → Type 0
Digest d = (length d ≡ 32) × Bytes d

-- names are bytes, and digests are 32 bytes each
pub record Shaped (i : Image) : Type 0 where
  pub names : All (λ (n : Node). Bytes n.name) i.0
  pub digests : All Digest i.1

sound-form : (y : Layout) (ns : List Node) → Sound y.id_bytes ns → All (λ (n : Node). Bytes n.name) ns
    → All (node_form y).ok ns
unfolding node_form node_at
sound-form y ns s a =
    let w = y.id_bytes in
    at_all no_node ns (λ k h.
    let l = limits_at w ns s k h in
    let n = name-short w ns s k h in
    (l.id_fits, (parent_fits w ns s k h, (by_kind ((node_at ns k).kind < 256) l (λ e z. omega arith) (λ e z. omega arith), (omega arith, (by_kind ((node_at ns k).size < 256 ^ 4) l (λ e z. omega arith) (λ e z. omega arith), (omega arith, (refl, all-at k no_node all_none a))))))))

pub sound_ok : (y : Layout) (i : Image) → sound y.id_bytes i ≡ true → Shaped i → (image_form y).ok i
unfolding image_form sound
sound_ok y i e h =
    let s = to_sound y.id_bytes i.0 (and_fst _ _ e) in
    let t : length i.1 ≡ page_total i.0 = eqb-true _ _ (and_snd (sound_nodes y.id_bytes i.0) _ e) in
    let c = s.count in
    let p = s.pages in
    ((omega arith, (refl, sound-form y i.0 s h.names)), (omega arith, (refl, h.digests)))

ok_shaped : (y : Layout) (i : Image) → (image_form y).ok i → Shaped i
unfolding image_form node_form
ok_shaped y i o = record { names = all_map (λ n h. h.1.1.1.1.1.1.1) o.0.1.1; digests = o.1.1.1 }

pub parse-print : (y : Layout) (i : Image) → sound y.id_bytes i ≡ true → Shaped i → parse y (print y i) ≡ some i
unfolding parse print bind
parse-print y i e h = rw (whole_read_back (image_form y) i (sound_ok y i e h)) (pick_true _ _ _ e)

pub parse-was-printed : (y : Layout) (s : List ℕ) (i : Image) → Bytes s → parse y s ≡ some i
    → (sound y.id_bytes i ≡ true) × Shaped i × (print y i ≡ s)
unfolding parse print
parse-was-printed y s i b e =
    let (j, ej, e₂) = bind-some _ _ _ e in
    let (t, q) = pick_some (sound y.id_bytes j) j i e₂ in
    let (o, p) = whole-was-written (image_form y) s j b ej in
    subst (λ i. (sound y.id_bytes i ≡ true) × Shaped i × ((image_form y).put i ≡ s)) q (t, ok_shaped y j o, sym p)

-- bytes are parsed exactly where sound tables would be saved as them
pub parse_exactly : (y : Layout) (s : List ℕ) (i : Image) → Bytes s
    → (parse y s ≡ some i) ↔ ((sound y.id_bytes i ≡ true) × Shaped i × (print y i ≡ s))
parse_exactly y s i b = (
  parse-was-printed y s i b,
  λ (e, h, p). subst (λ s. parse y s ≡ some i) p
      (parse-print y i e h),
)

-- How long an image is.

pub length_record : (y : Layout) (n : Node) → length ((node_form y).put n) ≡ front_length y + length n.name
unfolding node_form
length_record y n = simp (length-append, length-encode) (omega arith)

pub length-records : (y : Layout) (ns : List Node) → length (put_all (node_form y) ns) ≡ records_length y ns
unfolding put_all records_length
length-records y [] = refl
length-records y (n ∷ ns) = rw (
  length-append ((node_form y).put n) (put_all (node_form y) ns),
  length_record y n,
  length-records y ns,
)

length_digests : {ds : List (List ℕ)} → All Digest ds → length (put_all (bytes 32) ds) ≡ 32 * length ds
unfolding put_all
length_digests all_none = refl
length_digests (both {x = d} {xs = ds} h a) = rw (length-append d (put_all (bytes 32) ds), h.0, length_digests a) (omega arith)

pub length-print : (y : Layout) (i : Image) → sound y.id_bytes i ≡ true → Shaped i
    → length (print y i) ≡ image_length y i.0
unfolding print image_form image_length sound
length-print y i e h =
    let t : length i.1 ≡ page_total i.0 = eqb-true _ _ (and_snd (sound_nodes y.id_bytes i.0) _ e) in
    simp (length-append, length-encode, length-records, length_digests h.digests, t) (omega arith)

-- each record after the root's has at most 32 bytes more than its front
records_most : (y : Layout) (m : ℕ) (ns : List Node) → length ns ≤ m → All (λ (n : Node). length n.name ≤ 32) ns
    → records_length y ns ≤ m * (front_length y + 32)
unfolding records_length
records_most y m [] h a = omega arith
records_most y zero (n ∷ ns) h a = absurd (omega arith)
records_most y (suc m) (n ∷ ns) h (both l a) = rw (suc-mul m (front_length y + 32))
    (let z = records_most y m ns (omega arith) a in omega arith)

pub image_most : (y : Layout) (ns : List Node) → sound_nodes y.id_bytes ns ≡ true → image_length y ns ≤ longest_length y
unfolding image_length longest_length records_length node_at
image_most y ns e = go ns (to_sound y.id_bytes ns e)
  where
    go : (ns : List Node) → Sound y.id_bytes ns → image_length y ns ≤ longest_length y
    go [] s = absurd (let h = s.has-root in omega arith)
    go (r ∷ ns) s =
        let n : length r.name ≡ 0 = ap length (root_name_lem y.id_bytes (r ∷ ns) s) in
        let c = s.count in
        let p = s.pages in
        let z = records_most y 255 ns (omega arith)
        (at_all no_node ns (λ k h. name-short y.id_bytes (r ∷ ns) s (suc k) (omega arith))) in
        omega arith

-- the longest image, 44,776 bytes as delivered (SPECIFICATION 8.5)
pub longest : (y : Layout) (i : Image) → sound y.id_bytes i ≡ true → Shaped i → length (print y i) ≤ longest_length y
unfolding sound
longest y i e h = rw (length-print y i e h) (image_most y i.0 (and_fst _ _ e))

pub longest_delivered : longest_length (saved ID_BYTES) ≡ 44776
unfolding longest_length maker_bytes pick
longest_delivered = refl

-- The image is bytes.

bytes_maker : (y : Layout) → Bytes (maker_bytes y)
unfolding maker_bytes
bytes_maker y = pick_ind Bytes y.maker (λ _. both (omega arith) all_none) (λ _. all_none)

bytes-records : (y : Layout) {ns : List Node} → All (λ (n : Node). Bytes n.name) ns → Bytes (put_all (node_form y) ns)
unfolding put_all node_form
bytes-records y all_none = all_none
bytes-records y (both {x = n} h a) =
    let w = y.id_bytes in
    all_append
    (all_append (bytes-encode w _) (all_append (bytes-encode w _)
    (all_append (bytes-encode 1 _) (all_append (bytes-encode 1 _)
    (all_append (bytes_maker y) (all_append (bytes-encode 4 _) (all_append (bytes-encode 1 _) h)))))))
    (bytes-records y a)

bytes_digests : {ds : List (List ℕ)} → All Digest ds → Bytes (put_all (bytes 32) ds)
unfolding put_all
bytes_digests all_none = all_none
bytes_digests (both h a) = all_append h.1 (bytes_digests a)

pub bytes-print : (y : Layout) (i : Image) → Shaped i → Bytes (print y i)
unfolding print image_form
bytes-print y i h = all_append (all_append (bytes-encode 4 _) (bytes-records y h.names))
    (all_append (bytes-encode 4 _) (bytes_digests h.digests))
