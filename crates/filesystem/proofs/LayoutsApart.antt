-- Two different layouts share no sound bytes: the root's record tells them apart. Its id is 1 and its parent 0, so that
-- zeros stand between the id's first byte and the kind, which is 2. Behind the mode stands the maker, which is 1, or
-- the size, which is 0.
-- Assumes nothing.
use Rattle.std.specs.Prelude.{◌≡◌, refl, Bool, true, false, ℕ, zero, suc, ◌+◌, ◌-◌, ◌*◌, ◌%◌, ◌^◌, ◌<◌, eqb, drop}
use Rattle.std.proofs.Common.{ap, sym, ◌∙◌, subst, arith, add-zero, add-suc, eqb-true}
use Rattle.std.proofs.lemmas.Bool.{false≢true}
use mathlib.Core.List.{List, [], ◌∷◌, ◌++◌, append_assoc, head-eq_of_cons-eq, tail-eq_of_cons-eq}
use Rattle.std.proofs.Math.Option.{some}
use Rattle.std.proofs.Math.Nat.{pow-zero}
use Rattle.lists.specs.Pick.{pick}
use Rattle.lists.specs.Equal.{and_fst, and_snd}
use Rattle.lists.specs.All.{Bytes}
use Rattle.lists.specs.LittleEndian.{encode}
use Rattle.lists.specs.Form.{put_all}
use Rattle.lists.specs.Formats.{bytes, counted}
use Rattle.filesystem.specs.Tables.{DIGEST_BYTES, Node, node_at}
use Rattle.filesystem.specs.Image.{Layout, maker_bytes, node_form, Image, image_form}
use Rattle.filesystem.specs.Image.{sound_nodes, sound, print, parse}
use Rattle.filesystem.specs.Sound.{by_kind, to_sound, limits_at, root_id, root_parent, root_name_lem}
use Rattle.filesystem.specs.ImageLaws.{parse-was-printed}

-- two runs of zeros are one
zeros : (k l : ℕ) (r : List ℕ) → encode k 0 ++ (encode l 0 ++ r) ≡ encode (l + k) 0 ++ r
unfolding encode
zeros zero l r = rw add-zero
zeros (suc k) l r = rw (add-suc l k) (ap (λ (r : List ℕ). 0 ∷ r) (zeros k l r))

-- the id 1 has a first byte, and zeros behind it and in the parent's 0
has-bytes : (w : ℕ) → 1 < 256 ^ w → 0 < w
has-bytes zero h = let z : 1 < 1 = rw pow-zero at h in absurd (omega arith)
has-bytes (suc w) h = omega arith

ids : (w : ℕ) (r : List ℕ) → 1 < 256 ^ w → encode w 1 ++ (encode w 0 ++ r) ≡ 1 ∷ (encode (2 * w - 1) 0 ++ r)
unfolding encode
ids zero r h = absurd (let z = has-bytes 0 h in omega arith)
ids (suc w) r h =
    let e : suc w + w ≡ 2 * suc w - 1 = omega arith in
    ap (λ (r : List ℕ). 1 ∷ r) (zeros w (suc w) r ∙ ap (λ (k : ℕ). encode k 0 ++ r) e)

-- runs of zeros before a 2 are equally long
same_zeros : (k l : ℕ) (r t : List ℕ) → encode k 0 ++ (2 ∷ r) ≡ encode l 0 ++ (2 ∷ t) → (k ≡ l) × (r ≡ t)
unfolding encode
same_zeros zero zero r t e = (refl, tail-eq_of_cons-eq e)
same_zeros zero (suc l) r t e = absurd (let z = head-eq_of_cons-eq e in omega arith)
same_zeros (suc k) zero r t e = absurd (let z = head-eq_of_cons-eq e in omega arith)
same_zeros (suc k) (suc l) r t e = let (p, q) = same_zeros k l r t (tail-eq_of_cons-eq e) in (ap suc p, q)

-- where a 0 follows, the maker's bytes tell whether there is one
same_maker : (y z : Layout) (r t : List ℕ) → maker_bytes y ++ (0 ∷ r) ≡ maker_bytes z ++ (0 ∷ t) → y.maker ≡ z.maker
unfolding maker_bytes pick
same_maker y z r t e = go y.maker z.maker e
  where
    go : (a b : Bool) → pick a (1 ∷ []) [] ++ (0 ∷ r) ≡ pick b (1 ∷ []) [] ++ (0 ∷ t) → a ≡ b
    go true true e = refl
    go false false e = refl
    go true false e = absurd (let z = head-eq_of_cons-eq e in omega arith)
    go false true e = absurd (let z = head-eq_of_cons-eq e in omega arith)

-- the root of sound nodes, but for its mode, and its bytes
abbrev root_of : ℕ → Node
root_of mode = record { id = 1; parent = 0; kind = 2; mode = mode; size = 0; name = [] }

is_root_lem : (w : ℕ) (r : Node) (ns : List Node) → sound_nodes w (r ∷ ns) ≡ true → (1 < 256 ^ w) × (r ≡ root_of r.mode)
unfolding node_at
is_root_lem w r ns e =
    let s = to_sound w (r ∷ ns) e in
    let l = limits_at w (r ∷ ns) s 0 s.has-root in
    let i : r.id ≡ 1 = root_id w (r ∷ ns) s in
    let p : r.parent ≡ 0 = root_parent w (r ∷ ns) s in
    let k : r.kind ≡ 2 = eqb-true _ _ (and_fst _ _ (and_snd (eqb r.id 1) _ s.root-first)) in
    let z : r.size ≡ 0 = by_kind (r.size ≡ 0) l (λ f _. absurd (omega arith)) (λ _ z. z) in
    let n : r.name ≡ [] = root_name_lem w (r ∷ ns) s in
    let h : r.id < 256 ^ w = l.id_fits in
    (omega arith, λ j. record { id = i j; parent = p j; kind = k j; mode = r.mode; size = z j; name = n j })

root-put : (y : Layout) (mode : ℕ) → 1 < 256 ^ y.id_bytes
    → (node_form y).put (root_of mode) ≡ 1 ∷ (encode (2 * y.id_bytes - 1) 0
    ++ (2 ∷ (mode % 256 ∷ (maker_bytes y ++ encode 5 0))))
unfolding node_form encode
root-put y mode h = ids y.id_bytes _ h

-- what stands behind the count and the first byte of the root's id
record Root (y : Layout) (s : List ℕ) : Type 0 where
  mode : ℕ
  rest : List ℕ
  some_id : 0 < y.id_bytes
  stands : drop 5 s ≡ encode (2 * y.id_bytes - 1) 0 ++ (2 ∷ (mode ∷ (maker_bytes y ++ (0 ∷ rest))))

root_stands : (y : Layout) (i : Image) → sound y.id_bytes i ≡ true → Root y (print y i)
unfolding sound sound_nodes print image_form put_all encode
root_stands y ([], ds) e = absurd (false≢true e)
root_stands y (r ∷ ns, ds) e =
    let (h, q) = is_root_lem y.id_bytes r ns (and_fst _ _ e) in
    let others = put_all (node_form y) ns in
    let digests = (counted 4 (bytes DIGEST_BYTES)).put ds in
    let put : (node_form y).put r ≡ _ = ap (node_form y).put q ∙ root-put y r.mode h in
    record {
      mode = r.mode % 256;
      rest = encode 4 0 ++ (others ++ digests);
      some_id = has-bytes y.id_bytes h;
      stands = ap (λ (x : List ℕ). drop 1 ((x ++ others) ++ digests)) put ∙ simp append_assoc;
    }

-- bytes that are sound in two layouts: the layouts are one
pub layouts_apart : (y z : Layout) (s : List ℕ) (i j : Image) → Bytes s → parse y s ≡ some i → parse z s ≡ some j
    → y ≡ z
layouts_apart y z s i j b e f =
    let (p, g, u) = parse-was-printed y s i b e in
    let (q, h, v) = parse-was-printed z s j b f in
    let c = subst (Root y) u (root_stands y i p) in
    let d = subst (Root z) v (root_stands z j q) in
    let (n, t) = same_zeros _ _ _ _ (sym c.stands ∙ d.stands) in
    let w : y.id_bytes ≡ z.id_bytes = let k = c.some_id in let l = d.some_id in omega arith in
    let m : y.maker ≡ z.maker = same_maker y z c.rest d.rest (tail-eq_of_cons-eq t) in
    λ k. record { id_bytes = w k; maker = m k }
