-- Digests divided among nodes: the law that a change of one file's digests is a change of rows at its first page.
-- Assumes nothing.
use Rattle.std.specs.Prelude.{◌≡◌, refl, ℕ, suc, ◌+◌, ◌-◌, ◌/◌, ◌≤◌, ◌<◌, get_or}
use Rattle.std.proofs.Math.Path.{ap, ap₂, sym}
use Rattle.std.proofs.Common.{◌∙◌, add-zero, add-one, take-suc, take-take, get_or-take, drop-drop, length-take-le, take_at}
use mathlib.Core.List.{List, [], ◌∷◌, ◌++◌, map, head-eq_of_cons-eq, tail-eq_of_cons-eq, nil≢cons, cons≢nil}
use native.Mathlib.Omega.{arith}
use Rattle.std.proofs.Math.ListN.{length, take, drop, set}
use Rattle.std.proofs.Math.Seq.{split_at, set_at, drop-append-add}
use Rattle.std.proofs.lemmas.List.{get_or_at, set_split}
use Rattle.lists.specs.Parts.{part, overwrite}
use Rattle.lists.specs.PartLaws.{drop-take, get_d_part, length_part, part-before, part_within, overwrite_all}
use Rattle.lists.specs.Search.{without}
use Rattle.filesystem.specs.Tables.{Node, no_node, node_at, pages_for, page_total}
use Rattle.filesystem.specs.SoundLaws.{page_total-append}
use Rattle.filesystem.specs.Image.{divide}

-- only the first digests count, as many as there are pages
divide-front : (ns : List Node) (ds : List (List ℕ)) → divide ns (take (page_total ns) ds) ≡ divide ns ds
unfolding divide page_total
divide-front [] ds = refl
divide-front (n ∷ ns) ds =
    let p = pages_for n.size in
    rw (take-take p (p + page_total ns) ds (omega arith), drop-take p (page_total ns) ds) (ap {B =
    List (List (List ℕ))} (λ r. take p ds ∷ r) (divide-front ns (drop p ds)))

pub divide_same : (ns : List Node) (a b : List (List ℕ)) → take (page_total ns) a ≡ take (page_total ns) b
    → divide ns a ≡ divide ns b
divide_same ns a b e = sym (divide-front ns a) ∙ ap (divide ns) e ∙ divide-front ns b

pub length-divide : (ns : List Node) (ds : List (List ℕ)) → length (divide ns ds) ≡ length ns
unfolding divide
length-divide [] ds = refl
length-divide (n ∷ ns) ds = ap suc (length-divide ns (drop (pages_for n.size) ds))

pub divide-append : (ns ms : List Node) (ds : List (List ℕ)) → divide (ns ++ ms) ds ≡ divide ns ds
    ++ divide ms (drop (page_total ns) ds)
unfolding divide page_total
divide-append [] ms ds = refl
divide-append (n ∷ ns) ms ds =
    let p = pages_for n.size in
    ap {B =
    List (List (List ℕ))} (λ r. take p ds ∷ r) (divide-append ns ms (drop p ds)
    ∙ ap (λ r. divide ns (drop p ds) ++ divide ms r) (drop-drop (page_total ns) p ds))

-- only the sizes count
pub divide-sizes : (ns ms : List Node) (ds : List (List ℕ))
    → map (λ (n : Node). n.size) ns ≡ map (λ (n : Node). n.size) ms → divide ns ds ≡ divide ms ds
unfolding divide
divide-sizes [] [] ds e = refl
divide-sizes [] (m ∷ ms) ds e = absurd (nil≢cons e)
divide-sizes (n ∷ ns) [] ds e = absurd (cons≢nil e)
divide-sizes (n ∷ ns) (m ∷ ms) ds e =
    let q : n.size ≡ m.size = head-eq_of_cons-eq e in
    rw q (ap {B = List (List (List ℕ))} (λ r. take (pages_for m.size) ds
    ∷ r) (divide-sizes ns ms (drop (pages_for m.size) ds) (tail-eq_of_cons-eq e)))

-- a last node without pages
pub divide_snoc : (ns : List Node) (x : Node) (ds : List (List ℕ)) → x.size ≡ 0
    → divide (ns ++ (x ∷ [])) ds ≡ divide ns ds ++ ([] ∷ [])
unfolding divide pages_for
divide_snoc ns x ds e = divide-append ns (x ∷ []) ds
    ∙ ap (λ s. divide ns ds ++ (take ((s + 1023) / 1024) (drop (page_total ns) ds) ∷ [])) e

-- the pages of the first i nodes and of one more
pub total-next : (l : List Node) (i : ℕ) → i < length l → page_total (take (i + 1) l) ≡ page_total (take i l) + pages_for
    (node_at l i).size
unfolding page_total node_at
total-next l i h = rw (add-one i, take-suc l i no_node h, page_total-append (take i l) (get_or l i no_node ∷ []))
    (omega arith)

-- Node k among the others: its digests stand between those of the nodes before it and those of the nodes behind it.
module _ (ns : List Node) (k : ℕ) (known : k < length ns) where
  pub divide-split : (ds : List (List ℕ))
      → divide ns ds ≡ divide (take k ns) ds ++ (part (page_total (take k ns)) (pages_for (node_at ns k).size) ds
      ∷ divide (drop (suc k) ns) (drop (page_total (take k ns) + pages_for (node_at ns k).size) ds))
  unfolding divide node_at part
  divide-split ds =
      let f = page_total (take k ns) in
      let p = pages_for (get_or ns k no_node).size in
      ap (λ l. divide l ds) (split_at ns k no_node known)
      ∙ divide-append (take k ns) (get_or ns k no_node ∷ drop (suc k) ns) ds
      ∙ ap (λ r. divide (take k ns) ds ++ (take p (drop f ds) ∷ divide (drop (suc k) ns) r)) (drop-drop p f ds)

  pub total-split : page_total ns ≡ page_total (take k ns) + (pages_for (node_at ns k).size + page_total (drop (suc k) ns))
  unfolding page_total node_at
  total-split = ap page_total (split_at ns k no_node known) ∙ page_total-append (take k ns) (get_or ns k no_node
      ∷ drop (suc k) ns)

-- rows moved onto the place behind the first f: what comes then, and what stays
module _ {A : Type 0} (l : List A) (f e t : ℕ) (from-fits : e + t ≤ length l) (to-fits : f + t ≤ length l) where
  pub moved-there : part f t (overwrite l f (part e t l)) ≡ part e t l
  moved-there =
      let n : length (part e t l) ≡ t = length_part e t l from-fits in
      let q : length (part f t l) ≡ t = length_part f t l to-fits in
      part_within l f (part e t l) f t 0 (sym (add-zero f)) (omega arith) to-fits
      ∙ overwrite_all (part f t l) (part e t l) (q ∙ sym n)

-- what stands before an overwrite
pub front_kept : {A : Type 0} (l : List A) (at : ℕ) (x : List A) (n : ℕ) → n ≤ at → at + length x ≤ length l
    → take n (overwrite l at x) ≡ take n l
unfolding part
front_kept l at x n h f = part-before l at x 0 n (omega arith) f

-- all but what stands behind p
without_at : {A : Type 0} (p : List A) (y : A) (q : List A) (k : ℕ) → length p ≡ k → without k (p ++ (y ∷ q)) ≡ p ++ q
unfolding without
without_at p y q k e =
    let n : suc k ≡ length p + 1 = omega arith in
    rw (take_at p (y ∷ q) k e, n, drop-append-add p (y ∷ q) 1)

module _ (ns : List Node) (k : ℕ) (known : k < length ns) where
  first-known : length (take k ns) ≡ k
  first-known = length-take-le k ns (omega arith)

  length_before : (ds : List (List ℕ)) → length (divide (take k ns) ds) ≡ k
  length_before ds = length-divide (take k ns) ds ∙ first-known

  -- the digests of node k
  pub divide-at : (ds : List (List ℕ)) → get_or (divide ns ds) k [] ≡ part (page_total (take k ns))
      (pages_for (node_at ns k).size) ds
  divide-at ds = ap (λ l. get_or l k []) (divide-split ns k known ds) ∙ get_or_at (divide (take k ns) ds) _ _ [] k
      (length_before ds)

  -- node k is taken out, and its rows
  pub divide-without : (ds : List (List ℕ)) (f e : ℕ) → f ≡ page_total (take k ns) → e ≡ f + pages_for (node_at ns k).size
      → page_total ns ≤ length ds
      → divide (without k ns) (overwrite ds f (part e (page_total ns - e) ds)) ≡ without k (divide ns ds)
  unfolding without part
  divide-without ds f e p q h =
      let s = total-split ns k known in
      let t = page_total (drop (suc k) ns) in
      let t' : page_total ns - e ≡ t = omega arith in
      let r : length (part e t ds) ≡ t = length_part e t ds (omega arith) in
      let x = overwrite ds f (part e t ds) in
      ap (λ j. divide (take k ns ++ drop (suc k) ns) (overwrite ds f (part e j ds))) t'
      ∙ divide-append (take k ns) (drop (suc k) ns) x
      ∙ ap₂ (λ a b. a ++ b)
      (divide_same (take k ns) x ds (front_kept ds f (part e t ds) (page_total (take k ns)) (omega arith) (omega arith)))
      (ap (λ j. divide (drop (suc k) ns) (drop j x)) (sym p)
      ∙ divide_same (drop (suc k) ns) (drop f x) (drop e ds) (moved-there ds f e t (omega arith) (omega arith))
      ∙ ap (λ j. divide (drop (suc k) ns) (drop j ds)) (q ∙ ap (λ j. j + pages_for (node_at ns k).size) p))
      ∙ sym (ap (without k) (divide-split ns k known ds) ∙ without_at (divide (take k ns) ds) _ _ k (length_before ds))

  -- node k has other digests: the rows before its first page and those behind its last are what they were
  pub divide-set : (y : Node) (ds x : List (List ℕ)) (f p q : ℕ) → f ≡ page_total (take k ns)
      → p ≡ pages_for (node_at ns k).size → q ≡ pages_for y.size
      → take f x ≡ take f ds → part (f + q) (page_total (drop (suc k) ns)) x ≡ part (f + p) (page_total (drop (suc k) ns))
      ds
      → divide (set ns k y) x ≡ set (divide ns ds) k (part f q x)
  unfolding divide part
  divide-set y ds x f p q ef ep eq front back =
      ap (λ l. divide l x) (set_split ns k y known)
      ∙ divide-append (take k ns) (y ∷ drop (suc k) ns) x
      ∙ ap₂ (λ a b. a ++ b)
      (divide_same (take k ns) x ds (ap (λ j. take j x) (sym ef) ∙ front ∙ ap (λ j. take j ds) ef))
      (ap₂ (λ i j. take j (drop i x) ∷ divide (drop (suc k) ns) (drop j (drop i x))) (sym ef) (sym eq)
      ∙ ap {B = List (List (List ℕ))} (λ r. take q (drop f x) ∷ r)
      (ap (divide (drop (suc k) ns)) (drop-drop q f x)
      ∙ divide_same (drop (suc k) ns) (drop (f + q) x) (drop (f + p) ds) back
      ∙ ap₂ (λ i j. divide (drop (suc k) ns) (drop (i + j) ds)) ef ep))
      ∙ sym (ap (λ l. set l k (part f q x)) (divide-split ns k known ds)
      ∙ set_at (divide (take k ns) ds) _ _ (part f q x) k (length_before ds))

-- node k among the first n: where its pages end, the total is not less
pub total-part : (l : List Node) (n k : ℕ) → k < n → n ≤ length l → page_total (take k l) + pages_for (node_at l k).size ≤
    page_total (take n l)
unfolding node_at
total-part l n k h f =
    let e : length (take n l) ≡ n = length-take-le n l f in
    let s = total-split (take n l) k (omega arith) in
    let t : page_total (take k (take n l)) ≡ page_total (take k l) = ap page_total (take-take k n l (omega arith)) in
    let p : pages_for (get_or (take n l) k no_node).size ≡ pages_for (get_or l k no_node).size =
    ap (λ (x : Node). pages_for x.size) (get_or-take n l k no_node h) in
    omega arith

-- page i of node k among the first n
pub digest-place : (l : List Node) (ds : List (List ℕ)) (n k i : ℕ) → k < n → n ≤ length l
    → i < pages_for (node_at l k).size
    → get_or (get_or (divide (take n l) ds) k []) i [] ≡ get_or ds (page_total (take k l) + i) []
unfolding node_at
digest-place l ds n k i h f g =
    let e : length (take n l) ≡ n = length-take-le n l f in
    ap (λ (r : List (List ℕ)). get_or r i []) (divide-at (take n l) k (omega arith) ds)
    ∙ rw (take-take k n l (omega arith), get_or-take n l k no_node h)
    (get_d_part (page_total (take k l)) (pages_for (get_or l k no_node).size) i ds [] g)
