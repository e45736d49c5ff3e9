-- The honest host can always answer: a reply that is right for the tree, whatever request stands (where ids run out, that its disk is full).
-- And right replies differ only in a new id, a descriptor, the order of a listing or a full disk: the tree takes nothing else from the host.
use Rattle.std.specs.Prelude.{◌≡◌, List, [], ◌∷◌, ◌++◌, map, ℕ, ◌-◌, ◌^◌, ◌≤◌, ◌<◌, ◌⊎◌, true, ltb, length, get_or, replicate}
use Rattle.std.proofs.Math.Path.{refl, ap, sym}
use Rattle.std.proofs.Common.{◌∙◌, arith, ltb-true}
use Rattle.std.proofs.Math.Logic.{inl, inr}
use Rattle.std.proofs.Math.IntN.{pos}
use Rattle.std.proofs.lemmas.List.{length-map}
use Rattle.lists.specs.Pick.{pick, pick_ind}
use Rattle.lists.specs.All.{All, both, none, Bytes, all_map}
use Rattle.lists.specs.Free.{free, Free, free_new}
use Rattle.lists.specs.Signed.{signed_low}
use Rattle.lists.specs.LittleEndian.{encode, decode, length-encode, decode-encode, encode-decode}
use Rattle.lists.specs.Form.{put_all}
use Rattle.lists.specs.Rearranged.{Rearranged, rearranged_self, rearranged_sym, rearranged_trans}
use Rattle.filesystem.specs.Tables.{Node, OpenFile, Tables, node_at, children}
use Rattle.rules.specs.Pages.{page_of, stores_more, cuts_more}
use Rattle.rules.specs.Requests.{asked, Pending, idle, creating, opening, closing, removing, changing, listing, stating, mapping, unmapping, reading, fetching, storing, cutting}
use Rattle.rules.specs.Requests.{renaming}
use Rattle.rules.proofs.FullLaws.{full_bytes, full_bytes_lem, full_is}
use Rattle.rules.specs.Skeleton.{Config, Event, EventBytes}
use Rattle.rules.specs.Rules.{Entry, entry_form, entry_of, stat_bytes}
use Rattle.rules.specs.RightReplies.{Full, RightId, RightDescriptor}
use Rattle.machine.specs.Machine.{State, fresh, final}
use Rattle.rules.specs.Valid.{ValidTables, Valid}
use Rattle.machine.specs.Tree.{tree}
use Rattle.machine.specs.Honest.{RightFor, Right}
use Rattle.machine.specs.Claim.{Fit}
use Rattle.machine.proofs.TreeProperties.{tree_valid}
use Rattle.rules.proofs.MapLaws.{free_address, free_right}
use Rattle.rules.specs.ValidMaps.{MapFits, MapsValid}
use Rattle.machine.proofs.MapRuns.{always_maps}

-- an id from 1 on that no node has, a descriptor from 0 on that no open file has
unfoldable pub free_id : List Node → ℕ
free_id ns = free (length ns) 1 (map (λ n. n.id) ns)

unfoldable pub free_descriptor : List OpenFile → ℕ
free_descriptor os = free (length os) 0 (map (λ o. o.descriptor) os)

-- a new id, if there is one below -28
unfoldable pub new_id : (w x : ℕ) → List ℕ
new_id w x = pick (ltb x (256 ^ w - 28)) (encode w x) (full_bytes w)

module _ (c : Config) (t : State (tree c)) where
  unfoldable pub truthful_for : Pending → List ℕ
  truthful_for idle = []
  truthful_for (asked (creating p k m name)) = new_id c.width (free_id t.skeleton.tables.nodes)
  truthful_for (asked (opening k rights)) = encode 4 (free_descriptor t.skeleton.tables.opens)
  truthful_for (asked (closing o)) = encode 4 0
  truthful_for (asked (removing k)) = encode 4 0
  truthful_for (asked (changing k m)) = encode 4 0
  truthful_for (asked (listing k)) = put_all (entry_form c.width) (map entry_of (children t.skeleton.tables.nodes (node_at t.skeleton.tables.nodes k).id))
  truthful_for (asked (stating k)) = stat_bytes c.width (node_at t.skeleton.tables.nodes k)
  truthful_for (asked (mapping n)) = encode 8 (free_address t.skeleton.maps) ++ replicate n 0
  truthful_for (asked (unmapping a)) = encode 4 0
  truthful_for (asked (renaming k p name)) = encode 4 0
  truthful_for (reading k o p n i) = page_of (get_or t.contents k []) i
  truthful_for (fetching k o q i) = page_of (get_or t.contents k []) i
  truthful_for (storing k o q i) = encode 4 1024
  truthful_for (cutting k o q) = encode 4 0

  unfoldable pub truthful : List ℕ
  truthful = truthful_for t.skeleton.pending

all_under : {A B : Type 0} {F : B → Type 0} (g : A → B) (xs : List A) → All F (map g xs) → All (λ x. F (g x)) xs
all_under g [] a = none
all_under g (x ∷ xs) (both f a) = both f (all_under g xs a)

-- what is found free is new, and small
module _ {A : Type 0} (f : A → ℕ) (a : ℕ) (xs : List A) where
  found : Free (length xs) a (map f xs) (free (length xs) a (map f xs))
  found = free_new (length xs) a (map f xs) (let e = length-map xs f in omega arith)

module _ (w : ℕ) (t : Tables) (v : ValidTables w t) where
  id_right : free_id t.nodes < 256 ^ w - 28 → RightId w t (encode w (free_id t.nodes))
  unfolding free_id
  id_right h =
      let x = free_id t.nodes in
      let r = found (λ n. n.id) 1 t.nodes in
      let lo : 1 ≤ x = r.from in
      let e : decode (encode w x) ≡ x = decode-encode w x (omega arith) in
      record {
        long = length-encode w x;
        not-zero = λ z. omega arith;
        not_full = λ z. let y : decode (encode w x) ≡ 256 ^ w - 28 = full_is w (decode (encode w x)) (omega arith) z in omega arith;
        not_held = all_map (λ n d q. d (q ∙ e)) (all_under (λ n. n.id) t.nodes r.new);
      }

  descriptor_right : RightDescriptor t (encode 4 (free_descriptor t.opens))
  unfolding free_descriptor
  descriptor_right =
      let x = free_descriptor t.opens in
      let r = found (λ o. o.descriptor) 0 t.opens in
      let hi = r.to in
      let few = v.few in
      let e : decode (encode 4 x) ≡ x = decode-encode 4 x (omega arith) in
      record {
        descriptor = x;
        long = length-encode 4 x;
        is = signed_low 4 (decode (encode 4 x)) (omega arith) ∙ ap pos e;
        low = omega arith;
        not_held = all_under (λ o. o.descriptor) t.opens r.new;
      }

module _ (c : Config) (t : State (tree c)) (v : Valid c.width t.skeleton) (m : MapsValid t.skeleton) (wide : 1 ≤ c.width) where
  for_right : (p : Pending) → MapFits t.skeleton.maps p → RightFor c t (truthful_for c t p) p
  unfolding RightFor truthful_for
  for_right idle f = tt
  for_right (asked (creating p k m name)) f =
      let x = free_id t.skeleton.tables.nodes in
      unfold new_id in pick_ind (λ r. RightId c.width t.skeleton.tables r ⊎ Full c.width r) (ltb x (256 ^ c.width - 28))
      (λ e. inl (id_right c.width t.skeleton.tables v.tables (ltb-true _ _ e))) (λ _. inr (full_bytes_lem c.width wide))
  for_right (asked (opening k rights)) f = descriptor_right c.width t.skeleton.tables v.tables
  for_right (asked (closing o)) f = refl
  for_right (asked (removing k)) f = refl
  for_right (asked (changing k m)) f = refl
  for_right (asked (listing k)) f = record { entries = _; bytes = refl; each_once = rearranged_self _ }
  for_right (asked (stating k)) f = refl
  for_right (asked (mapping n)) f = free_right t.skeleton.maps n m.valid f.1
  for_right (asked (unmapping a)) f = refl
  for_right (asked (renaming k p name)) f = refl
  for_right (reading k o p n i) f = refl
  for_right (fetching k o q i) f = refl
  for_right (storing k o q i) f = inl refl
  for_right (cutting k o q) f = inl refl

  pub truthful_right : Right c t (truthful c t)
  unfolding Right truthful
  truthful_right = for_right t.skeleton.pending m.pending

-- along every run of the tree
pub always_truthful : (c : Config) → Fit c → (es : List Event) → All EventBytes es
    → Right c (final c (tree c) (fresh c (tree c)) es) (truthful c (final c (tree c) (fresh c (tree c)) es))
always_truthful c fit es a = truthful_right c _ (tree_valid c fit es a) (always_maps c (tree c) es a) fit.wide

-- Two right replies to one request.
module _ (c : Config) (t : State (tree c)) (r s : List ℕ) where
  abbrev pub SameBut : Pending → Type 0
  SameBut idle = Unit {0}
  -- each is one id, or -28 at its width; each is one descriptor
  SameBut (asked (creating p k m name)) = (r ≡ encode c.width (decode r)) × (s ≡ encode c.width (decode s))
  SameBut (asked (opening k rights)) = (r ≡ encode 4 (decode r)) × (s ≡ encode 4 (decode s))
  SameBut (asked (closing o)) = r ≡ s
  SameBut (asked (removing k)) = r ≡ s
  SameBut (asked (changing k m)) = r ≡ s
  -- the one lists the other's entries, in another order perhaps
  SameBut (asked (listing k)) =
      (es : List Entry) × (fs : List Entry) × (r ≡ put_all (entry_form c.width) es) × (s ≡ put_all (entry_form c.width) fs) × Rearranged es fs
  SameBut (asked (stating k)) = r ≡ s
  -- each is one address, and zeros
  SameBut (asked (mapping n)) = (a : ℕ) × (b : ℕ) × (r ≡ encode 8 a ++ replicate n 0) × (s ≡ encode 8 b ++ replicate n 0)
  SameBut (asked (unmapping a)) = r ≡ s
  SameBut (asked (renaming k p name)) = r ≡ s
  SameBut (reading k o p n i) = r ≡ s
  SameBut (fetching k o q i) = r ≡ s
  -- the same, or one says that the disk is full
  SameBut (storing k o q i) = (r ≡ s) ⊎ ((stores_more q ≡ true) × (Full 4 r ⊎ Full 4 s))
  SameBut (cutting k o q) = (r ≡ s) ⊎ ((cuts_more q ≡ true) × (Full 4 r ⊎ Full 4 s))

  whole : {w : ℕ} (r : List ℕ) → Bytes r → length r ≡ w → r ≡ encode w (decode r)
  whole r a e = sym (ap (λ w. encode w (decode r)) (sym e) ∙ encode-decode r a)

  wide : {r : List ℕ} → RightId c.width t.skeleton.tables r ⊎ Full c.width r → length r ≡ c.width
  wide (inl x) = x.long
  wide (inr x) = x.0

  same_status : {A : Type 0} {z : List ℕ} → (r ≡ z) ⊎ (A × Full 4 r) → (s ≡ z) ⊎ (A × Full 4 s) → (r ≡ s) ⊎ (A × (Full 4 r ⊎ Full 4 s))
  same_status (inl x) (inl y) = inl (x ∙ sym y)
  same_status (inr (a, x)) y = inr (a, inl x)
  same_status (inl x) (inr (a, y)) = inr (a, inr y)

  same_for : Bytes r → Bytes s → (p : Pending) → RightFor c t r p → RightFor c t s p → SameBut p
  unfolding RightFor
  same_for a b idle x y = tt
  same_for a b (asked (creating p k m name)) x y = (whole r a (wide x), whole s b (wide y))
  same_for a b (asked (opening k rights)) x y = (sym (ap (λ w. encode w (decode r)) (sym x.long) ∙ encode-decode r a), sym (ap (λ w. encode w (decode s)) (sym y.long) ∙ encode-decode s b))
  same_for a b (asked (closing o)) x y = x ∙ sym y
  same_for a b (asked (removing k)) x y = x ∙ sym y
  same_for a b (asked (changing k m)) x y = x ∙ sym y
  same_for a b (asked (listing k)) x y = (x.entries, y.entries, x.bytes, y.bytes, rearranged_trans x.each_once (rearranged_sym y.each_once))
  same_for a b (asked (stating k)) x y = x ∙ sym y
  same_for a b (asked (mapping n)) x y = (x.address, y.address, x.bytes, y.bytes)
  same_for a b (asked (unmapping k)) x y = x ∙ sym y
  same_for a b (asked (renaming k p name)) x y = x ∙ sym y
  same_for a b (reading k o p n i) x y = x ∙ sym y
  same_for a b (fetching k o q i) x y = x ∙ sym y
  same_for a b (storing k o q i) x y = same_status x y
  same_for a b (cutting k o q) x y = same_status x y

  pub right_same : Bytes r → Bytes s → Right c t r → Right c t s → SameBut t.skeleton.pending
  unfolding Right
  right_same a b x y = same_for a b t.skeleton.pending x y
