-- A reply passes the checks exactly where it is right: what is accepted is true of the tables, and what is right is accepted.
-- (Pages apart: the checks ask only their length, the machine their digest.)
-- Assumes nothing.
use Rattle.std.specs.Prelude.{◌≡◌, Bool, List, map, ℕ, ◌+◌, ◌*◌, ◌^◌, ◌≤◌, ◌<◌, eqb, ltb, ℤ, pos, negsuc, get_or}
use Rattle.std.proofs.Math.Path.{refl, ap, subst}
use Rattle.std.proofs.Common.{ap₂, sym, ◌∙◌, arith}
use Rattle.std.proofs.Math.Bool.{true, false, not, true≢false}
use Rattle.std.proofs.lemmas.Bool.{false≢true}
use Rattle.std.proofs.Math.Option.{Option, some, none}
use Rattle.std.proofs.Math.ListN.{length, length-append, length-map}
use borrow.Author.Tests.{eqb-true, eqb-false, eq-eqb, ne_eqb, ltb-true, lt-ltb, le-leb, not-false}
use Rattle.lists.specs.Pick.{pick_ind, pick_true}
use Rattle.lists.specs.Equal.{equal_true, equal_refl, equal_yes, and_fst, and_snd, and_both, or_fst, or_snd, or_both}
use Rattle.lists.specs.All.{All, both, none as all_none, Bytes, all_get}
use Rattle.lists.specs.Search.{select, unique}
use Rattle.lists.specs.Places.{place_none, none_place, at_all, same_unique}
use Rattle.lists.specs.Rearranged.{is_rearranged, rearranged_length, rearranged_all, is_rearranged_lem, rearranged_is, unique-select, unique-map}
use Rattle.lists.specs.Signed.{signed}
use Rattle.lists.specs.LittleEndian.{encode, decode, length-encode, decode-encode, encode-decode}
use Rattle.lists.specs.Form.{whole}
use Rattle.lists.specs.FormLaws.{whole_read_back, whole-was-written}
use Rattle.lists.specs.Formats.{times}
use Rattle.lists.specs.Checks.{Passed}
use Rattle.filesystem.specs.Tables.{Node, Tables, no_node, no_open_file, has_id, has_descriptor, has_parent, node_at, present, find_id, find_descriptor, children}
use Rattle.filesystem.specs.Image.{same_id}
use Rattle.filesystem.specs.Sound.{gone, Sound, to_sound, limits_at, name-short, by_kind}
use Rattle.rules.specs.Requests.{asked, creating, opening, listing, stating}
use Rattle.rules.specs.Rules.{signed_of, is_number, is_full, says_full, is_descriptor, Entry, entry_form, entry_of, same_entry, is_listing, stat_bytes, status_checks, reply_checks, tells_full}
use Rattle.rules.specs.Valid.{ValidNodes}
use Rattle.rules.specs.RightReplies.{RightId, RightDescriptor, RightListing}

-- a place past the end
none_there : {A : Type 0} (l : List A) (k : ℕ) → length l ≤ k → present l k ≡ false
none_there l k h = ap not (le-leb _ _ h)

-- Status and descriptor, as signed numbers.
signed_is : (r : List ℕ) (n : ℕ) → signed_of r ≡ pos n → decode r ≡ n
unfolding signed
signed_is r n =
    pick_ind (λ z. z ≡ pos n → decode r ≡ n) (ltb (2 * decode r) (256 ^ 4)) (λ _ e. cc) (λ _ e. absurd (let z : ◌≡◌ {A = ℕ} 0 1 = cc in omega arith))

is_signed : (r : List ℕ) (n : ℕ) → decode r ≡ n → n < 2147483648 → signed_of r ≡ pos n
unfolding signed
is_signed r n e h = pick_true _ _ _ (lt-ltb (2 * decode r) (256 ^ 4) (omega arith)) ∙ ap pos e

is_number_lem : (n : ℕ) (z : ℤ) → is_number n z ≡ true → z ≡ pos n
unfolding is_number
is_number_lem n (pos m) e = ap pos (eqb-true _ _ e)
is_number_lem n (negsuc m) e = absurd (false≢true e)

is_descriptor_lem : (r : List ℕ) → is_descriptor (signed_of r) ≡ true → (signed_of r ≡ pos (decode r)) × (decode r < 1024)
unfolding signed is_descriptor
is_descriptor_lem r =
    pick_ind (λ z. is_descriptor z ≡ true → (z ≡ pos (decode r)) × (decode r < 1024)) (ltb (2 * decode r) (256 ^ 4)) (λ _ e. (refl, ltb-true _ _ e))
    (λ _ e. absurd (false≢true e))

module _ (w : ℕ) (t : Tables) (r : List ℕ) where
  -- A status.
  pub status_right : (n : ℕ) → Bytes r → Passed (status_checks w t r n) → r ≡ encode 4 n
  status_right n b (both l (both s _)) =
      let len : length r ≡ 4 = eqb-true _ _ (not-false _ l) in
      let e : decode r ≡ n = signed_is r n (is_number_lem n (signed_of r) (not-false _ s)) in
      sym (encode-decode r b) ∙ ap₂ encode len e

  pub right_status : (n : ℕ) → n < 2147483648 → r ≡ encode 4 n → Passed (status_checks w t r n)
  unfolding is_number
  right_status n h e =
      let d : decode r ≡ n = ap decode e ∙ decode-encode 4 n (omega arith) in
      both (ap not (eq-eqb _ _ (ap length e ∙ length-encode 4 n))) (both (ap not (ap (is_number n) (is_signed r n d h) ∙ eq-eqb n n refl)) all_none)

  -- An id.
  pub id_right : (p k m : ℕ) (name : List ℕ) → tells_full w r (asked (creating p k m name)) ≡ false → Passed (reply_checks w t r (asked (creating p k m name)))
      → RightId w t r
  unfolding reply_checks find_id says_full is_full
  id_right p k m name f (both l (both x _)) = record {
    not_full = λ z. true≢false (sym (and_both (eqb (length r) w) (is_full (signed w (decode r))) (not-false _ l) (ap is_full z)) ∙ f);
    long = eqb-true _ _ (not-false _ l);
    not-zero = eqb-false _ _ (or_fst _ _ x);
    not_held = at_all no_node t.nodes (λ i h. eqb-false (get_or t.nodes i no_node).id (decode r)
        (none_place (has_id (decode r)) no_node t.nodes i (gone t.nodes _ (or_snd (eqb (decode r) 0) _ x)) h));
  }

  pub right_id : (p k m : ℕ) (name : List ℕ) → RightId w t r → Passed (reply_checks w t r (asked (creating p k m name)))
  unfolding reply_checks find_id
  right_id p k m name i =
      both (ap not (eq-eqb _ _ i.long))
      (both (or_both _ _ (ne_eqb _ _ i.not-zero)
      (none_there t.nodes _ (place_none (has_id (decode r)) no_node t.nodes (λ j h. ne_eqb (get_or t.nodes j no_node).id (decode r) (all_get j no_node t.nodes h i.not_held)))))
      all_none)

  -- A descriptor.
  pub descriptor_right : (k rights : ℕ) → Passed (reply_checks w t r (asked (opening k rights))) → RightDescriptor t r
  unfolding reply_checks find_descriptor
  descriptor_right k rights (both l (both x _)) =
      let (s, m) = is_descriptor_lem r (not-false _ (or_fst _ _ x)) in
      record {
        descriptor = decode r;
        long = eqb-true _ _ (not-false _ l);
        is = s;
        low = m;
        not_held = at_all no_open_file t.opens (λ i h. eqb-false (get_or t.opens i no_open_file).descriptor (decode r)
            (none_place (has_descriptor (decode r)) no_open_file t.opens i (gone t.opens _ (or_snd (not (is_descriptor (signed_of r))) _ x)) h));
      }

  pub right_descriptor : (k rights : ℕ) → RightDescriptor t r → Passed (reply_checks w t r (asked (opening k rights)))
  unfolding reply_checks find_descriptor
  right_descriptor k rights d =
      let e : decode r ≡ d.descriptor = signed_is r d.descriptor d.is in
      both (ap not (eq-eqb _ _ d.long))
      (both (or_both _ _ (in_range e)
      (none_there t.opens _ (place_none (has_descriptor (decode r)) no_open_file t.opens (λ j h. ne_eqb (get_or t.opens j no_open_file).descriptor (decode r) (λ q. all_get j no_open_file t.opens h d.not_held (q ∙ e))))))
      all_none)
    where
      in_range : decode r ≡ d.descriptor → not (is_descriptor (signed_of r)) ≡ false
      in_range e = unfold is_descriptor in rw d.is (ap not (lt-ltb _ _ d.low))

  -- A stat.
  length-stat : (n : Node) → length (stat_bytes w n) ≡ w + 6
  unfolding stat_bytes encode
  length-stat n = length-append (encode w n.id) _ ∙ rw (length-encode w n.id)

  pub stat_right : (k : ℕ) → Passed (reply_checks w t r (asked (stating k))) → r ≡ stat_bytes w (node_at t.nodes k)
  unfolding reply_checks
  stat_right k (both l (both s _)) = equal_true _ _ (not-false _ s)

  pub right_stat : (k : ℕ) → r ≡ stat_bytes w (node_at t.nodes k) → Passed (reply_checks w t r (asked (stating k)))
  unfolding reply_checks
  right_stat k e = both (ap not (eq-eqb _ _ (ap length e ∙ length-stat (node_at t.nodes k)))) (both (ap not (equal_yes _ _ e)) all_none)

-- A listing.
pub all_select : {A : Type 0} {F : A → Type 0} (f : A → Bool) {xs : List A} → All F xs → All F (select f xs)
unfolding select
all_select f all_none = all_none
all_select {F = F} f (both {x = x} {xs = xs} h a) = pick_ind (All F) (f x) (λ _. both h (all_select f a)) (λ _. all_select f a)

pub all_over : {A B : Type 0} {F : B → Type 0} (g : A → B) {xs : List A} → All (λ x. F (g x)) xs → All F (map g xs)
all_over g all_none = all_none
all_over g (both h a) = both h (all_over g a)

same_entry_lem : (a b : Entry) → same_entry a b ≡ true → a ≡ b
unfolding same_entry
same_entry_lem a b e =
    let e₂ = and_snd (eqb a.0 b.0) _ e in
    let p : a.0 ≡ b.0 = eqb-true a.0 b.0 (and_fst (eqb a.0 b.0) _ e) in
    let q : a.1.0 ≡ b.1.0 = eqb-true a.1.0 b.1.0 (and_fst (eqb a.1.0 b.1.0) _ e₂) in
    let n : a.1.1 ≡ b.1.1 = equal_true a.1.1 b.1.1 (and_snd (eqb a.1.0 b.1.0) _ e₂) in
    λ i. (p i, (q i, n i))

own-entry : (a : Entry) → same_entry a a ≡ true
unfolding same_entry
own-entry a = and_both _ _ (eq-eqb a.0 a.0 refl) (and_both _ _ (eq-eqb a.1.0 a.1.0 refl) (equal_refl a.1.1))

other-entry : (m n : Node) → same_id m n ≡ false → same_entry (entry_of m) (entry_of n) ≡ false
unfolding same_entry
other-entry m n e = rw e

module _ (w : ℕ) (t : Tables) (r : List ℕ) (k : ℕ) where
  abbrev kids : List Node
  kids = children t.nodes (node_at t.nodes k).id

  pub listing_right : Bytes r → Passed (reply_checks w t r (asked (listing k))) → RightListing w t r k
  unfolding reply_checks is_listing
  listing_right b (both e _) = go (whole (times (entry_form w) (length kids)) r) refl (not-false _ e)
    where
      go : (o : Option (List Entry)) → whole (times (entry_form w) (length kids)) r ≡ o
          → (elim o as (λ _. Bool) [ none ↦ false | some es ↦ is_rearranged same_entry es (map entry_of kids) ]) ≡ true → RightListing w t r k
      go none q x = absurd (false≢true x)
      go (some es) q x =
          record {
            entries = es;
            bytes = (whole-was-written (times (entry_form w) (length kids)) r es b q).1;
            each_once = is_rearranged_lem same_entry same_entry_lem es
                (map entry_of kids) x;
          }

  -- the entries of valid nodes fit the form, and differ
  entries_fit : ValidNodes w t.nodes → All (entry_form w).ok (map entry_of kids)
  unfolding entry_form children node_at
  entries_fit v =
      let s = to_sound w t.nodes v.sound in
      all_over entry_of (all_select (has_parent (node_at t.nodes k).id) (at_all no_node t.nodes (λ i h. ((limits_at w t.nodes s i h).id_fits, (kind_fits s i h, (name_fits s i h, (refl, all_get i no_node t.nodes h v.named)))))))
    where
      kind_fits : Sound w t.nodes → (i : ℕ) → i < length t.nodes → (node_at t.nodes i).kind < 256
      kind_fits s i h = by_kind ((node_at t.nodes i).kind < 256) (limits_at w t.nodes s i h) (λ a b. omega arith) (λ a b. omega arith)

      name_fits : Sound w t.nodes → (i : ℕ) → i < length t.nodes → length (node_at t.nodes i).name < 256
      name_fits s i h = let n = name-short w t.nodes s i h in omega arith

  entries_apart : ValidNodes w t.nodes → unique same_entry (map entry_of kids) ≡ true
  unfolding children
  entries_apart v =
      let s = to_sound w t.nodes v.sound in
      unique-map same_id same_entry entry_of other-entry kids
      (unique-select same_id (has_parent (node_at t.nodes k).id) t.nodes
      (same_unique same_id no_node t.nodes (λ i j h l e. unfold node_at in s.ids i j h l (eqb-true (get_or t.nodes i no_node).id (get_or t.nodes j no_node).id e))))

  pub right_listing : ValidNodes w t.nodes → RightListing w t r k → Passed (reply_checks w t r (asked (listing k)))
  unfolding reply_checks
  right_listing v l = both (ap not accepted) all_none
    where
      len : length l.entries ≡ length kids
      len = rearranged_length l.each_once ∙ length-map kids entry_of

      read : whole (times (entry_form w) (length kids)) r ≡ some l.entries
      read =
          ap (whole (times (entry_form w) (length kids))) l.bytes
          ∙ whole_read_back (times (entry_form w) (length kids)) l.entries (len, rearranged_all l.each_once (entries_fit v))

      accepted : is_listing w kids r ≡ true
      accepted =
          unfold is_listing in rw (read, is_listing)
          (rearranged_is same_entry own-entry (λ a b e. subst (λ x. same_entry b x ≡ true) (sym (same_entry_lem a b e)) (own-entry b)) l.each_once (entries_apart v))
