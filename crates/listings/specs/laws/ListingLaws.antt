-- A listing judged entry by entry.
-- Assumes nothing.
use Rattle.std.specs.Prelude.{◌≡◌, Bool, ◌&&◌, leb, ltb, take, set, Option as Place, Some, None, is_some, unwrap_or}
use Rattle.std.proofs.Math.Path.{refl, ap, sym}
use Rattle.std.proofs.Common.{◌∙◌, true≢false, drop_of_length-le, drop-drop, get_or-set_same, get_or-set_other}
use Rattle.std.proofs.Math.Bool.{true, false, not}
use mathlib.Core.List.{List, [], ◌∷◌, map}
use Rattle.std.proofs.Math.Option.{Option, some, none}
use Prim.Native.Nat.{ℕ, zero, suc, ◌+◌, ◌-◌, ◌≤◌, ◌<◌}
use native.Mathlib.Omega.{arith}
use Rattle.std.proofs.Math.Dec.{eqb}
use Rattle.std.proofs.Math.ListN.{length, get_or, drop, length-drop}
use borrow.Author.Tests.{eqb-true, eq-eqb, le-leb, lt-leb, leb-true, leb-false, lt-ltb, le-ltb}
use Rattle.lists.specs.Pick.{pick, pick_true, pick-false}
use Rattle.lists.specs.Equal.{Is, is_t, is_f, is, equal_true, equal_refl, equal_yes, and_fst, and_snd, and_both}
use Rattle.lists.specs.Equal.{or_both}
use Rattle.lists.specs.Parts.{part}
use Rattle.lists.specs.LittleEndian.{decode}
use Rattle.lists.specs.NumberParts.{decode-first, decode_none}
use Rattle.lists.specs.Form.{front, bind, get₂, get_as, get_all, whole, ended}
use Rattle.lists.specs.Formats.{times}
use Rattle.lists.specs.Search.{any, select, place, place_most, without}
use Rattle.lists.specs.Places.{any_at, place_none}
use Rattle.lists.specs.Rearranged.{Inserted, front as at_front, behind, is_rearranged, inserted-length, found_again}
use Rattle.filesystem.specs.Tables.{ID_BYTES, Node, Tables, no_node, node_at, has_id, has_parent, is_child, find_id}
use Rattle.filesystem.specs.Tables.{children}
use Rattle.filesystem.specs.Image.{sound_nodes}
use Rattle.filesystem.specs.Sound.{Sound, to_sound, find_id-has, place_with_id}
use Rattle.rules.specs.Requests.{asked, listing}
use Rattle.rules.specs.Rules.{Entry, entry_form, entry_of, same_entry, is_listing, reply_checks}
use Rattle.replies.specs.Judged.{reason_for}
use Rattle.lists.specs.Checks.{check_last, check_stops}
use Rattle.listings.specs.Listing.{entry_at, entry_end, end_within, names_child, entry_place, unseen, marks}

-- Entries that are the same.
same_entry_lem : (a b : Entry) → same_entry a b ≡ true → a ≡ b
unfolding same_entry
same_entry_lem a b e =
    let e₂ = and_snd (eqb a.0 b.0) _ e in
    let p : a.0 ≡ b.0 = eqb-true a.0 b.0 (and_fst (eqb a.0 b.0) _ e) in
    let q : a.1.0 ≡ b.1.0 = eqb-true a.1.0 b.1.0 (and_fst (eqb a.1.0 b.1.0) _ e₂) in
    let n : a.1.1 ≡ b.1.1 = equal_true a.1.1 b.1.1 (and_snd (eqb a.1.0 b.1.0) _ e₂) in
    λ i. (p i, (q i, n i))

own-entry : (a : Entry) → same_entry a a ≡ true
unfolding same_entry
own-entry a = and_both _ _ (eq-eqb a.0 a.0 refl) (and_both _ _ (eq-eqb a.1.0 a.1.0 refl)
    (equal_refl a.1.1))

flip_entry : (a b : Entry) → same_entry a b ≡ true → same_entry b a ≡ true
flip_entry a b e = ap (λ (x : Entry). same_entry b x) (same_entry_lem a b e) ∙ own-entry b

-- Bytes that begin with an entry.
byte : (at : ℕ) (l : List ℕ) → decode (part at 1 l) ≡ get_or l at 0
byte at l = rw (decode-first 0 at l, decode_none (at + 1) l) (omega arith)

module _ {A : Type 0} (n : ℕ) (f : List ℕ → A) (at : ℕ) (s : List ℕ) where
  front_yes : at + n ≤ length s → front n f (drop at s) ≡ some (f (part at n s), drop (at + n) s)
  unfolding front part
  front_yes h = pick_true _ _ _ (le-leb n (length (drop at s)) (rw length-drop (omega arith))) ∙ rw (drop-drop n at s)

  front-no : at ≤ length s → length s < at + n → front n f (drop at s) ≡ none
  unfolding front
  front-no g h = pick-false _ _ _ (lt-leb n (length (drop at s)) (rw length-drop (omega arith)))

module _ (w : ℕ) (s : List ℕ) (at : ℕ) where
  length_byte : decode (part (at + w + 1) 1 s) ≡ get_or s (at + w + 1) 0
  length_byte = byte (at + w + 1) s

  entry_got : entry_end w s at ≤ length s → (entry_form w).get (drop at s) ≡ some (
    entry_at w s at,
    drop (entry_end w s at)
        s,
  )
  unfolding entry_form get_as get₂ bind entry_at entry_end
  entry_got h =
      let n = decode (part (at + w + 1) 1 s) in
      let e = length_byte in
      let q₃ : at + w + 1 + 1 ≡ at + w + 2 = omega arith in
      let q₄ : at + w + 1 + 1 + n ≡ at + w + 2 + get_or s (at + w + 1) 0 = omega arith in
      let k = byte (at + w) s in
      rw (
        front_yes w decode at s (omega arith),
        front_yes 1 decode (at + w) s (omega arith),
        front_yes 1 decode (at + w + 1) s (omega arith),
        front_yes n (λ b. b) (at + w + 1 + 1) s (omega arith),
      )
      (λ i. some ((decode (part at w s), (k i, part (q₃ i) (e i) s)), drop (q₄ i) s))

  entry-none : at ≤ length s → length s < entry_end w s at → (entry_form w).get (drop at s) ≡ none
  unfolding entry_form get_as get₂ bind entry_end
  entry-none g h = go (is (leb (at + w) (length s))) (is (leb (at + w + 1) (length s)))
      (is (leb (at + w + 2) (length s)))
    where
      go : Is (leb (at + w) (length s)) → Is (leb (at + w + 1) (length s)) → Is (leb (at + w + 2) (length s))
          → (entry_form w).get (drop at s) ≡ none
      go (is_f a) b c = rw (front-no w decode at s g (leb-false _ _ a))
      go (is_t a) (is_f b) c = rw (
        front_yes w decode at s (leb-true _ _ a),
        front-no 1 decode (at + w) s (leb-true _ _ a)
            (leb-false _ _ b),
      )
      go (is_t a) (is_t b) (is_f c) =
          let l = leb-true (at + w + 1) _ b in
          let m = leb-false (at + w + 2) (length s) c in
          rw (
            front_yes w decode at s (leb-true _ _ a),
            front_yes 1 decode (at + w) s l,
            front-no 1 decode (at + w + 1)
                s l (omega arith),
          )
      go (is_t a) (is_t b) (is_t c) =
          let l = leb-true (at + w + 1) _ b in
          let m = leb-true (at + w + 2) (length s) c in
          let e = length_byte in
          let n = decode (part (at + w + 1) 1 s) in
          rw (
            front_yes w decode at s (leb-true _ _ a),
            front_yes 1 decode (at + w) s l,
            front_yes 1 decode (at + w + 1) s (omega arith),
            front-no n (λ b. b) (at + w + 1 + 1) s (omega arith) (omega arith),
          )

-- A listing of these nodes, by its first entry.
nowhere : (x : Entry) (ys : List Entry) → any (same_entry x) ys ≡ false
    → ltb (place (same_entry x) ys) (length ys) ≡ false
nowhere x ys e = le-ltb _ _ (place_none (same_entry x) (0, (0, [])) ys (λ k h. any_at (same_entry x) (0, (0, [])) ys k e
    h))

-- what was read, with an entry before; the whole of what was read; what comes of it
abbrev more : Entry → Option (List Entry × List ℕ) → Option (List Entry × List ℕ)
more x none = none
more x (some q) = some (x ∷ q.0, q.1)

abbrev finished : Option (List Entry × List ℕ) → Option (List Entry)
finished none = none
finished (some (es, [])) = some es
finished (some (es, b ∷ r)) = none

abbrev outcome : List Node → Option (List Entry) → Bool
outcome ns none = false
outcome ns (some es) = is_rearranged same_entry es (map entry_of ns)

module _ (w : ℕ) (s : List ℕ) where
  whole_is : (k : ℕ) → whole (times (entry_form w) k) s ≡ finished (get_all (entry_form w) k s)
  unfolding whole bind ended
  whole_is k = go (get_all (entry_form w) k s)
    where
      go : (o : Option (List Entry × List ℕ))
          → bind o (λ (p : List Entry × List ℕ). ended (times (entry_form w) k) p.0 p.1) ≡ finished o
      go none = refl
      go (some (es, [])) = refl
      go (some (es, b ∷ r)) = refl

  listing_is : (ns : List Node) → is_listing w ns s ≡ outcome ns (finished (get_all (entry_form w) (length ns) s))
  unfolding is_listing
  listing_is ns = go (whole (times (entry_form w) (length ns)) s) ∙ ap (outcome ns) (whole_is (length ns))
    where
      go : (o : Option (List Entry))
          → (elim o as (λ _. Bool) [ none ↦ false | some es ↦ is_rearranged same_entry es (map entry_of ns) ]) ≡ outcome ns
          o
      go none = refl
      go (some es) = refl

module _ (w : ℕ) (s : List ℕ) where
  abbrev next : ℕ → Option (Entry × List ℕ) → Option (List Entry × List ℕ)
  next k o = bind o (λ (p : Entry × List ℕ). bind (get_all (entry_form w) k p.1) (λ (q : List Entry × List ℕ). some
      (p.0 ∷ q.0, q.1)))

  get_end : (k : ℕ) → (entry_form w).get s ≡ none → get_all (entry_form w) (suc k) s ≡ none
  unfolding get_all bind
  get_end k e = ap (next k) e

  -- nothing is left over where no nodes are
  listing_over : 0 < length s → is_listing w [] s ≡ false
  unfolding get_all
  listing_over h = listing_is w s [] ∙ go s h
    where
      go : (l : List ℕ) → 0 < length l → outcome [] (finished (get_all (entry_form w) 0 l)) ≡ false
      go [] l = absurd (omega arith)
      go (b ∷ r) l = refl

  -- bytes that begin with no entry
  listing_short : (ns : List Node) → (entry_form w).get s ≡ none → 0 < length ns → is_listing w ns s ≡ false
  listing_short [] e h = absurd (omega arith)
  listing_short (n ∷ ns) e h = listing_is w s (n ∷ ns)
      ∙ ap (λ (o : Option (List Entry × List ℕ)). outcome (n ∷ ns) (finished o)) (get_end (length ns) e)

  listing_none : (ns : List Node) → (entry_form w).get s ≡ none → 0 < length s → is_listing w ns s ≡ false
  listing_none [] e h = listing_over h
  listing_none (n ∷ ns) e h = listing_short (n ∷ ns) e (omega arith)

  module _ (x : Entry) (rest : List ℕ) (got : (entry_form w).get s ≡ some (x, rest)) where
    get_next : (k : ℕ) → get_all (entry_form w) (suc k) s ≡ more x (get_all (entry_form w) k rest)
    unfolding get_all bind
    get_next k = ap (next k) got ∙ go (get_all (entry_form w) k rest)
      where
        go : (o : Option (List Entry × List ℕ)) → bind o (λ (q : List Entry × List ℕ). some (x ∷ q.0, q.1)) ≡ more x o
        go none = refl
        go (some q) = refl

    -- an entry of none of them
    listing_other : (ns : List Node) → 0 < length s → any (same_entry x) (map entry_of ns) ≡ false
        → is_listing w ns s ≡ false
    unfolding is_rearranged
    listing_other [] h a = listing_over h
    listing_other (n ∷ ns) h a =
        listing_is w s (n ∷ ns) ∙ ap (λ (o : Option (List Entry × List ℕ)). outcome (n ∷ ns) (finished o))
        (get_next (length ns)) ∙ go (get_all (entry_form w) (length ns) rest)
      where
        go : (o : Option (List Entry × List ℕ)) → outcome (n ∷ ns) (finished (more x o)) ≡ false
        go none = refl
        go (some (es, [])) = ap (λ (b : Bool). b && is_rearranged same_entry es
            (without (place (same_entry x) (map entry_of (n ∷ ns))) (map entry_of (n ∷ ns))))
            (nowhere x (map entry_of (n ∷ ns)) a)
        go (some (es, b ∷ r)) = refl

    -- the entry of one of them
    listing_one : (ns ms : List Node) → Inserted x (map entry_of ms) (map entry_of ns) → length ns ≡ suc (length ms)
        → any (same_entry x) (map entry_of ms) ≡ false → is_listing w ns s ≡ is_listing w ms rest
    unfolding is_rearranged
    listing_one ns ms i l a =
        listing_is w s ns
        ∙ ap (λ (o : Option (List Entry × List ℕ)). outcome ns (finished o)) (ap (λ (k : ℕ). get_all (entry_form w) k s)
        l ∙ get_next (length ms))
        ∙ go (get_all (entry_form w) (length ms) rest)
        ∙ sym (listing_is w rest ms)
      where
        go : (o : Option (List Entry × List ℕ)) → outcome ns (finished (more x o)) ≡ outcome ms (finished o)
        go none = refl
        go (some (es, [])) =
            let (h, q) = found_again same_entry own-entry flip_entry x i a in
            ap (λ (b : Bool). b && is_rearranged same_entry es (without (place (same_entry x) (map entry_of ns))
            (map entry_of ns))) (lt-ltb _ _ h) ∙ ap (is_rearranged same_entry es) q
        go (some (es, b ∷ r)) = refl

-- The children without a mark.
inserted-map : {A B : Type 0} (f : A → B) {x : A} {xs ys : List A} → Inserted x xs ys
    → Inserted (f x) (map f xs) (map f ys)
inserted-map f at_front = at_front
inserted-map f (behind i) = behind (inserted-map f i)

module _ (p : ℕ) where
  unseen_same : (ns : List Node) (f g : ℕ → ℕ) → ((j : ℕ) → g j ≡ f j) → unseen p ns g ≡ unseen p ns f
  unfolding unseen
  unseen_same [] f g h = refl
  unseen_same (n ∷ ns) f g h =
      let e = unseen_same ns (λ j. f (suc j)) (λ j. g (suc j)) (λ j. h (suc j)) in
      rw (h 0, e)

  -- none is marked at first
  pub unseen_all : (ns : List Node) (f : ℕ → ℕ) → ((j : ℕ) → f j ≡ 0) → unseen p ns f ≡ children ns p
  unfolding unseen children select
  unseen_all [] f h = refl
  unseen_all (n ∷ ns) f h =
      let e : unseen p ns (λ j. f (suc j)) ≡ select (has_parent p) ns = unseen_all ns (λ j. f (suc j))
      (λ j. h (suc j)) in
      rw (h 0, e) (go (has_parent p n))
    where
      go : (b : Bool)
          → pick (b && true) (n ∷ select (has_parent p) ns) (select (has_parent p) ns) ≡ pick b (n
          ∷ select (has_parent p) ns) (select (has_parent p) ns)
      go true = refl
      go false = refl

  -- one is marked
  unseen_mark : (ns : List Node) (f g : ℕ → ℕ) (k : ℕ) → k < length ns → has_parent p (get_or ns k no_node) ≡ true → f k ≡ 0
      → g k ≡ 1
      → ((j : ℕ) → (j ≡ k → ⊥) → g j ≡ f j) → Inserted (get_or ns k no_node) (unseen p ns g) (unseen p ns f)
  unfolding unseen pick
  unseen_mark [] f g k h c a b same = absurd (omega arith)
  unseen_mark (n ∷ ns) f g zero h c a b same =
      let e = unseen_same ns (λ j. f (suc j)) (λ j. g (suc j)) (λ j. same (suc j) (λ q. omega arith)) in
      rw (c, a, b, e) at_front
  unseen_mark (n ∷ ns) f g (suc k) h c a b same =
      rw (same 0 (λ q. omega arith))
      (go (has_parent p n && eqb (f 0) 0) (unseen_mark ns (λ j. f (suc j)) (λ j. g (suc j)) k (omega arith) c a b
      (λ j d. same (suc j) (λ q. d (omega arith)))))
    where
      go : (t : Bool) → Inserted (get_or ns k no_node) (unseen p ns (λ j. g (suc j))) (unseen p ns (λ j. f (suc j)))
          → Inserted (get_or ns k no_node) (pick t (n ∷ unseen p ns (λ j. g (suc j))) (unseen p ns (λ j. g (suc j))))
          (pick t (n ∷ unseen p ns (λ j. f (suc j))) (unseen p ns (λ j. f (suc j))))
      go true i = behind i
      go false i = i

  -- an entry of none of them
  unseen_away : (x : Entry) (ns : List Node) (f : ℕ → ℕ)
      → ((j : ℕ) → j < length ns → has_parent p (get_or ns j no_node) ≡ true → f j ≡ 0
      → same_entry x (entry_of (get_or ns j no_node)) ≡ false)
      → any (same_entry x) (map entry_of (unseen p ns f)) ≡ false
  unfolding unseen any pick
  unseen_away x [] f h = refl
  unseen_away x (n ∷ ns) f h = go (has_parent p n && eqb (f 0) 0) refl (unseen_away x ns (λ j. f (suc j))
      (λ j l c a. h (suc j) (omega arith) c a))
    where
      go : (t : Bool) → (has_parent p n && eqb (f 0) 0) ≡ t
          → any (same_entry x) (map entry_of (unseen p ns (λ j. f (suc j)))) ≡ false
          → any (same_entry x) (map entry_of (pick t (n ∷ unseen p ns (λ j. f (suc j))) (unseen p ns (λ j. f (suc j))))) ≡
          false
      go true e a = or_both _ _ (h 0 (omega arith) (and_fst _ _ e) (eqb-true _ _ (and_snd (has_parent p n) _ e))) a
      go false e a = a

-- The place that an entry names.
module _ (ns : List Node) (p : ℕ) (x : Entry) where
  abbrev named : ℕ
  named = find_id ns x.0

  -- where it is one of the nodes, the entry is that node's, and the node a child
  module _ (k : ℕ) (found : k ≡ entry_place ns p x) (known : k < length ns) where
    entry-is : names_child p x (get_or ns k no_node) ≡ true
    unfolding entry_place node_at
    entry-is = go (is (names_child p x (get_or ns named no_node)))
      where
        go : Is (names_child p x (get_or ns named no_node)) → names_child p x (get_or ns k no_node) ≡ true
        go (is_t e) = ap (λ (j : ℕ). names_child p x (get_or ns j no_node)) (found ∙ pick_true _ _ _ e) ∙ e
        go (is_f e) = let q : k ≡ length ns = found ∙ pick-false _ _ _ e in absurd (omega arith)

    pub entry_same : same_entry x (entry_of (get_or ns k no_node)) ≡ true
    entry_same = and_snd (has_parent p (get_or ns k no_node)) _ entry-is

    pub entry_child : has_parent p (get_or ns k no_node) ≡ true
    entry_child = and_fst _ _ entry-is

    -- and no other child has it
    pub entry_only : Sound ID_BYTES ns → (j : ℕ) → j < length ns → (j ≡ k → ⊥)
        → same_entry x (entry_of (get_or ns j no_node)) ≡ false
    unfolding node_at
    entry_only s j h d = go (is (same_entry x (entry_of (get_or ns j no_node))))
      where
        go : Is (same_entry x (entry_of (get_or ns j no_node))) → same_entry x (entry_of (get_or ns j no_node)) ≡ false
        go (is_f e) = e
        go (is_t e) = absurd (d (s.ids j k h known (sym (ap (λ (y : Entry). y.0) (same_entry_lem _ _ e))
            ∙ ap (λ (y : Entry). y.0) (same_entry_lem _ _ entry_same))))

  -- where it is none of them, the entry is no child's
  entry_missing : Sound ID_BYTES ns → length ns ≤ entry_place ns p x → (j : ℕ) → j < length ns
      → has_parent p (get_or ns j no_node) ≡ true
      → same_entry x (entry_of (get_or ns j no_node)) ≡ false
  unfolding node_at entry_place
  entry_missing s l j h c = go (is (same_entry x (entry_of (get_or ns j no_node))))
    where
      go : Is (same_entry x (entry_of (get_or ns j no_node))) → same_entry x (entry_of (get_or ns j no_node)) ≡ false
      go (is_f e) = e
      go (is_t e) =
          let i : named ≡ j = sym (place_with_id ns j x.0 s h (ap (λ (y : Entry). y.0) (sym (same_entry_lem _ _ e)))) in
          let t : names_child p x (get_or ns named no_node) ≡ true = ap (λ (k : ℕ). names_child p x (get_or ns k no_node)) i
          ∙ and_both _ _ c e in
          let u : entry_place ns p x ≡ named = pick_true _ _ _ t in
          absurd (omega arith)

-- The listing r of p's children, of which the entries before `at` are marked.
module _ (ns : List Node) (p : ℕ) (r : List ℕ) where
  abbrev pub Left : List ℕ → ℕ → Type 0
  Left ms at = sound_nodes ID_BYTES ns ≡ true → is_listing ID_BYTES (children ns p) r ≡ is_listing ID_BYTES
      (unseen p ns (marks ms)) (drop at r)

  module _ (ms : List ℕ) (at : ℕ) (left : Left ms at) (more_left : at < length r) where
    some_left : 0 < length (drop at r)
    some_left = rw length-drop (omega arith)

    pub listing_cut : length r < entry_end ID_BYTES r at → sound_nodes ID_BYTES ns ≡ true
        → is_listing ID_BYTES (children ns p) r ≡ false
    listing_cut h v = left v ∙ listing_none ID_BYTES (drop at r) (unseen p ns (marks ms))
        (entry-none ID_BYTES r at (omega arith) h) some_left

    module _ (fits : entry_end ID_BYTES r at ≤ length r) where
      abbrev entry : Entry
      entry = entry_at ID_BYTES r at

      other : any (same_entry entry) (map entry_of (unseen p ns (marks ms))) ≡ false → sound_nodes ID_BYTES ns ≡ true
          → is_listing ID_BYTES (children ns p) r ≡ false
      other a v = left v ∙ listing_other ID_BYTES (drop at r) entry (drop (entry_end ID_BYTES r at) r)
          (entry_got ID_BYTES r at fits) (unseen p ns (marks ms)) some_left a

      pub listing_missing : length ns ≤ entry_place ns p entry → sound_nodes ID_BYTES ns ≡ true
          → is_listing ID_BYTES (children ns p) r ≡ false
      listing_missing h v = other (unseen_away p entry ns (marks ms) (λ j l c _. entry_missing ns p entry
          (to_sound ID_BYTES ns v) h j l c)) v

      module _ (k : ℕ) (found : k ≡ entry_place ns p entry) (known : k < length ns) where
        pub listing_twice : (get_or ms k 0 ≡ 0 → ⊥) → sound_nodes ID_BYTES ns ≡ true
            → is_listing ID_BYTES (children ns p) r ≡ false
        listing_twice d v =
            other (unseen_away p entry ns (marks ms) (λ j l c z. entry_only ns p entry k found known
            (to_sound ID_BYTES ns v) j l (λ e. d (ap (marks ms) (sym e) ∙ z)))) v

        module _ (free : get_or ms k 0 ≡ 0) (room : k < length ms) where
          marked : Inserted (get_or ns k no_node) (unseen p ns (marks (set ms k 1))) (unseen p ns (marks ms))
          marked =
              unseen_mark p ns (marks ms) (marks (set ms k 1)) k known (entry_child ns p entry k found known) free
              (get_or-set_same ms k 1 0 room)
              (λ j d. get_or-set_other ms k j 1 0 d)

          pub count_next : (c total : ℕ) → c + length (unseen p ns (marks ms)) ≡ total
              → c + 1 + length (unseen p ns (marks (set ms k 1))) ≡ total
          count_next c total e = let l = inserted-length marked in omega arith

          pub left-next : Left (set ms k 1) (entry_end ID_BYTES r at)
          left-next v =
              let s = to_sound ID_BYTES ns v in
              let e : entry ≡ entry_of (get_or ns k no_node) = same_entry_lem _ _ (entry_same ns p entry k found known) in
              left v
              ∙ listing_one ID_BYTES (drop at r) entry (drop (entry_end ID_BYTES r at) r) (entry_got ID_BYTES r at fits)
              (unseen p ns (marks ms)) (unseen p ns (marks (set ms k 1)))
              (rw e (inserted-map entry_of marked)) (inserted-length marked)
              (unseen_away p entry ns (marks (set ms k 1)) (λ j l c z. entry_only ns p entry k found known s j l
              (λ q. let o : get_or (set ms k 1) k 0 ≡ 1 = get_or-set_same ms k 1 0 room in let y : get_or (set ms k 1) k
              0 ≡ 0 = ap (marks (set ms k 1)) (sym q) ∙ z in omega arith)))

  -- the entries are used up
  module _ (ms : List ℕ) (at c : ℕ) (left : Left ms at) (none_left : length r ≤ at)
      (count : c + length (unseen p ns (marks ms)) ≡ length (children ns p)) where
    nothing : drop at r ≡ []
    nothing = drop_of_length-le r none_left

    pub listing_few : (c ≡ length (children ns p) → ⊥) → sound_nodes ID_BYTES ns ≡ true
        → is_listing ID_BYTES (children ns p) r ≡ false
    listing_few d v =
        left v
        ∙ ap (is_listing ID_BYTES (unseen p ns (marks ms))) nothing
        ∙ listing_short ID_BYTES [] (unseen p ns (marks ms)) (entry-none ID_BYTES [] 0 (omega arith)
        (unfold entry_end in omega arith)) (positive (length (unseen p ns (marks ms))) (λ e. d (omega arith)))
      where
        positive : (n : ℕ) → (n ≡ 0 → ⊥) → 0 < n
        positive n h = omega arith

    pub listing_whole : c ≡ length (children ns p) → sound_nodes ID_BYTES ns ≡ true
        → is_listing ID_BYTES (children ns p) r ≡ true
    unfolding is_rearranged get_all
    listing_whole e v =
        let z : length (unseen p ns (marks ms)) ≡ 0 = omega arith in
        left v ∙ ap (is_listing ID_BYTES (unseen p ns (marks ms))) nothing ∙ go (unseen p ns (marks ms)) z
      where
        go : (l : List Node) → length l ≡ 0 → is_listing ID_BYTES l [] ≡ true
        go [] h = listing_is ID_BYTES [] []
        go (n ∷ l) h = absurd (omega arith)

  -- at first none is marked
  pub left-first : (ms : List ℕ) → ((j : ℕ) → get_or ms j 0 ≡ 0) → Left ms 0
  left-first ms h v = ap (λ (l : List Node). is_listing ID_BYTES l r) (sym (unseen_all p ns (marks ms) h))

  pub count-first : (ms : List ℕ) → ((j : ℕ) → get_or ms j 0 ≡ 0) → 0 + length (unseen p ns (marks ms)) ≡ length
      (children ns p)
  count-first ms h = let e = ap length (unseen_all p ns (marks ms) h) in omega arith

-- The place behind an entry, or 0.
module _ (w : ℕ) (s : List ℕ) (at : ℕ) where
  pub end-front : at + w + 2 ≤ entry_end w s at
  unfolding entry_end
  end-front = omega arith

  pub end_cut : length s < entry_end w s at → None ≡ end_within w s at
  unfolding end_within
  end_cut h = sym (pick-false _ _ _ (lt-leb _ _ h))

  pub end-there : entry_end w s at ≤ length s → Some (entry_end w s at) ≡ end_within w s at
  unfolding end_within
  end-there h = sym (pick_true _ _ _ (le-leb _ _ h))

  pub cut-end : None ≡ end_within w s at → length s < entry_end w s at
  unfolding end_within
  cut-end e = go (is (leb (entry_end w s at) (length s)))
    where
      go : Is (leb (entry_end w s at) (length s)) → length s < entry_end w s at
      go (is_t t) = let q : ◌≡◌ {A = Place ℕ} None (Some (entry_end w s at)) = e ∙ pick_true _ _ _ t in
          absurd (true≢false (sym (ap is_some q)))
      go (is_f t) = leb-false _ _ t

  pub there-end : (e : ℕ) → Some e ≡ end_within w s at → (e ≡ entry_end w s at) × (entry_end w s at ≤ length s)
  unfolding end_within
  there-end e i = go (is (leb (entry_end w s at) (length s)))
    where
      go : Is (leb (entry_end w s at) (length s)) → (e ≡ entry_end w s at) × (entry_end w s at ≤ length s)
      go (is_t t) = (ap (λ o. unwrap_or o 0) (i ∙ pick_true _ _ _ t), leb-true _ _ t)
      go (is_f t) = let q : ◌≡◌ {A = Place ℕ} (Some e) None = i ∙ pick-false _ _ _ t in
          absurd (true≢false (ap is_some q))

-- The place that an entry names, by its fields.
module _ (ns : List Node) (p : ℕ) (x : Entry) (k : ℕ) (named-is : k ≡ find_id ns x.0) where
  pub place_gone : length ns ≤ k → length ns ≡ entry_place ns p x
  unfolding entry_place find_id
  place_gone l =
      let m = place_most (has_id x.0) ns in
      let e : find_id ns x.0 ≡ length ns = omega arith in
      sym (go (is (names_child p x (node_at ns (find_id ns x.0)))) e)
    where
      go : Is (names_child p x (node_at ns (find_id ns x.0))) → find_id ns x.0 ≡ length ns
          → entry_place ns p x ≡ length ns
      go (is_t t) e = pick_true _ _ _ t ∙ e
      go (is_f t) e = pick-false _ _ _ t

  differs : (names_child p x (node_at ns k) ≡ true → ⊥) → length ns ≡ entry_place ns p x
  unfolding entry_place
  differs d = go (is (names_child p x (node_at ns k)))
    where
      go : Is (names_child p x (node_at ns k)) → length ns ≡ entry_place ns p x
      go (is_t e) = absurd (d e)
      go (is_f e) = sym (pick-false _ _ _ (ap (λ (j : ℕ). names_child p x (node_at ns j)) (sym named-is) ∙ e))

  pub place_other_kind : (x.1.0 ≡ (node_at ns k).kind → ⊥) → length ns ≡ entry_place ns p x
  place_other_kind d = differs
      (λ e. d (ap (λ (y : Entry). y.1.0) (same_entry_lem _ _ (and_snd (has_parent p (node_at ns k)) _ e))))

  pub place_no_child : is_child p x.1.1 (node_at ns k) ≡ false → length ns ≡ entry_place ns p x
  place_no_child f = differs (λ e.
      let q = same_entry_lem _ _ (and_snd (has_parent p (node_at ns k)) _ e) in
      true≢false (sym (and_both _ _ (and_fst (has_parent p (node_at ns k)) _ e)
      (equal_yes _ _ (ap (λ (y : Entry). y.1.1) (sym q)))) ∙ f))

  pub place_same : k < length ns → x.1.0 ≡ (node_at ns k).kind → is_child p x.1.1 (node_at ns k) ≡ true
      → k ≡ entry_place ns p x
  unfolding same_entry entry_place
  place_same h q c =
      let i : x.0 ≡ (node_at ns k).id = sym (ap (λ (j : ℕ). (node_at ns j).id) named-is
      ∙ find_id-has ns x.0 (omega arith)) in
      let n : x.1.1 ≡ (node_at ns k).name = sym (equal_true _ _ (and_snd (has_parent p (node_at ns k)) _ c)) in
      let s : same_entry x (entry_of (node_at ns k)) ≡ true = and_both _ _ (eq-eqb x.0 _ i)
      (and_both _ _ (eq-eqb x.1.0 _ q) (equal_yes _ _ n)) in
      let t : names_child p x (node_at ns k) ≡ true = and_both _ _ (and_fst (has_parent p (node_at ns k)) _ c) s in
      named-is ∙ sym (pick_true _ _ _ (ap (λ (j : ℕ). names_child p x (node_at ns j)) (sym named-is) ∙ t))

-- The stop reason.
module _ (t : Tables) (r : List ℕ) (k p : ℕ) (is_id : (node_at t.nodes k).id ≡ p) where
  pub listing_stops : is_listing ID_BYTES (children t.nodes p) r ≡ false → reason_for t r (asked (listing k)) ≡ 7
  unfolding reason_for reply_checks
  listing_stops e = check_stops (λ i. i) 7 _ _ _ (ap not (ap (λ (q : ℕ). is_listing ID_BYTES (children t.nodes q) r)
      is_id ∙ e))

  pub listing_passes : is_listing ID_BYTES (children t.nodes p) r ≡ true → reason_for t r (asked (listing k)) ≡ 0
  unfolding reason_for reply_checks
  listing_passes e = check_last (λ i. i) 7 _ _ (ap not (ap (λ (q : ℕ). is_listing ID_BYTES (children t.nodes q) r)
      is_id ∙ e))

-- The name of an entry, between its front and its end.
pub entry-name : (w : ℕ) (s : List ℕ) (at start end : ℕ) → start ≡ at + w + 2 → end ≡ entry_end w s at
    → take (end - start) (drop start s) ≡ (entry_at w s at).1.1
unfolding entry_at entry_end part
entry-name w s at start end p q =
    let n : end - start ≡ get_or s (at + w + 1) 0 = omega arith in
    rw (n, p)
