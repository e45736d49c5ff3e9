-- Maps: a reply passes the checks exactly where it is right; what is accepted keeps the table of maps valid, and so does the end of a map; and there is
-- always a free address.
-- Assumes nothing.
use Rattle.std.specs.Prelude.{◌≡◌, refl, true, false, ◌&&◌, eqb, leb, ltb, get_or}
use Rattle.std.proofs.Math.Path.{ap, ap₂, sym, subst}
use Rattle.std.proofs.Common.{◌∙◌, inl, inr, arith, take-append-drop}
use Rattle.std.proofs.Math.Bool.{not}
use mathlib.Core.List.{List, [], ◌∷◌, ◌++◌, map}
use Prim.Native.Nat.{ℕ, zero, suc, ◌+◌, ◌*◌, ◌/◌, ◌%◌, ◌^◌, ◌≤◌, ◌<◌}
use Rattle.std.proofs.Math.ListN.{length, take, drop, replicate, length-append, length-take, length-drop}
use Rattle.std.proofs.lemmas.List.{length-replicate, length-map}
use Rattle.std.proofs.Math.Seq.{take_at, drop_at}
use borrow.Author.Tests.{eqb-true, eqb-false, eq-eqb, ne_eqb, ltb-false, le-ltb, leb-true, leb-false, not-false}
use Rattle.lists.specs.Equal.{Is, is_t, is_f, is, and_fst, and_snd, or_fst, or_snd, or_both}
use Rattle.lists.specs.All.{All, both, none, Bytes, all_append, all_take}
use Rattle.lists.specs.Search.{any, every, unique, every_all}
use Rattle.lists.specs.Places.{all_without, length_without, unique-without, unique_snoc, unique-at, all_place}
use Rattle.lists.specs.Free.{free, Free, free_new}
use Rattle.lists.specs.LittleEndian.{encode, decode, length-encode, decode-encode, encode-decode, decode_below}
use Rattle.lists.specs.Checks.{Passed}
use Rattle.filesystem.specs.MemoryMaps.{no_map, Map, MAP_UNIT, MAP_BYTES}
use Rattle.rules.specs.MapRules.{ADDRESSES, is_map_size, find_map, overlaps, address_in, map_in, map_faults, begins, ends, maps_after}
use Rattle.rules.specs.RightReplies.{Apart, RightMap}
use Rattle.rules.specs.ValidMaps.{ValidMap, ValidMaps}

-- Overlaps.
apart_if : (m n : Map) → overlaps m n ≡ false → Apart m n
unfolding overlaps
apart_if m n e = go (is (ltb m.address (n.address + n.size)))
  where
    go : Is (ltb m.address (n.address + n.size)) → Apart m n
    go (is_t h) = inl (ltb-false _ _ (sym (ap (λ b. b && ltb n.address (m.address + m.size)) h) ∙ e))
    go (is_f h) = inr (ltb-false _ _ h)

if-apart : (m n : Map) → Apart m n → overlaps m n ≡ false
unfolding overlaps
if-apart m n (inl h) = go (is (ltb m.address (n.address + n.size)))
  where
    go : Is (ltb m.address (n.address + n.size)) → (ltb m.address (n.address + n.size) && ltb n.address (m.address + m.size)) ≡ false
    go (is_t x) = ap (λ b. b && ltb n.address (m.address + m.size)) x ∙ le-ltb _ _ h
    go (is_f x) = ap (λ b. b && ltb n.address (m.address + m.size)) x
if-apart m n (inr h) = ap (λ b. b && ltb n.address (m.address + m.size)) (le-ltb _ _ h)

apart_back : (m n : Map) → Apart m n → Apart n m
apart_back m n (inl h) = inr h
apart_back m n (inr h) = inl h

-- two maps that lie apart have no byte in common
pub no_byte_shared : (m n : Map) → Apart m n → (x : ℕ) → m.address ≤ x → x < m.address + m.size → n.address ≤ x → x < n.address + n.size → ⊥
no_byte_shared m n (inl h) x a b c d = omega arith
no_byte_shared m n (inr h) x a b c d = omega arith

any_apart : (m : Map) (ms : List Map) → any (overlaps m) ms ≡ false → All (Apart m) ms
unfolding any
any_apart m [] e = none
any_apart m (n ∷ ms) e = both (apart_if m n (or_fst _ _ e)) (any_apart m ms (or_snd (overlaps m n) _ e))

apart_any : (m : Map) {ms : List Map} → All (Apart m) ms → any (overlaps m) ms ≡ false
unfolding any
apart_any m none = refl
apart_any m (both h a) = or_both _ _ (if-apart m _ h) (apart_any m a)

-- Zeros.
zeros : {s : List ℕ} → All (λ b. eqb 0 b ≡ true) s → s ≡ replicate (length s) 0
zeros none = refl
zeros (both h a) = ap₂ ◌∷◌ (sym (eqb-true 0 _ h)) (zeros a)

zeros_pass : (n : ℕ) → every (eqb 0) (replicate n 0) ≡ true
unfolding every
zeros_pass zero = refl
zeros_pass (suc n) = zeros_pass n

-- Accepted exactly where right.
module _ (ms : List Map) (n : ℕ) (r : List ℕ) where
  pub map_right : Bytes r → length r ≡ 8 + n → Passed (map_faults ms n r) → RightMap ms n r
  unfolding map_faults
  map_right b l (both z (both u (both e (both o (both s none))))) =
      let a = address_in r in
      let long : length (take 8 r) ≡ 8 = rw length-take (omega arith) in
      let rest : length (drop 8 r) ≡ n = rw length-drop (omega arith) in
      let unit : a % 4096 ≡ 0 = eqb-true _ _ (not-false _ u) in
      let below : a < 256 ^ length (take 8 r) = decode_below (take 8 r) (all_take 8 b) in
      let first : encode 8 a ≡ take 8 r = subst (λ k. encode k a ≡ take 8 r) long (encode-decode (take 8 r) (all_take 8 b)) in
      let second : drop 8 r ≡ replicate n 0 = subst (λ k. drop 8 r ≡ replicate k 0) rest (zeros (every_all (eqb 0) (drop 8 r) (not-false _ s))) in
      record {
        address = a;
        units = a / 4096;
        low = subst (λ k. a < 256 ^ k) long below;
        bytes = sym (take-append-drop 8 r) ∙ ap₂ ◌++◌ (sym first) second;
        whole_units = omega arith;
        not-zero = eqb-false _ _ z;
        ends-inside = ltb-false _ _ e;
        apart = any_apart (map_in n r) ms o;
      }

  pub right_map : RightMap ms n r → (length r ≡ 8 + n) × Passed (map_faults ms n r)
  unfolding map_faults
  right_map h =
      let a = h.address in
      let t : take 8 r ≡ encode 8 a = ap (take 8) h.bytes ∙ take_at (encode 8 a) (replicate n 0) 8 (length-encode 8 a) in
      let d : drop 8 r ≡ replicate n 0 = ap (drop 8) h.bytes ∙ drop_at (encode 8 a) (replicate n 0) 8 (length-encode 8 a) in
      let e : address_in r ≡ a = ap decode t ∙ decode-encode 8 a h.low in
      let w = h.whole_units in
      let x = h.ends-inside in (
        ap length h.bytes ∙ length-append (encode 8 a) (replicate n 0) ∙ ap₂ ◌+◌ (length-encode 8 a) (length-replicate n 0),
        both (ne_eqb _ _ (λ q. h.not-zero (sym e ∙ q)))
            (both (ap not (eq-eqb (address_in r % 4096) 0 (omega arith)))
            (both (le-ltb _ _ (subst (λ y. y + n ≤ ADDRESSES) (sym e) x))
            (both (apart_any (map_in n r) (subst (λ y. All (Apart (record { address = y; size = n })) ms) (sym e) h.apart))
            (both (ap not (ap (every (eqb 0)) d ∙ zeros_pass n)) none)))),
      )

-- two right replies differ in the address only
pub right_maps_same : (ms : List Map) (n : ℕ) (r s : List ℕ) → (x : RightMap ms n r) (y : RightMap ms n s) → x.address ≡ y.address → r ≡ s
right_maps_same ms n r s x y e = x.bytes ∙ ap (λ a. encode 8 a ++ replicate n 0) e ∙ sym y.bytes

pub none_valid : ValidMaps []
unfolding unique
none_valid = record { each = none; apart = refl; few = omega arith }

pub size_fits : (n : ℕ) → is_map_size n ≡ true → (MAP_UNIT ≤ n) × (n ≤ MAP_BYTES)
unfolding is_map_size
size_fits n e = (leb-true _ _ (and_fst _ _ e), leb-true _ _ (and_fst _ _ (and_snd (leb 4096 n) _ e)))

-- a reply that passes names a map that may begin
pub begins_valid : (ms : List Map) (n : ℕ) (r : List ℕ) → ValidMaps ms → length ms < 16 → is_map_size n ≡ true → Passed (map_faults ms n r)
    → ValidMaps (maps_after (begins (map_in n r)) ms)
unfolding map_faults maps_after
begins_valid ms n r v room size (both z (both u (both e (both o (both s none))))) =
    let (lo, hi) = size_fits n size in
    let nz : address_in r ≡ 0 → ⊥ = eqb-false _ _ z in
    let apart = any_apart (map_in n r) ms o in
    record {
      each = all_append v.each (both (record { units = eqb-true _ _ (not-false _ u); not-zero = omega arith; ends-inside = ltb-false _ _ e; least = lo; most = hi }) none);
      apart = unique_snoc overlaps no_map ms (map_in n r) v.apart (λ k l. if-apart _ _ (apart_back (map_in n r) (get_or ms k no_map) (all_place no_map k apart l)));
      few = rw length-append (omega arith);
    }

pub ends_valid : (ms : List Map) (a : ℕ) → ValidMaps ms → find_map ms a < length ms → ValidMaps (maps_after (ends a) ms)
unfolding maps_after
ends_valid ms a v h = record {
  each = all_without (find_map ms a) v.each;
  apart = unique-without overlaps no_map (find_map ms a) ms h v.apart;
  few = let n = length_without (find_map ms a) ms h in let f = v.few in omega arith;
}

-- no two of them have a byte in common
pub maps_apart : (ms : List Map) → ValidMaps ms → (i j : ℕ) → i < j → j < length ms → (x : ℕ)
    → (get_or ms i no_map).address ≤ x → x < (get_or ms i no_map).address + (get_or ms i no_map).size
    → (get_or ms j no_map).address ≤ x → x < (get_or ms j no_map).address + (get_or ms j no_map).size → ⊥
maps_apart ms v i j h l x = no_byte_shared (get_or ms i no_map) (get_or ms j no_map) (apart_if _ _ (unique-at overlaps no_map ms i j v.apart h l)) x

-- one map more, one less
pub begun_more : (ms : List Map) (m : Map) → length (maps_after (begins m) ms) ≡ suc (length ms)
unfolding maps_after
begun_more ms m = rw length-append (omega arith)

pub ended_fewer : (ms : List Map) (a : ℕ) → find_map ms a < length ms → suc (length (maps_after (ends a) ms)) ≡ length ms
unfolding maps_after
ended_fewer ms a h = length_without (find_map ms a) ms h

-- A free address. Of the slots of 65,536 bytes that begin at each multiple of 131,072 a map overlaps one at most: with at most sixteen maps one of
-- the first seventeen is free.
abbrev slot_of : Map → ℕ
slot_of m = (m.address + 65536) / 131072

unfoldable pub free_address : List Map → ℕ
free_address ms = free (length ms) 1 (map slot_of ms) * 131072

slot_apart : (k n : ℕ) (m : Map) → n ≤ 65536 → m.size ≤ 65536 → (slot_of m ≡ k → ⊥) → Apart (record { address = k * 131072; size = n }) m
slot_apart k n m hn hm d = go (is (leb (k * 131072 + n) m.address)) (is (leb (m.address + m.size) (k * 131072)))
  where
    go : Is (leb (k * 131072 + n) m.address) → Is (leb (m.address + m.size) (k * 131072)) → Apart (record { address = k * 131072; size = n }) m
    go (is_t x) y = inl (leb-true _ _ x)
    go (is_f x) (is_t y) = inr (leb-true _ _ y)
    go (is_f x) (is_f y) =
        let p : m.address < k * 131072 + n = leb-false _ _ x in
        let q : k * 131072 < m.address + m.size = leb-false _ _ y in
        absurd (d (omega arith))

slots_apart : (k n : ℕ) (ms : List Map) → n ≤ 65536 → All ValidMap ms → All (λ y. y ≡ k → ⊥) (map slot_of ms)
    → All (Apart (record { address = k * 131072; size = n })) ms
slots_apart k n [] hn v a = none
slots_apart k n (m ∷ ms) hn (both x v) (both d a) = both (slot_apart k n m hn x.most d) (slots_apart k n ms hn v a)

pub free_right : (ms : List Map) (n : ℕ) → ValidMaps ms → is_map_size n ≡ true → RightMap ms n (encode 8 (free_address ms) ++ replicate n 0)
unfolding free_address
free_right ms n v size =
    let (lo, hi) = size_fits n size in
    let f : Free (length ms) 1 (map slot_of ms) (free (length ms) 1 (map slot_of ms)) =
    free_new (length ms) 1 (map slot_of ms) (let e = length-map ms slot_of in omega arith) in
    let k = free (length ms) 1 (map slot_of ms) in
    let from = f.from in
    let to = f.to in
    let few = v.few in
    let k-lo : 1 ≤ k = from in
    let k-hi : k ≤ 17 = omega arith in
    record {
      address = k * 131072;
      units = k * 32;
      low = omega arith;
      bytes = refl;
      whole_units = omega arith;
      not-zero = λ z. omega arith;
      ends-inside = omega arith;
      apart = slots_apart k n ms hi v.each f.new;
    }
