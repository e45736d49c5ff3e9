-- The fields of a call by their places in its bytes, shape by shape; and the fields of a kind that no call has.
-- Assumes nothing.
use Rattle.std.specs.Prelude.{◌≡◌, Bool, true, ◌&&◌, leb, get_or, take, drop}
use Rattle.std.proofs.Math.Path.{refl, ap, sym}
use Rattle.std.proofs.Common.{◌∙◌, arith, drop_of_length-le, drop-cons}
use Rattle.std.proofs.Math.Bool.{false}
use mathlib.Core.List.{List, [], ◌∷◌, ◌++◌}
use Rattle.std.proofs.Math.Option.{Option, some, none}
use Prim.Native.Nat.{ℕ, ◌+◌, ◌-◌, ◌^◌, ◌<◌, ◌≤◌}
use Rattle.std.proofs.Math.Dec.{eqb}
use Rattle.std.proofs.Math.ListN.{length, length-drop, length-append}
use Rattle.std.proofs.Math.Seq.{drop-drop}
use borrow.Author.Tests.{le-leb, lt-leb, ne_eqb}
use Rattle.lists.specs.Pick.{pick, pick_true, pick-false}
use Rattle.lists.specs.Equal.{and_both}
use Rattle.lists.specs.All.{Bytes, all_drop}
use Rattle.lists.specs.Parts.{part}
use Rattle.lists.specs.LittleEndian.{encode, decode, length-encode}
use Rattle.lists.specs.NumberParts.{part_below}
use Rattle.lists.specs.Form.{Form, bind, front, get₂, whole, ended}
use Rattle.lists.specs.FormLaws.{whole-was-written}
use Rattle.lists.specs.Formats.{num, then}
use Rattle.filesystem.specs.Tables.{DATA_BYTES}
use Rattle.filesystem.specs.Paths.{Path, read_path}
use Rattle.rules.specs.Calls.{Call, by_path, by_number_and_path, by_handle, by_handle_and_number, by_handle_and_bytes, read_fields}
use Rattle.rules.specs.Calls.{by_number, by_two_paths, read_call}

-- a number of w bytes from `at` on, and what is after it
module _ (w at : ℕ) (s : List ℕ) where
  num_got : at + w ≤ length s → front w decode (drop at s) ≡ some (decode (part at w s), drop (at + w) s)
  unfolding front part
  num_got h = pick_true _ _ _ (le-leb w (length (drop at s)) (rw length-drop (omega arith))) ∙ rw (drop-drop w at s)

  num-short : at ≤ length s → length s < at + w → front w decode (drop at s) ≡ none
  unfolding front
  num-short g h = pick-false _ _ _ (lt-leb w (length (drop at s)) (rw length-drop (omega arith)))

  -- w bytes hold no more
  pub number_below : (n : ℕ) → Bytes s → at + w ≤ length s → n ≡ decode (part at w s) → n < 256 ^ w
  number_below n b h e = rw e (part_below at w s b h)

-- a form that takes all bytes, and one of a fixed width with other lengths
ended_all : {A : Type 0} (F : Form A) (a : A) (r : List ℕ) → length r ≡ 0 → ended F a r ≡ some a
unfolding ended
ended_all F a [] h = refl
ended_all F a (x ∷ r) h = absurd (omega arith)

module _ {A : Type 0} (F : Form A) (n : ℕ) (width : (a : A) → length (F.put a) ≡ n) (s : List ℕ) (bytes : Bytes s)
  where
    whole_none : 0 < length s → (length s ≡ 1 + n → ⊥) → whole F (drop 1 s) ≡ none
    whole_none h wrong = go (whole F (drop 1 s)) refl
      where
        go : (o : Option A) → whole F (drop 1 s) ≡ o → whole F (drop 1 s) ≡ none
        go none e = e
        go (some a) e =
            let q : length (drop 1 s) ≡ n = ap length (whole-was-written F (drop 1 s) a (all_drop 1 bytes) e).1
            ∙ width a in
            absurd (wrong (omega (arith, length-drop 1 s)))

module _ (w : ℕ) (s : List ℕ) (there : 0 < length s) where
  -- a handle
  pub handle_got : (make : ℕ → Call) (h : ℕ) → h ≡ decode (part 1 w s) → length s ≡ 1 + w
      → some (make h) ≡ by_handle w make (drop 1 s)
  unfolding by_handle whole bind
  handle_got make h e l =
      ap (λ x. some (make x)) e
      ∙ sym (rw (
        num_got w 1 s (omega arith),
        ended_all (num w) (decode (part 1 w s)) (drop (1 + w) s)
            (rw length-drop (omega arith)),
      ))

  pub handle_wrong : (make : ℕ → Call) → Bytes s → (length s ≡ 1 + w → ⊥) → none ≡ by_handle w make (drop 1 s)
  unfolding by_handle bind
  handle_wrong make b wrong = sym (rw (whole_none (num w) w (length-encode w) s b there wrong))

  -- a handle and a number
  module _ (v : ℕ) (allowed : ℕ → Bool) (make : ℕ → ℕ → Call) where
    pub pair_wrong : Bytes s → (length s ≡ 1 + w + v → ⊥) → none ≡ by_handle_and_number w v allowed make (drop 1 s)
    unfolding by_handle_and_number bind
    pair_wrong b wrong =
        let width : (p : ℕ × ℕ) → length (encode w p.0 ++ encode v p.1) ≡ w + v = λ p. length-append
        (encode w p.0) (encode v p.1) ∙ rw (length-encode w p.0, length-encode v p.1) in
        sym (rw (whole_none (then (num w) (λ _. num v)) (w + v) width s b there (λ e. wrong (omega arith))))

    module _ (h n : ℕ) (first : h ≡ decode (part 1 w s)) (second : n ≡ decode (part (1 + w) v s))
        (l : length s ≡ 1 + w + v) where
      pair_got : by_handle_and_number w v allowed make (drop 1 s) ≡ pick (allowed n) (some (make h n)) none
      unfolding by_handle_and_number whole get₂ bind
      pair_got =
          rw (
            num_got w 1 s (omega arith),
            num_got v (1 + w) s (omega arith),
            ended_all (then (num w) (λ _. num v)) (decode (part 1 w s), decode (part (1 + w) v s)) (drop (1 + w + v) s)
                (rw length-drop (omega arith)),
            first,
            second,
          )

      pub pair_allowed : allowed n ≡ true → some (make h n) ≡ by_handle_and_number w v allowed make (drop 1 s)
      pair_allowed t = sym (pair_got ∙ pick_true _ _ _ t)

      pub pair_refused : allowed n ≡ false → none ≡ by_handle_and_number w v allowed make (drop 1 s)
      pair_refused t = sym (pair_got ∙ pick-false _ _ _ t)

  -- a handle and data
  module _ (make : ℕ → List ℕ → Call) where
    pub data_short : length s < 1 + w → none ≡ by_handle_and_bytes w make (drop 1 s)
    unfolding by_handle_and_bytes bind
    data_short l = sym (rw (num-short w 1 s (omega arith) l))

    pub data_long : 1 + w ≤ length s → DATA_BYTES < length s - (1 + w) → none ≡ by_handle_and_bytes w make (drop 1 s)
    unfolding by_handle_and_bytes bind
    data_long l m = sym (rw (num_got w 1 s l)
        (pick-false _ _ _ (lt-leb (length (drop (1 + w) s)) DATA_BYTES (rw length-drop m))))

    pub data_got : (h : ℕ) → h ≡ decode (part 1 w s) → 1 + w ≤ length s → length s - (1 + w) ≤ DATA_BYTES
        → some (make h (drop (1 + w) s)) ≡ by_handle_and_bytes w make (drop 1 s)
    unfolding by_handle_and_bytes bind
    data_got h e l m =
        ap (λ x. some (make x (drop (1 + w) s))) e
        ∙ sym (rw (num_got w 1 s l) (pick_true _ _ _ (le-leb (length (drop (1 + w) s)) DATA_BYTES (rw length-drop m))))

-- a number alone
module _ (v : ℕ) (allowed : ℕ → Bool) (make : ℕ → Call) (s : List ℕ) (there : 0 < length s) where
  pub alone-wrong : Bytes s → (length s ≡ 1 + v → ⊥) → none ≡ by_number v allowed make (drop 1 s)
  unfolding by_number bind
  alone-wrong b wrong = sym (rw (whole_none (num v) v (length-encode v) s b there wrong))

  module _ (n : ℕ) (e : n ≡ decode (part 1 v s)) (l : length s ≡ 1 + v) where
    alone_got : by_number v allowed make (drop 1 s) ≡ pick (allowed n) (some (make n)) none
    unfolding by_number whole bind
    alone_got =
        rw (
          num_got v 1 s (omega arith),
          ended_all (num v) (decode (part 1 v s)) (drop (1 + v) s) (rw length-drop (omega arith)),
          e,
        )

    pub alone_allowed : allowed n ≡ true → some (make n) ≡ by_number v allowed make (drop 1 s)
    alone_allowed t = sym (alone_got ∙ pick_true _ _ _ t)

    pub alone_refused : allowed n ≡ false → none ≡ by_number v allowed make (drop 1 s)
    alone_refused t = sym (alone_got ∙ pick-false _ _ _ t)

-- a number and a path
module _ (least most : ℕ) (make : ℕ → Path → Call) (s : List ℕ) where
  pub number_missing : length s ≡ 1 → none ≡ by_number_and_path least most make (drop 1 s)
  unfolding by_number_and_path
  number_missing l = sym (rw (drop_of_length-le s {i = 1} (omega arith)))

  module _ (there : 1 < length s) where
    number_got : by_number_and_path least most make (drop 1 s) ≡ pick (leb least (get_or s 1 0) && leb (get_or s 1 0) most)
        (by_path (make (get_or s 1 0)) (drop 2 s)) none
    unfolding by_number_and_path
    number_got = rw (drop-cons s 1 0 there)

    pub number-low : get_or s 1 0 < least → none ≡ by_number_and_path least most make (drop 1 s)
    number-low l = sym (number_got ∙ pick-false _ _ _ (rw (lt-leb least (get_or s 1 0) l)))

    pub number-high : least ≤ get_or s 1 0 → most < get_or s 1 0 → none ≡ by_number_and_path least most make (drop 1 s)
    number-high l h = sym (number_got ∙ pick-false _ _ _ (rw (le-leb least (get_or s 1 0) l, lt-leb (get_or s 1 0) most h)))

    pub number_within : least ≤ get_or s 1 0 → get_or s 1 0 ≤ most → by_path (make (get_or s 1 0)) (drop 2 s) ≡ by_number_and_path
        least most make (drop 1 s)
    number_within l h = sym (number_got
        ∙ pick_true _ _ _ (and_both _ _ (le-leb least (get_or s 1 0) l) (le-leb (get_or s 1 0) most h)))

-- two paths
module _ (make : Path → Path → Call) (s : List ℕ) where
  pub two_missing : length s ≡ 1 → none ≡ by_two_paths make (drop 1 s)
  unfolding by_two_paths
  two_missing l = sym (rw (drop_of_length-le s {i = 1} (omega arith)))

  module _ (there : 1 < length s) where
    abbrev first : ℕ
    first = get_or s 1 0

    two_got : by_two_paths make (drop 1 s) ≡ pick (leb first (length (drop 2 s)))
        (bind (read_path (take first (drop 2 s))) (λ p. by_path (make p) (drop (2 + first) s))) none
    unfolding by_two_paths
    two_got = rw (drop-cons s 1 0 there, drop-drop first 2 s)

    pub two-short : length s < 2 + first → none ≡ by_two_paths make (drop 1 s)
    two-short l = sym (two_got ∙ pick-false _ _ _ (lt-leb first (length (drop 2 s)) (rw length-drop (omega arith))))

    pub two_within : (second : ℕ) → second ≡ 2 + first → second ≤ length s
        → bind (read_path (take (second - 2) (drop 2 s))) (λ p. by_path (make p) (drop second s))
        ≡ by_two_paths make (drop 1 s)
    two_within second e l =
        let n : second - 2 ≡ first = omega arith in
        sym (rw (n, e) (two_got
        ∙ pick_true _ _ _ (le-leb first (length (drop 2 s)) (rw length-drop (omega arith)))))

-- by the kind
module _ (w : ℕ) where
  pub kind_missing : (s : List ℕ) → length s ≡ 0 → none ≡ read_call w s
  unfolding read_call
  kind_missing [] h = refl
  kind_missing (k ∷ s) h = absurd (omega arith)

  pub kind_read : (s : List ℕ) → 0 < length s → read_fields w (get_or s 0 0) (drop 1 s) ≡ read_call w s
  unfolding read_call
  kind_read [] h = absurd (omega arith)
  kind_read (k ∷ s) h = refl

  pub of_kind : (k kind : ℕ) (t : List ℕ) (c : Option Call) → kind ≡ k → c ≡ read_fields w k t → c ≡ read_fields w kind t
  of_kind k kind t c e q = q ∙ ap (λ (j : ℕ). read_fields w j t) (sym e)

  pub kind_none : (kind : ℕ) (t : List ℕ) → (1 ≤ kind → 16 < kind) → none ≡ read_fields w kind t
  unfolding read_fields pick
  kind_none kind t past =
      let other : (k : ℕ) → 1 ≤ k → k ≤ 16 → eqb kind k ≡ false = λ k a b. ne_eqb kind k
      (λ e. omega (arith, past (omega arith))) in
      sym (simp (
        other 1 (omega arith) (omega arith),
        other 2 (omega arith) (omega arith),
        other 3 (omega arith) (omega arith),
        other 4 (omega arith) (omega arith),
        other 5 (omega arith) (omega arith),
        other 6 (omega arith) (omega arith),
        other 7 (omega arith) (omega arith),
        other 8 (omega arith) (omega arith),
        other 9 (omega arith) (omega arith),
        other 10 (omega arith) (omega arith),
        other 11 (omega arith) (omega arith),
        other 12 (omega arith) (omega arith),
        other 13 (omega arith) (omega arith),
        other 14 (omega arith) (omega arith),
        other 15 (omega arith) (omega arith),
        other 16 (omega arith) (omega arith),
      ))
