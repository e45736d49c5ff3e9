-- A call that was read from bytes is those bytes, and its fields are in their ranges; and a call in range is read back from its bytes.
-- Assumes nothing.
use Rattle.std.specs.Prelude.{◌≡◌, Bool, true, ◌&&◌, ℕ, ◌^◌, ◌≤◌, ◌<◌, eqb, take, drop}
use Rattle.std.proofs.Math.Path.{refl, ap, sym, subst}
use Rattle.std.proofs.Common.{◌∙◌, take-append-drop, length-take-le}
use mathlib.Core.List.{List, [], ◌∷◌, ◌++◌}
use Rattle.std.proofs.Math.Option.{Option, some}
use native.Mathlib.Omega.{arith}
use Rattle.std.proofs.Math.Dec.{leb}
use Rattle.std.proofs.Math.ListN.{length, length-append}
use Rattle.std.proofs.Math.Seq.{take_at, drop_at}
use borrow.Author.Tests.{eqb-true, leb-true, le-leb}
use Rattle.lists.specs.Pick.{pick, pick_ind, pick_true}
use Rattle.lists.specs.Equal.{and_fst, and_snd, and_both}
use Rattle.lists.specs.All.{All, both, none as all_none, Bytes, all_tail, all_left, all_right, all_take, all_drop}
use Rattle.lists.specs.Search.{every}
use Rattle.lists.specs.LittleEndian.{encode}
use Rattle.lists.specs.Form.{bind}
use Rattle.lists.specs.FormLaws.{bind-some, pick_some, some≢none, whole_read_back, whole-was-written}
use Rattle.lists.specs.Formats.{num, then}
use Rattle.filesystem.specs.Tables.{DATA_BYTES}
use Rattle.filesystem.specs.Paths.{Path, joined, path_bytes, component_form}
use Rattle.filesystem.specs.PathLaws.{read_path-path_bytes, read_path-was-bytes}
use Rattle.rules.specs.Calls.{Call, create, mkdir, open_as, close, seek, read, write, truncate, remove, rmdir, chmod, readdir, stat, map_memory, unmap, call_bytes, by_path, by_number_and_path, by_handle, by_handle_and_number, by_handle_and_bytes, by_number, read_fields, read_call}
use Rattle.rules.specs.Calls.{rename, by_two_paths}
use Rattle.rules.specs.MapRules.{is_map_size}

pub record PathFits (p : Path) : Type 0 where
  pub form : every component_form p ≡ true
  pub bytes : All Bytes p

-- the ranges of a call's fields
abbrev pub CallFits : ℕ → Call → Type 0
CallFits w (create m p) = (m ≤ 7) × PathFits p
CallFits w (mkdir m p) = (m ≤ 7) × PathFits p
CallFits w (open_as r p) = ((1 ≤ r) × (r ≤ 3)) × PathFits p
CallFits w (close h) = h < 256 ^ w
CallFits w (seek h n) = (h < 256 ^ w) × (n < 256 ^ 8)
CallFits w (read h n) = (h < 256 ^ w) × (n ≤ DATA_BYTES)
CallFits w (write h d) = (h < 256 ^ w) × ((length d ≤ DATA_BYTES) × Bytes d)
CallFits w (truncate h n) = (h < 256 ^ w) × (n < 256 ^ 8)
CallFits w (remove p) = PathFits p
CallFits w (rmdir p) = PathFits p
CallFits w (chmod m p) = (m ≤ 7) × PathFits p
CallFits w (readdir p) = PathFits p
CallFits w (stat p) = PathFits p
CallFits w (map_memory n) = is_map_size n ≡ true
CallFits w (unmap a) = a < 256 ^ 8
CallFits w (rename p q) = (length (path_bytes p) < 256) × (PathFits p × PathFits q)

joined_bytes : (p : Path) → Bytes (joined p) → All Bytes p
unfolding joined
joined_bytes [] b = all_none
joined_bytes (c ∷ cs) (both h b) = both (all_left c (joined cs) b) (joined_bytes cs (all_right c (joined cs) b))

path_bytes_lem : (p : Path) → Bytes (path_bytes p) → All Bytes p
unfolding path_bytes
path_bytes_lem [] b = all_none
path_bytes_lem (c ∷ cs) b = joined_bytes (c ∷ cs) b

module _ (w : ℕ) where
  -- what reading says of the bytes and of the call
  abbrev Written : List ℕ → Call → Type 0
  Written s c = (s ≡ call_bytes w c) × CallFits w c

  path_written : (make : Path → Call) (s : List ℕ) (c : Call) → Bytes s → by_path make s ≡ some c → (p : Path) × (make p ≡ c) × (s ≡ path_bytes p) × PathFits p
  unfolding by_path
  path_written make s c b e =
      let (p, ep, e₂) = bind-some _ _ _ e in
      let (q, f) = read_path-was-bytes s p ep in
      let z : make p ≡ c = cc in
      (p, z, q, record { form = f; bytes = path_bytes_lem p (subst Bytes q b) })

  number_path_written : (a m : ℕ) (make : ℕ → Path → Call) (s : List ℕ) (c : Call) → Bytes s → by_number_and_path a m make s ≡ some c
      → (n : ℕ) × (p : Path) × (make n p ≡ c) × (s ≡ n ∷ path_bytes p) × ((a ≤ n) × (n ≤ m)) × PathFits p
  unfolding by_number_and_path
  number_path_written a m make [] c b e = absurd (some≢none c (sym e))
  number_path_written a m make (n ∷ s) c (both h b) e =
      pick_ind (λ o. o ≡ some c → (n' : ℕ) × (p : Path) × (make n' p ≡ c) × (n ∷ s ≡ n' ∷ path_bytes p) × ((a ≤ n') × (n' ≤ m)) × PathFits p) (leb a n && leb n m)
      (λ t e₂. let (p, z, q, f) = path_written (make n) s c b e₂ in (n, p, z, ap (λ l. n ∷ l) q, (leb-true a n (and_fst _ _ t), leb-true n m (and_snd (leb a n) _ t)), f))
      (λ t e₂. absurd (some≢none c (sym e₂))) e

  two_paths_written : (make : Path → Path → Call) (s : List ℕ) (c : Call) → Bytes s → by_two_paths make s ≡ some c
      → (p : Path) × (q : Path) × (make p q ≡ c) × (s ≡ length (path_bytes p) ∷ (path_bytes p ++ path_bytes q))
      × (length (path_bytes p) < 256) × (PathFits p × PathFits q)
  unfolding by_two_paths
  two_paths_written make [] c b e = absurd (some≢none c (sym e))
  two_paths_written make (n ∷ s) c (both h b) e =
      pick_ind (λ o. o ≡ some c → (p : Path) × (q : Path) × (make p q ≡ c)
      × (n ∷ s ≡ length (path_bytes p) ∷ (path_bytes p ++ path_bytes q)) × (length (path_bytes p) < 256)
      × (PathFits p × PathFits q))
      (leb n (length s))
      (λ t e₂.
      let (p, ep, e₃) = bind-some _ _ _ e₂ in
      let (x, f) = read_path-was-bytes (take n s) p ep in
      let (q, z, y, g) = path_written (make p) (drop n s) c (all_drop n b) e₃ in
      let l : n ≡ length (path_bytes p) = sym (length-take-le n s (leb-true _ _ t)) ∙ ap length x in (
        p,
        q,
        z,
        (λ i. l i ∷ (sym (take-append-drop n s) ∙ (λ j. x j ++ y j)) i),
        subst (λ m. m < 256) l h,
        (record { form = f; bytes = path_bytes_lem p (subst Bytes x (all_take n b)) }, g),
      ))
      (λ t e₂. absurd (some≢none c (sym e₂))) e

  handle_written : (make : ℕ → Call) (s : List ℕ) (c : Call) → Bytes s → by_handle w make s ≡ some c → (h : ℕ) × (make h ≡ c) × (s ≡ encode w h) × (h < 256 ^ w)
  unfolding by_handle
  handle_written make s c b e =
      let (h, eh, e₂) = bind-some _ _ _ e in
      let (o, q) = whole-was-written (num w) s h b eh in
      (h, cc, q, o)

  handle_number_written : (v : ℕ) (f : ℕ → Bool) (make : ℕ → ℕ → Call) (s : List ℕ) (c : Call) → Bytes s → by_handle_and_number w v f make s ≡ some c
      → (h : ℕ) × (n : ℕ) × (make h n ≡ c) × (s ≡ encode w h ++ encode v n) × (h < 256 ^ w) × (n < 256 ^ v) × (f n ≡ true)
  unfolding by_handle_and_number
  handle_number_written v f make s c b e =
      let (p, ep, e₂) = bind-some _ _ _ e in
      let (o, q) = whole-was-written (then (num w) (λ _. num v)) s p b ep in
      let (t, z) = pick_some (f p.1) (make p.0 p.1) c e₂ in
      (p.0, p.1, z, q, o.0, o.1, t)

  handle_bytes_written : (make : ℕ → List ℕ → Call) (s : List ℕ) (c : Call) → Bytes s → by_handle_and_bytes w make s ≡ some c
      → (h : ℕ) × (d : List ℕ) × (make h d ≡ c) × (s ≡ encode w h ++ d) × (h < 256 ^ w) × (length d ≤ DATA_BYTES) × Bytes d
  unfolding by_handle_and_bytes
  handle_bytes_written make s c b e =
      let (p, ep, e₂) = bind-some _ _ _ e in
      let (o, q, r) = (num w).was-written s p.0 p.1 b ep in
      let (t, z) = pick_some (leb (length p.1) DATA_BYTES) (make p.0 p.1) c e₂ in
      (p.0, p.1, z, q, o, leb-true _ _ t, r)

  number-written : (v : ℕ) (f : ℕ → Bool) (make : ℕ → Call) (s : List ℕ) (c : Call) → Bytes s → by_number v f make s ≡ some c
      → (n : ℕ) × (make n ≡ c) × (s ≡ encode v n) × (n < 256 ^ v) × (f n ≡ true)
  unfolding by_number
  number-written v f make s c b e =
      let (n, en, e₂) = bind-some _ _ _ e in
      let (o, q) = whole-was-written (num v) s n b en in
      let (t, z) = pick_some (f n) (make n) c e₂ in
      (n, z, q, o, t)

  -- one arm of the list of kinds, and the arms after it
  arm : (kind k : ℕ) (s : List ℕ) (c : Call) (x y : Option Call) → (x ≡ some c → Written (k ∷ s) c) → (y ≡ some c → Written (kind ∷ s) c)
      → pick (eqb kind k) x y ≡ some c → Written (kind ∷ s) c
  arm kind k s c x y f g =
      pick_ind (λ o. o ≡ some c → Written (kind ∷ s) c) (eqb kind k) (λ t e. subst (λ n. Written (n ∷ s) c) (sym (eqb-true kind k t)) (f e)) (λ t e. g e)

  with_path : (k : ℕ) (make : Path → Call) (s : List ℕ) (c : Call) → Bytes s → ((p : Path) → call_bytes w (make p) ≡ k ∷ path_bytes p)
      → ((p : Path) → PathFits p → CallFits w (make p))
      → by_path make s ≡ some c → Written (k ∷ s) c
  with_path k make s c b is ok e =
      let (p, z, q, f) = path_written make s c b e in
      subst (λ c. Written (k ∷ s) c) z (ap (λ l. k ∷ l) q ∙ sym (is p), ok p f)

  with_number_path : (k a m : ℕ) (make : ℕ → Path → Call) (s : List ℕ) (c : Call) → Bytes s
      → ((n : ℕ) (p : Path) → call_bytes w (make n p) ≡ k ∷ n ∷ path_bytes p)
      → ((n : ℕ) (p : Path) → (a ≤ n) × (n ≤ m) → PathFits p → CallFits w (make n p)) → by_number_and_path a m make s ≡ some c → Written (k ∷ s) c
  with_number_path k a m make s c b is ok e =
      let (n, p, z, q, h, f) = number_path_written a m make s c b e in
      subst (λ c. Written (k ∷ s) c) z (ap (λ l. k ∷ l) q ∙ sym (is n p), ok n p h f)

  with_handle_number : (k v : ℕ) (f : ℕ → Bool) (make : ℕ → ℕ → Call) (s : List ℕ) (c : Call) → Bytes s
      → ((h n : ℕ) → call_bytes w (make h n) ≡ k ∷ (encode w h ++ encode v n))
      → ((h n : ℕ) → h < 256 ^ w → n < 256 ^ v → f n ≡ true → CallFits w (make h n)) → by_handle_and_number w v f make s ≡ some c → Written (k ∷ s) c
  with_handle_number k v f make s c b is ok e =
      let (h, n, z, q, x, y, t) = handle_number_written v f make s c b e in
      subst (λ c. Written (k ∷ s) c) z (ap (λ l. k ∷ l) q ∙ sym (is h n), ok h n x y t)

  fields_written : (kind : ℕ) (s : List ℕ) (c : Call) → Bytes s → read_fields w kind s ≡ some c → Written (kind ∷ s) c
  unfolding read_fields call_bytes
  fields_written kind s c b =
      arm kind 1 s c _ _ (with_number_path 1 0 7 create s c b (λ n p. refl) (λ n p h f. (h.1, f)))
      (arm kind 2 s c _ _ (with_number_path 2 0 7 mkdir s c b (λ n p. refl) (λ n p h f. (h.1, f)))
      (arm kind 3 s c _ _ (with_number_path 3 1 3 open_as s c b (λ n p. refl) (λ n p h f. (h, f)))
      (arm kind 4 s c _ _ (λ e. let (h, z, q, x) = handle_written close s c b e in subst (λ c. Written (4 ∷ s) c) z (ap (λ l. 4 ∷ l) q, x))
      (arm kind 5 s c _ _ (with_handle_number 5 8 (λ n. true) seek s c b (λ h n. refl) (λ h n x y t. (x, y)))
      (arm kind 6 s c _ _ (with_handle_number 6 4 (λ n. leb n DATA_BYTES) read s c b (λ h n. refl) (λ h n x y t. (x, leb-true _ _ t)))
      (arm kind 7 s c _ _ (λ e. let (h, d, z, q, x, y, r) = handle_bytes_written write s c b e in subst (λ c. Written (7 ∷ s) c) z (ap (λ l. 7 ∷ l) q, (x, (y, r))))
      (arm kind 8 s c _ _ (with_handle_number 8 8 (λ n. true) truncate s c b (λ h n. refl) (λ h n x y t. (x, y)))
      (arm kind 9 s c _ _ (with_path 9 remove s c b (λ p. refl) (λ p f. f))
      (arm kind 10 s c _ _ (with_path 10 rmdir s c b (λ p. refl) (λ p f. f))
      (arm kind 11 s c _ _ (with_number_path 11 0 7 chmod s c b (λ n p. refl) (λ n p h f. (h.1, f)))
      (arm kind 12 s c _ _ (with_path 12 readdir s c b (λ p. refl) (λ p f. f))
      (arm kind 13 s c _ _ (with_path 13 stat s c b (λ p. refl) (λ p f. f))
      (arm kind 14 s c _ _ (λ e. let (n, z, q, x, t) = number-written 4 is_map_size map_memory s c b e in subst (λ c. Written (14 ∷ s) c) z (ap (λ l. 14 ∷ l) q, t))
      (arm kind 15 s c _ _ (λ e. let (a, z, q, x, t) = number-written 8 (λ a. true) unmap s c b e in subst (λ c. Written (15 ∷ s) c) z (ap (λ l. 15 ∷ l) q, x))
      (arm kind 16 s c _ _ (λ e.
      let (p, q, z, y, l, f) = two_paths_written rename s c b e in
      subst (λ c. Written (16 ∷ s) c) z (ap (λ l. 16 ∷ l) y, (l, f)))
      (λ e. absurd (some≢none c (sym e))))))))))))))))))

  pub call-was-written : (s : List ℕ) (c : Call) → Bytes s → read_call w s ≡ some c → (s ≡ call_bytes w c) × CallFits w c
  unfolding read_call
  call-was-written [] c b e = absurd (some≢none c (sym e))
  call-was-written (k ∷ s) c b e = fields_written k s c (all_tail b) e

  -- The other way: a call in range is read back from its bytes.
  path_read : (make : Path → Call) (p : Path) → PathFits p → by_path make (path_bytes p) ≡ some (make p)
  unfolding by_path bind
  path_read make p f = rw (read_path-path_bytes p f.form)

  number_path_read : (a m : ℕ) (make : ℕ → Path → Call) (n : ℕ) (p : Path) → (a ≤ n) × (n ≤ m) → PathFits p
      → by_number_and_path a m make (n ∷ path_bytes p) ≡ some (make n p)
  unfolding by_number_and_path
  number_path_read a m make n p (l, h) f = pick_true _ _ _ (and_both _ _ (le-leb a n l) (le-leb n m h)) ∙ path_read (make n) p f

  two_paths_read : (make : Path → Path → Call) (p q : Path) → PathFits p → PathFits q
      → by_two_paths make (length (path_bytes p) ∷ (path_bytes p ++ path_bytes q)) ≡ some (make p q)
  unfolding by_two_paths bind
  two_paths_read make p q f g =
      let l = length-append (path_bytes p) (path_bytes q) in
      pick_true _ _ _ (le-leb (length (path_bytes p)) (length (path_bytes p ++ path_bytes q)) (omega arith))
      ∙ rw (
        take_at (path_bytes p) (path_bytes q) (length (path_bytes p)) refl,
        drop_at (path_bytes p) (path_bytes q)
            (length (path_bytes p)) refl,
        read_path-path_bytes p f.form,
      )
      (path_read (make p) q g)

  handle_read : (make : ℕ → Call) (h : ℕ) → h < 256 ^ w → by_handle w make (encode w h) ≡ some (make h)
  unfolding by_handle bind
  handle_read make h l = rw (whole_read_back (num w) h l)

  handle_number_read : (v : ℕ) (f : ℕ → Bool) (make : ℕ → ℕ → Call) (h n : ℕ) → h < 256 ^ w → n < 256 ^ v → f n ≡ true
      → by_handle_and_number w v f make (encode w h ++ encode v n) ≡ some (make h n)
  unfolding by_handle_and_number bind
  handle_number_read v f make h n x y t = rw (whole_read_back (then (num w) (λ _. num v)) (h, n) (x, y)) (pick_true _ _ _ t)

  handle_bytes_read : (make : ℕ → List ℕ → Call) (h : ℕ) (d : List ℕ) → h < 256 ^ w → length d ≤ DATA_BYTES
      → by_handle_and_bytes w make (encode w h ++ d) ≡ some (make h d)
  unfolding by_handle_and_bytes bind
  handle_bytes_read make h d x y = rw ((num w).read_back h d x) (pick_true _ _ _ (le-leb _ _ y))

  number_read : (v : ℕ) (f : ℕ → Bool) (make : ℕ → Call) (n : ℕ) → n < 256 ^ v → f n ≡ true → by_number v f make (encode v n) ≡ some (make n)
  unfolding by_number bind
  number_read v f make n x t = rw (whole_read_back (num v) n x) (pick_true _ _ _ t)

  map_size_fits : (n : ℕ) → is_map_size n ≡ true → n < 256 ^ 4
  unfolding is_map_size
  map_size_fits n e = let z : n ≤ 65536 = leb-true _ _ (and_fst _ _ (and_snd (leb 4096 n) _ e)) in omega arith

  pub call_read_back : (c : Call) → CallFits w c → read_call w (call_bytes w c) ≡ some c
  unfolding read_call read_fields call_bytes pick
  call_read_back (create m p) (h, f) = number_path_read 0 7 create m p (omega arith, h) f
  call_read_back (mkdir m p) (h, f) = number_path_read 0 7 mkdir m p (omega arith, h) f
  call_read_back (open_as r p) (h, f) = number_path_read 1 3 open_as r p h f
  call_read_back (close h) x = handle_read close h x
  call_read_back (seek h n) (x, y) = handle_number_read 8 (λ n. true) seek h n x y refl
  call_read_back (read h n) (x, y) = handle_number_read 4 (λ n. leb n DATA_BYTES) read h n x (omega arith) (le-leb _ _ y)
  call_read_back (write h d) (x, (y, b)) = handle_bytes_read write h d x y
  call_read_back (truncate h n) (x, y) = handle_number_read 8 (λ n. true) truncate h n x y refl
  call_read_back (remove p) f = path_read remove p f
  call_read_back (rmdir p) f = path_read rmdir p f
  call_read_back (chmod m p) (h, f) = number_path_read 0 7 chmod m p (omega arith, h) f
  call_read_back (readdir p) f = path_read readdir p f
  call_read_back (stat p) f = path_read stat p f
  call_read_back (map_memory n) f = number_read 4 is_map_size map_memory n (map_size_fits n f) f
  call_read_back (unmap a) f = number_read 8 (λ a. true) unmap a f refl
  call_read_back (rename p q) (l, (f, g)) = two_paths_read rename p q f g
