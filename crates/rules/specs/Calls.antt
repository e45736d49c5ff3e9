-- The sixteen calls (SPECIFICATION 4.1, 4.2): their bytes, and how they are read from any bytes.
-- Assumes nothing.
use Rattle.std.specs.Prelude.{Bool, ◌&&◌, List, [], ◌∷◌, ◌++◌, ℕ, eqb, leb, length, take, drop}
use Rattle.std.proofs.Math.Option.{Option, some, none}
use Rattle.lists.specs.Pick.{pick}
use Rattle.lists.specs.LittleEndian.{encode}
use Rattle.lists.specs.Form.{bind, whole}
use Rattle.lists.specs.Formats.{num, then}
use Rattle.filesystem.specs.Tables.{DATA_BYTES}
use Rattle.filesystem.specs.Paths.{Path, path_bytes, read_path}
use Rattle.rules.specs.MapRules.{is_map_size}

-- `open_as` is the call open
pub data Call : Type 0 where
  create mkdir : (mode : ℕ) (path : Path) → Call
  open_as : (rights : ℕ) (path : Path) → Call
  close : (handle : ℕ) → Call
  seek : (handle position : ℕ) → Call
  read : (handle count : ℕ) → Call
  write : (handle : ℕ) (bytes : List ℕ) → Call
  truncate : (handle size : ℕ) → Call
  remove rmdir : (path : Path) → Call
  chmod : (mode : ℕ) (path : Path) → Call
  readdir stat : (path : Path) → Call
  map_memory : (size : ℕ) → Call
  unmap : (address : ℕ) → Call
  rename : (first second : Path) → Call

-- one byte for the kind, then exactly the fields; ids and handles have w bytes
unfoldable pub call_bytes : ℕ → Call → List ℕ
call_bytes w (create m p) = 1 ∷ m ∷ path_bytes p
call_bytes w (mkdir m p) = 2 ∷ m ∷ path_bytes p
call_bytes w (open_as r p) = 3 ∷ r ∷ path_bytes p
call_bytes w (close h) = 4 ∷ encode w h
call_bytes w (seek h n) = 5 ∷ (encode w h ++ encode 8 n)
call_bytes w (read h n) = 6 ∷ (encode w h ++ encode 4 n)
call_bytes w (write h d) = 7 ∷ (encode w h ++ d)
call_bytes w (truncate h n) = 8 ∷ (encode w h ++ encode 8 n)
call_bytes w (remove p) = 9 ∷ path_bytes p
call_bytes w (rmdir p) = 10 ∷ path_bytes p
call_bytes w (chmod m p) = 11 ∷ m ∷ path_bytes p
call_bytes w (readdir p) = 12 ∷ path_bytes p
call_bytes w (stat p) = 13 ∷ path_bytes p
call_bytes w (map_memory n) = 14 ∷ encode 4 n
call_bytes w (unmap a) = 15 ∷ encode 8 a
call_bytes w (rename p q) = 16 ∷ length (path_bytes p) ∷ (path_bytes p ++ path_bytes q)

-- the fields after the kind byte, by their shapes; nothing where the bytes are not exactly of the shape (22)
unfoldable pub by_path : (Path → Call) → List ℕ → Option Call
by_path make s = bind (read_path s) (λ p. some (make p))

unfoldable pub by_number_and_path : (least most : ℕ) → (ℕ → Path → Call) → List ℕ → Option Call
by_number_and_path least most make [] = none
by_number_and_path least most make (n ∷ s) = pick (leb least n && leb n most) (by_path (make n) s) none

unfoldable pub by_handle : ℕ → (ℕ → Call) → List ℕ → Option Call
by_handle w make s = bind (whole (num w) s) (λ h. some (make h))

unfoldable pub by_handle_and_number : (w v : ℕ) → (ℕ → Bool) → (ℕ → ℕ → Call) → List ℕ → Option Call
by_handle_and_number w v allowed make s = bind (whole (then (num w) (λ _. num v)) s) (λ p. pick (allowed p.1) (some (make p.0 p.1)) none)

unfoldable pub by_handle_and_bytes : ℕ → (ℕ → List ℕ → Call) → List ℕ → Option Call
by_handle_and_bytes w make s = bind ((num w).get s) (λ p. pick (leb (length p.1) DATA_BYTES) (some (make p.0 p.1)) none)

unfoldable pub by_number : (v : ℕ) → (ℕ → Bool) → (ℕ → Call) → List ℕ → Option Call
by_number v allowed make s = bind (whole (num v) s) (λ n. pick (allowed n) (some (make n)) none)

-- the length of the first path (1), and both
unfoldable pub by_two_paths : (Path → Path → Call) → List ℕ → Option Call
by_two_paths make [] = none
by_two_paths make (n ∷ s) = pick (leb n (length s)) (bind (read_path (take n s)) (λ p. by_path (make p) (drop n s))) none

unfoldable pub read_fields : ℕ → (kind : ℕ) → List ℕ → Option Call
read_fields w kind s =
    pick (eqb kind 1) (by_number_and_path 0 7 create s)
    (pick (eqb kind 2) (by_number_and_path 0 7 mkdir s)
    (pick (eqb kind 3) (by_number_and_path 1 3 open_as s)
    (pick (eqb kind 4) (by_handle w close s)
    (pick (eqb kind 5) (by_handle_and_number w 8 (λ n. Bool.true) seek s)
    (pick (eqb kind 6) (by_handle_and_number w 4 (λ n. leb n DATA_BYTES) read s)
    (pick (eqb kind 7) (by_handle_and_bytes w write s)
    (pick (eqb kind 8) (by_handle_and_number w 8 (λ n. Bool.true) truncate s)
    (pick (eqb kind 9) (by_path remove s)
    (pick (eqb kind 10) (by_path rmdir s)
    (pick (eqb kind 11) (by_number_and_path 0 7 chmod s)
    (pick (eqb kind 12) (by_path readdir s)
    (pick (eqb kind 13) (by_path stat s)
    (pick (eqb kind 14) (by_number 4 is_map_size map_memory s)
    (pick (eqb kind 15) (by_number 8 (λ a. Bool.true) unmap s)
    (pick (eqb kind 16) (by_two_paths rename s)
    none)))))))))))))))

unfoldable pub read_call : ℕ → List ℕ → Option Call
read_call w [] = none
read_call w (kind ∷ s) = read_fields w kind s
