-- Events: the sixteen calls, replies, loads of images of the current version.
use Rattle.std.specs.Prelude.{List, ◌∷◌, ◌++◌, ℕ, ◌-◌, ◌^◌, length}
use Prim.Native.String.{String}
use Rattle.filesystem.specs.Image.{current}
use Rattle.rules.specs.Skeleton.{Event, call, reply, save, load as load_of}
use Rattle.rule_examples.specs.Bytes.{bytes_of, four, eight, padded, digest}

-- Events, with buffers just long enough.
abbrev pub call_of : List ℕ → Event
call_of s = call s 9690 1037

abbrev pub replies : List ℕ → Event
replies s = reply s 9690 1037

-- the same event with other lengths of the answer and the request buffer
unfoldable pub lent : (answer request : ℕ) → Event → Event
lent a q (call s _ _) = call s a q
lent a q (reply s _ _) = reply s a q
lent a q (save n) = save n
lent a q (load_of v i d) = load_of v i d

-- one byte for the kind, then the fields (SPECIFICATION 4.1)
abbrev pub create : (mode : ℕ) → String → Event
create m p = call_of (1 ∷ m ∷ bytes_of p)

abbrev pub mkdir : (mode : ℕ) → String → Event
mkdir m p = call_of (2 ∷ m ∷ bytes_of p)

abbrev pub open_for : (rights : ℕ) → String → Event
open_for r p = call_of (3 ∷ r ∷ bytes_of p)

abbrev pub close : (handle : ℕ) → Event
close h = call_of (4 ∷ four h)

abbrev pub seek : (handle position : ℕ) → Event
seek h n = call_of (5 ∷ (four h ++ eight n))

abbrev pub read : (handle count : ℕ) → Event
read h n = call_of (6 ∷ (four h ++ four n))

abbrev pub write : (handle : ℕ) → List ℕ → Event
write h b = call_of (7 ∷ (four h ++ b))

abbrev pub truncate : (handle size : ℕ) → Event
truncate h n = call_of (8 ∷ (four h ++ eight n))

abbrev pub remove : String → Event
remove p = call_of (9 ∷ bytes_of p)

abbrev pub rmdir : String → Event
rmdir p = call_of (10 ∷ bytes_of p)

abbrev pub chmod : (mode : ℕ) → String → Event
chmod m p = call_of (11 ∷ m ∷ bytes_of p)

abbrev pub readdir : String → Event
readdir p = call_of (12 ∷ bytes_of p)

abbrev pub stat : String → Event
stat p = call_of (13 ∷ bytes_of p)

abbrev pub map_of : (size : ℕ) → Event
map_of n = call_of (14 ∷ four n)

abbrev pub unmap : (address : ℕ) → Event
unmap a = call_of (15 ∷ eight a)

-- the first path's length in one byte, that path, the second
abbrev pub rename : (first second : String) → Event
rename p q = call_of (16 ∷ length (bytes_of p) ∷ (bytes_of p ++ bytes_of q))

-- replies: a map at an address with these bytes; a status; the status -n; an id or a descriptor; a page that begins so; a listing; a stat
abbrev pub hands : (address : ℕ) → List ℕ → Event
hands a b = replies (eight a ++ b)

abbrev pub says : ℕ → Event
says n = replies (four n)

abbrev pub says_minus : ℕ → Event
says_minus n = says (2 ^ 32 - n)

abbrev pub gives : ℕ → Event
gives n = replies (four n)

abbrev pub gives_page : List ℕ → Event
gives_page b = replies (padded b)

abbrev pub entry : (id kind : ℕ) → String → List ℕ
entry i k n = four i ++ (k ∷ length (bytes_of n) ∷ bytes_of n)

abbrev pub stat_of : (id kind mode size : ℕ) → List ℕ
stat_of i k m s = four i ++ (k ∷ m ∷ four s)

abbrev pub load : (image digest : List ℕ) → Event
load i d = load_of current i d

abbrev pub loads : List ℕ → Event
loads image = load image (digest image)
