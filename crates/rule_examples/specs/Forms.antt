-- The form of calls and of paths (22), and what is too long (36).
use Rattle.std.specs.Prelude.{◌≡◌, refl, List, [], ◌∷◌, ◌++◌}
use Prim.Native.String.{String}
use Rattle.rule_examples.specs.Bytes.{bytes_of, four, eight, many, nothing, times, under, high, slashed}
use Rattle.rule_examples.specs.Given.{folder, file, root, opened, Given, given}
use Rattle.rule_examples.specs.Events.{call_of, create, mkdir, open_for, read, write, remove, rmdir, chmod, readdir, stat}
use Rattle.rule_examples.specs.Rows.{is_refused, fetches, Row, one, passes}
use Rattle.rule_examples.specs.Evaluation.{wrong}

abbrev fresh : Given
fresh = given (root ∷ []) []

-- `/a`, open for reading and writing, the cursor at 1
abbrev open_a : Given
open_a = given (root ∷ file 2 1 7 "a" (1 ∷ 2 ∷ 3 ∷ []) ∷ []) (opened 2 5 3 1 ∷ [])

-- `/f` is a file, `/x` a folder without bit 1, `/r` one without bit 2
abbrev barred : Given
barred = given (root ∷ file 2 1 7 "f" nothing ∷ folder 3 1 6 "x" ∷ folder 4 1 5 "r" ∷ []) []

-- 255 bytes of path, and 256: no component is over 32
abbrev long : String
long = under (times 7 (under "" 31)) 30

abbrev too_long : String
too_long = under (times 7 (under "" 31)) 31

abbrev pub rows : List Row
rows =
    -- one byte for the kind, then exactly the fields (SPECIFICATION 4.1, 4.2)
    one "no byte" fresh (call_of []) (is_refused 22)
    ∷ one "kind 0" fresh (call_of (0 ∷ bytes_of "/a")) (is_refused 22)
    ∷ one "kind 14" fresh (call_of (14 ∷ bytes_of "/")) (is_refused 22)
    ∷ one "kind 17" fresh (call_of (17 ∷ 1 ∷ bytes_of "//a")) (is_refused 22)
    ∷ one "kind 141: over 127, 13 below" fresh (call_of (141 ∷ bytes_of "/")) (is_refused 22)
    ∷ one "kind 255" fresh (call_of (255 ∷ bytes_of "/")) (is_refused 22)
    -- create, mkdir, chmod: mode 0 to 7, path
    ∷ passes "create, mode 7" fresh (create 7 "/a")
    ∷ passes "create, mode 0" fresh (create 0 "/a")
    ∷ one "create, mode 8" fresh (create 8 "/a") (is_refused 22)
    ∷ one "mkdir, mode 8" fresh (mkdir 8 "/a") (is_refused 22)
    ∷ passes "mkdir, mode 7" fresh (mkdir 7 "/a")
    ∷ one "chmod, mode 8" fresh (chmod 8 "/") (is_refused 22)
    ∷ passes "chmod, mode 7" fresh (chmod 7 "/")
    ∷ passes "mkdir, mode 0" fresh (mkdir 0 "/a")
    ∷ passes "chmod, mode 0" fresh (chmod 0 "/")
    ∷ one "create, mode 255" fresh (create 255 "/a") (is_refused 22)
    ∷ one "mkdir, mode 15" fresh (mkdir 15 "/a") (is_refused 22)
    ∷ one "chmod, mode 135" fresh (chmod 135 "/") (is_refused 22)
    ∷ one "create, no mode" fresh (call_of (1 ∷ [])) (is_refused 22)
    ∷ one "create, no path" fresh (create 7 "") (is_refused 22)
    -- open: rights 1 to 3, path
    ∷ one "open, rights 0" fresh (open_for 0 "/a") (is_refused 22)
    ∷ one "open, rights 4" fresh (open_for 4 "/a") (is_refused 22)
    ∷ one "open, rights 129" fresh (open_for 129 "/a") (is_refused 22)
    ∷ one "open, rights 255" fresh (open_for 255 "/a") (is_refused 22)
    ∷ one "open, rights 3" fresh (open_for 3 "/a") (is_refused 2)
    ∷ one "open, rights 1" fresh (open_for 1 "/a") (is_refused 2)
    -- close: handle (4)
    ∷ one "close, 3 bytes" open_a (call_of (4 ∷ 2 ∷ 0 ∷ 0 ∷ [])) (is_refused 22)
    ∷ one "close, 5 bytes" open_a (call_of (4 ∷ (four 2 ++ (0 ∷ [])))) (is_refused 22)
    -- seek: handle (4), position (8)
    ∷ one "seek, position of 4 bytes" open_a (call_of (5 ∷ (four 2 ++ four 1))) (is_refused 22)
    ∷ one "seek, a byte behind" open_a (call_of (5 ∷ (four 2 ++ (eight 1 ++ (0 ∷ []))))) (is_refused 22)
    -- read: handle (4), count (4) of at most 4,096; before 9 too
    ∷ one "read, count of 3 bytes" open_a (call_of (6 ∷ (four 2 ++ (1 ∷ 0 ∷ 0 ∷ [])))) (is_refused 22)
    ∷ one "read, a byte behind" open_a (call_of (6 ∷ (four 2 ++ (four 1 ++ (0 ∷ []))))) (is_refused 22)
    ∷ one "read 4,096" open_a (read 2 4096) (fetches 5 0)
    ∷ one "read 4,097" open_a (read 2 4097) (is_refused 22)
    ∷ one "read 4,097, not open" open_a (read 9 4097) (is_refused 22)
    ∷ one "read 65,537" open_a (read 2 65537) (is_refused 22)
    ∷ one "read 2^24 + 1" open_a (read 2 16777217) (is_refused 22)
    ∷ one "read 2^32 - 1" open_a (read 2 4294967295) (is_refused 22)
    -- write: handle (4), 0 to 4,096 bytes
    ∷ one "write, no handle" open_a (call_of (7 ∷ 2 ∷ 0 ∷ 0 ∷ [])) (is_refused 22)
    ∷ one "write 4,096 bytes" open_a (write 2 (many 4096 0)) (fetches 5 0)
    ∷ one "write 4,097 bytes" open_a (write 2 (many 4097 0)) (is_refused 22)
    ∷ one "write 4,097 bytes, not open" open_a (write 9 (many 4097 0)) (is_refused 22)
    -- truncate: handle (4), size (8)
    ∷ one "truncate, size of 4 bytes" open_a (call_of (8 ∷ (four 2 ++ four 1))) (is_refused 22)
    ∷ one "truncate, a byte behind" open_a (call_of (8 ∷ (four 2 ++ (eight 1 ++ (0 ∷ []))))) (is_refused 22)
    -- remove, rmdir, readdir, stat: path
    ∷ one "remove, no path" fresh (remove "") (is_refused 22)
    ∷ one "rmdir, no path" fresh (rmdir "") (is_refused 22)
    ∷ one "readdir, no path" fresh (readdir "") (is_refused 22)
    ∷ one "stat, no path" fresh (stat "") (is_refused 22)
    -- `/`, or components each behind one `/` (SPECIFICATION 3.1)
    ∷ passes "path /" fresh (stat "/")
    ∷ one "path without its first /" fresh (stat "a") (is_refused 22)
    ∷ one "path //" fresh (stat "//") (is_refused 22)
    ∷ one "path /a/" fresh (stat "/a/") (is_refused 22)
    ∷ one "path /a//b" fresh (stat "/a//b") (is_refused 22)
    -- no byte 0, not `.` or `..` (SPECIFICATION 3.2)
    ∷ one "path with a byte 0" fresh (stat "/a\0") (is_refused 22)
    ∷ one "path with a byte 1" fresh (stat "/a\u{1}") (is_refused 2)
    ∷ one "path /." fresh (stat "/.") (is_refused 22)
    ∷ one "path /a/.." fresh (stat "/a/..") (is_refused 22)
    ∷ one "path /./a" fresh (stat "/./a") (is_refused 22)
    ∷ one "path /../a" fresh (stat "/../a") (is_refused 22)
    ∷ one "path /a./b" fresh (stat "/a./b") (is_refused 2)
    ∷ one "path /..a" fresh (stat "/..a") (is_refused 2)
    ∷ one "path with the bytes 128 and 255" fresh (stat (slashed high)) (is_refused 2)
    ∷ passes "create, path with the bytes 128 and 255" fresh (create 7 (slashed high))
    ∷ passes "create, path with the bytes 174 and 175, which are . and / and 128 more" fresh (create 7 "/®¯")
    ∷ one "path /..." fresh (stat "/...") (is_refused 2)
    ∷ one "path /.a" fresh (stat "/.a") (is_refused 2)
    -- 36 of a component over 32 (SPECIFICATION 3.3)
    ∷ passes "component of 32" fresh (create 7 (under "" 32))
    ∷ one "component of 33" fresh (create 7 (under "" 33)) (is_refused 36)
    ∷ one "component of 33 in the middle" fresh (stat (under (under "" 33) 1)) (is_refused 36)
    -- 36 of a path over 255
    ∷ one "path of 255" fresh (stat long) (is_refused 2)
    ∷ one "path of 256" fresh (stat too_long) (is_refused 36)
    ∷ one "create, path of 256" fresh (create 7 too_long) (is_refused 36)
    ∷ one "mkdir, component of 33" fresh (mkdir 7 (under "" 33)) (is_refused 36)
    ∷ one "open, component of 33" fresh (open_for 1 (under "" 33)) (is_refused 36)
    ∷ one "remove, component of 33" fresh (remove (under "" 33)) (is_refused 36)
    ∷ one "rmdir, component of 33" fresh (rmdir (under "" 33)) (is_refused 36)
    ∷ one "chmod, component of 33" fresh (chmod 7 (under "" 33)) (is_refused 36)
    ∷ one "readdir, component of 33" fresh (readdir (under "" 33)) (is_refused 36)
    -- 22 before 36 (SPECIFICATION 7.4)
    ∷ one "22 before 36: mode 8" fresh (create 8 (under "" 33)) (is_refused 22)
    ∷ one "22 before 36: rights 0" fresh (open_for 0 (under "" 33)) (is_refused 22)
    ∷ one "22 before 36: a component .." fresh (stat (under "/.." 33)) (is_refused 22)
    ∷ one "22 before 36: ends in /" fresh (stat (under (under "" 33) 0)) (is_refused 22)
    ∷ one "22 before 36: 256 bytes that end in /" fresh (stat (under long 0)) (is_refused 22)
    ∷ one "22 before 36: a byte 0" fresh (stat (under "/\0" 33)) (is_refused 22)
    -- 36 before the walk
    ∷ one "36 before 20" barred (stat (under "/f" 33)) (is_refused 36)
    ∷ one "36 before 13" barred (stat (under "/x" 33)) (is_refused 36)
    ∷ one "36 before 2" barred (stat (under "/none" 33)) (is_refused 36)
    ∷ one "36 before 20: create" barred (create 7 (under "/f" 33)) (is_refused 36)
    ∷ one "36 before 13: create" barred (create 7 (under "/x" 33)) (is_refused 36)
    ∷ one "36 before 2: create" barred (create 7 (under (under "" 33) 1)) (is_refused 36)
    ∷ one "36 before 2: mkdir" barred (mkdir 7 (under (under "" 33) 1)) (is_refused 36)
    -- and before 13 (parent bit 2); 28 stands in `Limits`; a path that is too long is never there, so 17 cannot hold
    ∷ one "36 before 13: create without the parent's bit 2" barred (create 7 (under "/r" 33)) (is_refused 36)
    ∷ one "36 before 13: mkdir without the parent's bit 2" barred (mkdir 7 (under "/r" 33)) (is_refused 36)
    ∷ []

pub rows_hold : wrong rows ≡ []
unfolding wrong
rows_hold = refl
