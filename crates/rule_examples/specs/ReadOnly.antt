-- The read-only guard: the calls that it takes, and 30 after 36 and before every table (SPECIFICATION 14).
use Rattle.std.specs.Prelude.{◌≡◌, refl, List, [], ◌∷◌, ℕ}
use Prim.Native.String as S
use Prim.Native.String.{String}
use Rattle.filesystem.specs.Tables.{OpenFile}
use Rattle.rules.specs.Skeleton.{Event, save}
use Rattle.rule_examples.specs.Bytes.{bytes_of, many, nothing, name}
use Rattle.rule_examples.specs.Given.{Item, file, folder, root, opened, Given, given, image_of}
use Rattle.rule_examples.specs.Events.{call_of, replies, lent, create, mkdir, open_for, close, seek, read, write}
use Rattle.rule_examples.specs.Events.{truncate, remove, rmdir, chmod, readdir, stat, map_of, unmap, says, gives}
use Rattle.rule_examples.specs.Events.{says_minus, gives_page, entry, stat_of, load, loads, rename}
use Rattle.rule_examples.specs.Rows.{is_done, is_saved, is_refused, is_stopped, closes, fetches, ◌⇒◌, holds, lives}
use Rattle.rule_examples.specs.Rows.{◌then◌, end, sends_itself, Row, row, one}
use Rattle.rule_examples.specs.Evaluation.{reader_side, wrong_on, wrong_reading}

-- `/f` is open for reading, `/b` bars the way, `/n` has no bit
abbrev items : List Item
items =
    root ∷ file 2 1 7 "f" (1 ∷ 2 ∷ 3 ∷ []) ∷ folder 3 1 0 "b" ∷ file 4 3 7 "x" nothing ∷ file 5 1 0 "n" nothing
    ∷ folder 6 1 7 "d" ∷ []

abbrev opens : List OpenFile
opens = opened 2 5 1 0 ∷ []

abbrev w : Given
w = given items opens

abbrev closed : Given
closed = given items []

-- refused, and nothing has changed
abbrev stays : String → Event → ℕ → Row
stays t e n = row t w (e ⇒ is_refused n then holds items opens then lives [] then end)

-- a path that is too long
abbrev long : String → Event → Row
long t e = one t w e (is_refused 36)

-- whatever is handed in: while a request is pending; after a stop; with a short buffer
abbrev waits : String → Event → Row
waits t e = row t w
    (sends_itself (stat "/f") then lent 0 0 e ⇒ is_refused 114 then replies (stat_of 2 1 7 3) ⇒ is_done 3 (stat_of 2 1 7 3)
    then end)

abbrev halted : String → Event → Row
halted t e = row t w (sends_itself (stat "/f") then says 0 ⇒ is_stopped 1 then lent 0 0 e ⇒ is_refused 5 then end)

abbrev short : String → Event → Row
short t e = row t w
    (lent 9689 1037 e ⇒ is_refused 34 then lent 9690 1036 e ⇒ is_refused 34 then holds items opens then end)

-- a path that ends in a name of n letters
abbrev at : String → ℕ → String
at p n = S.◌++◌ p (name n)

-- two images
abbrev other : List Item
other = root ∷ file 9 1 4 "g" (7 ∷ []) ∷ []

abbrev image : List ℕ
image = image_of other

abbrev pub rows : List Row
rows =
    -- not taken, whatever the tables have
    stays "30: create 7 /f" (create 7 "/f") 30
    ∷ stays "30: create 7 /new" (create 7 "/new") 30
    ∷ stays "30: create 7 /" (create 7 "/") 30
    ∷ stays "30: mkdir 7 /d" (mkdir 7 "/d") 30
    ∷ stays "30: mkdir 0 /new" (mkdir 0 "/new") 30
    ∷ stays "30: openFor 2 /none" (open_for 2 "/none") 30
    ∷ stays "30: openFor 3 /none" (open_for 3 "/none") 30
    ∷ stays "30: openFor 2 /f" (open_for 2 "/f") 30
    ∷ stays "30: openFor 3 /f" (open_for 3 "/f") 30
    ∷ stays "30: openFor 2 /" (open_for 2 "/") 30
    ∷ stays "30: write 2 nothing" (write 2 nothing) 30
    ∷ stays "30: write 2 9" (write 2 (9 ∷ [])) 30
    ∷ stays "30: write 66051 9" (write 66051 (9 ∷ [])) 30
    ∷ stays "30: truncate 2 3" (truncate 2 3) 30
    ∷ stays "30: truncate 2 0" (truncate 2 0) 30
    ∷ stays "30: truncate 2 65537" (truncate 2 65537) 30
    ∷ stays "30: truncate 66051 0" (truncate 66051 0) 30
    ∷ stays "30: remove /" (remove "/") 30
    ∷ stays "30: remove /n" (remove "/n") 30
    ∷ stays "30: remove /f" (remove "/f") 30
    ∷ stays "30: remove /none" (remove "/none") 30
    ∷ stays "30: rmdir /" (rmdir "/") 30
    ∷ stays "30: rmdir /d" (rmdir "/d") 30
    ∷ stays "30: rmdir /f" (rmdir "/f") 30
    ∷ stays "30: rmdir /none" (rmdir "/none") 30
    ∷ stays "30: chmod 5 /f" (chmod 5 "/f") 30
    ∷ stays "30: chmod 7 /f" (chmod 7 "/f") 30
    ∷ stays "30: chmod 0 /none" (chmod 0 "/none") 30
    ∷ stays "30: mapOf 4096" (map_of 4096) 30
    ∷ stays "30: mapOf 65536" (map_of 65536) 30
    ∷ stays "30: unmap 0" (unmap 0) 30
    ∷ stays "30: unmap 4097" (unmap 4097) 30
    ∷ stays "30: rename /n /new" (rename "/n" "/new") 30
    ∷ stays "30: rename /n /n" (rename "/n" "/n") 30
    ∷ stays "30: rename /n /d" (rename "/n" "/d") 30
    ∷ stays "30: rename / /new" (rename "/" "/new") 30
    ∷ stays "30: rename /none /new" (rename "/none" "/new") 30
    ∷ stays "30: rename /d /d/new" (rename "/d" "/d/new") 30
    -- before the walk: a file on the way, a directory without bit 1, an absent one
    ∷ stays "30: create 7 /f/x" (create 7 "/f/x") 30
    ∷ stays "30: mkdir 7 /b/y" (mkdir 7 "/b/y") 30
    ∷ stays "30: create 7 /none/x" (create 7 "/none/x") 30
    ∷ stays "30: openFor 3 /b/x" (open_for 3 "/b/x") 30
    ∷ stays "30: remove /f/x" (remove "/f/x") 30
    ∷ stays "30: rmdir /b/x" (rmdir "/b/x") 30
    ∷ stays "30: chmod 7 /b/x" (chmod 7 "/b/x") 30
    ∷ stays "30: chmod 7 /f/x/y" (chmod 7 "/f/x/y") 30
    ∷ stays "30: rename /f/x /new" (rename "/f/x" "/new") 30
    ∷ stays "30: rename /f /b/y" (rename "/f" "/b/y") 30
    -- the form first
    ∷ stays "22: create 8 /f" (create 8 "/f") 22
    ∷ stays "22: mkdir 8 /f" (mkdir 8 "/f") 22
    ∷ stays "22: chmod 8 /f" (chmod 8 "/f") 22
    ∷ stays "22: openFor 0 /f" (open_for 0 "/f") 22
    ∷ stays "22: openFor 4 /f" (open_for 4 "/f") 22
    ∷ stays "22: openFor 5 /f" (open_for 5 "/f") 22
    ∷ stays "22: create 7 f" (create 7 "f") 22
    ∷ stays "22: create 7" (create 7 "") 22
    ∷ stays "22: create 7 /f/" (create 7 "/f/") 22
    ∷ stays "22: openFor 2 //" (open_for 2 "//") 22
    ∷ stays "22: remove /f/." (remove "/f/.") 22
    ∷ stays "22: rmdir /.." (rmdir "/..") 22
    ∷ stays "22: chmod 7" (chmod 7 "") 22
    ∷ stays "22: mkdir 7 /a//b" (mkdir 7 "/a//b") 22
    ∷ stays "22: write 2 many 4097 0" (write 2 (many 4097 0)) 22
    ∷ stays "22: mapOf 0" (map_of 0) 22
    ∷ stays "22: mapOf 4097" (map_of 4097) 22
    ∷ stays "22: mapOf 69632" (map_of 69632) 22
    ∷ stays "22: callOf nothing" (call_of nothing) 22
    ∷ stays "22: callOf 0" (call_of (0 ∷ [])) 22
    ∷ stays "22: callOf 16 bytesOf /f" (call_of (16 ∷ bytes_of "/f")) 22
    ∷ stays "22: callOf 1" (call_of (1 ∷ [])) 22
    ∷ stays "22: callOf 7 2 0 0" (call_of (7 ∷ 2 ∷ 0 ∷ 0 ∷ [])) 22
    ∷ stays "22: callOf 8 many 11 0" (call_of (8 ∷ many 11 0)) 22
    ∷ stays "22: callOf 8 many 13 0" (call_of (8 ∷ many 13 0)) 22
    ∷ stays "22: callOf 14 many 3 0" (call_of (14 ∷ many 3 0)) 22
    ∷ stays "22: callOf 15 many 7 0" (call_of (15 ∷ many 7 0)) 22
    ∷ stays "22: callOf 15 many 9 0" (call_of (15 ∷ many 9 0)) 22
    ∷ stays "22: callOf 16" (call_of (16 ∷ [])) 22
    ∷ stays "22: callOf 16 0 bytesOf /f" (call_of (16 ∷ 0 ∷ bytes_of "/f")) 22
    ∷ stays "22: callOf 16 2 bytesOf /f" (call_of (16 ∷ 2 ∷ bytes_of "/f")) 22
    ∷ stays "22: callOf 17 2 bytesOf /f/x" (call_of (17 ∷ 2 ∷ bytes_of "/f/x")) 22
    ∷ stays "22: rename /f/ /new" (rename "/f/" "/new") 22
    ∷ stays "22: rename /f new" (rename "/f" "new") 22
    -- 36 of each kind by path; 22 before it
    ∷ long "36: create 7 at / 33" (create 7 (at "/" 33))
    ∷ long "36: mkdir 7 at / 33" (mkdir 7 (at "/" 33))
    ∷ long "36: openFor 2 at / 33" (open_for 2 (at "/" 33))
    ∷ long "36: openFor 3 at /b/ 33" (open_for 3 (at "/b/" 33))
    ∷ long "36: remove at /f/ 33" (remove (at "/f/" 33))
    ∷ long "36: rmdir at /none/ 33" (rmdir (at "/none/" 33))
    ∷ long "36: chmod 7 at / 33" (chmod 7 (at "/" 33))
    ∷ long "36: openFor 1 at / 33" (open_for 1 (at "/" 33))
    ∷ long "36: readdir at / 33" (readdir (at "/" 33))
    ∷ long "36: stat at / 33" (stat (at "/" 33))
    ∷ long "36: rename at / 33 /new" (rename (at "/" 33) "/new")
    ∷ long "36: rename /none at / 33" (rename "/none" (at "/" 33))
    ∷ stays "22: rename at / 33 new" (rename (at "/" 33) "new") 22
    ∷ stays "22: rename f at / 33" (rename "f" (at "/" 33)) 22
    ∷ stays "30: rename /f at / 32" (rename "/f" (at "/" 32)) 30
    ∷ stays "22: create 8 at / 33" (create 8 (at "/" 33)) 22
    ∷ stays "22: remove at / 33 /" (remove (S.◌++◌ (at "/" 33) "/")) 22
    ∷ stays "30: create 7 at / 32" (create 7 (at "/" 32)) 30
    -- 34, 114 and 5 before all of these
    ∷ short "34: create 7 /f" (create 7 "/f")
    ∷ short "34: create 8 /f" (create 8 "/f")
    ∷ short "34: chmod 7 at / 33" (chmod 7 (at "/" 33))
    ∷ short "34: write 2 nothing" (write 2 nothing)
    ∷ short "34: unmap 0" (unmap 0)
    ∷ short "34: stat /f" (stat "/f")
    ∷ short "34: rename /f /new" (rename "/f" "/new")
    ∷ waits "114: create 7 /f" (create 7 "/f")
    ∷ waits "114: create 8 /f" (create 8 "/f")
    ∷ waits "114: chmod 7 at / 33" (chmod 7 (at "/" 33))
    ∷ waits "114: write 2 nothing" (write 2 nothing)
    ∷ waits "114: unmap 0" (unmap 0)
    ∷ waits "114: stat /f" (stat "/f")
    ∷ waits "114: rename /f /new" (rename "/f" "/new")
    ∷ halted "5: create 7 /f" (create 7 "/f")
    ∷ halted "5: create 8 /f" (create 8 "/f")
    ∷ halted "5: chmod 7 at / 33" (chmod 7 (at "/" 33))
    ∷ halted "5: write 2 nothing" (write 2 nothing)
    ∷ halted "5: unmap 0" (unmap 0)
    ∷ halted "5: stat /f" (stat "/f")
    ∷ halted "5: rename /f /new" (rename "/f" "/new")
    ∷ one "30 with longer buffers" w (lent 9691 1038 (create 7 "/f")) (is_refused 30)
    -- taken: the guard's numbers
    ∷ stays "2: openFor 1 /none" (open_for 1 "/none") 2
    ∷ stays "20: openFor 1 /f/x" (open_for 1 "/f/x") 20
    ∷ stays "13: openFor 1 /b/x" (open_for 1 "/b/x") 13
    ∷ stays "21: openFor 1 /d" (open_for 1 "/d") 21
    ∷ stays "13: openFor 1 /n" (open_for 1 "/n") 13
    ∷ stays "16: openFor 1 /f" (open_for 1 "/f") 16
    ∷ stays "9: close 4" (close 4) 9
    ∷ stays "9: seek 4 0" (seek 4 0) 9
    ∷ stays "9: read 4 1" (read 4 1) 9
    ∷ stays "9: read 66051 1" (read 66051 1) 9
    ∷ stays "22: seek 2 4" (seek 2 4) 22
    ∷ stays "22: read 2 4097" (read 2 4097) 22
    ∷ stays "2: readdir /none" (readdir "/none") 2
    ∷ stays "20: readdir /f" (readdir "/f") 20
    ∷ stays "13: readdir /b" (readdir "/b") 13
    ∷ stays "2: stat /none" (stat "/none") 2
    ∷ stays "13: stat /b/x" (stat "/b/x") 13
    ∷ stays "16: save 44776" (save 44776) 16
    ∷ stays "16: loads image" (loads image) 16
    -- and what they do
    ∷ row "opened, moved along, read and closed" closed
    (sends_itself (open_for 1 "/f") then gives 6 ⇒ is_done 2 nothing then holds items (opened 2 6 1 0 ∷ [])
    then seek 2 1 ⇒ is_done 1 nothing then holds items (opened 2 6 1 1 ∷ []) then read 2 4096 ⇒ fetches 6 0
    then gives_page (1 ∷ 2 ∷ 3 ∷ []) ⇒ is_done 2 (2 ∷ 3 ∷ []) then holds items (opened 2 6 1 3 ∷ [])
    then read 2 1 ⇒ is_done 0 nothing
    then write 2 (9 ∷ []) ⇒ is_refused 30 then close 2 ⇒ closes 6 then says 0 ⇒ is_done 0 nothing then holds items []
    then end)
    ∷ row "listed" w (sends_itself (readdir "/d") then replies nothing ⇒ is_done 0 nothing then holds items opens
    then end)
    ∷ row "stat" w (sends_itself (stat "/n") then replies (stat_of 5 1 0 0) ⇒ is_done 0 (stat_of 5 1 0 0)
    then holds items opens then end)
    ∷ row "34 of a reply, then taken" w
    (sends_itself (stat "/n") then lent 9689 1037 (replies (stat_of 5 1 0 0)) ⇒ is_refused 34
    then replies (stat_of 5 1 0 0) ⇒ is_done 0 (stat_of 5 1 0 0) then replies nothing ⇒ is_refused 61 then end)
    -- a wrong reply stops it
    ∷ row "stop 5: another page" w
    (read 2 1 ⇒ fetches 5 0 then gives_page (4 ∷ 2 ∷ 3 ∷ []) ⇒ is_stopped 5 then holds items opens then end)
    ∷ row "stop 1: a fetch answered -28" w (read 2 1 ⇒ fetches 5 0 then says_minus 28 ⇒ is_stopped 1 then end)
    ∷ row "stop 6: another stat" w (sends_itself (stat "/n") then replies (stat_of 5 1 0 1) ⇒ is_stopped 6 then end)
    ∷ row "stop 7: a listing with an entry more" w
    (sends_itself (readdir "/d") then replies (entry 9 1 "x") ⇒ is_stopped 7 then end)
    ∷ row "stop 4: a descriptor twice" (given (root ∷ file 2 1 7 "f" nothing ∷ file 3 1 4 "g" nothing ∷ []) opens)
    (sends_itself (open_for 1 "/g") then gives 5 ⇒ is_stopped 4 then end)
    -- a save gives what was loaded last
    ∷ row "saved as it was" closed (create 7 "/new" ⇒ is_refused 30 then save 44776 ⇒ is_saved (image_of items) then end)
    ∷ row "loads that are refused leave it" closed
    (load image nothing ⇒ is_refused 74 then loads (1 ∷ image) ⇒ is_refused 84 then save 44776 ⇒ is_saved (image_of items)
    then holds items [] then end)
    ∷ []

-- a load needs what was saved: on the guard alone
abbrev pub guard_rows : List Row
guard_rows =
    row "saved as it was loaded" closed
    (loads image ⇒ is_done 0 nothing then holds other [] then create 7 "/f" ⇒ is_refused 30
    then sends_itself (open_for 1 "/g")
    then gives 3 ⇒ is_done 9 nothing then save 44776 ⇒ is_refused 16 then read 9 1 ⇒ fetches 3 0
    then gives_page (7 ∷ []) ⇒ is_done 1 (7 ∷ [])
    then close 9 ⇒ closes 3 then says 0 ⇒ is_done 0 nothing then chmod 7 "/g" ⇒ is_refused 30
    then save 44776 ⇒ is_saved image then holds other []
    then loads (image_of items) ⇒ is_done 0 nothing then save 44776 ⇒ is_saved (image_of items) then end)
    ∷ []

pub rows_hold : wrong_reading rows ≡ []
unfolding wrong_reading
rows_hold = refl

pub guard_rows_hold : wrong_on reader_side guard_rows ≡ []
unfolding wrong_on
guard_rows_hold = refl
