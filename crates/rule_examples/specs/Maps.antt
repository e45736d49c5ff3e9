-- Maps (SPECIFICATION 2.8, 4.1, 5.5, 5.10). A row computes every zero of its replies: few of them have any.
use Rattle.std.specs.Prelude.{◌≡◌, refl, List, [], ◌∷◌, ◌++◌}
use Rattle.filesystem.specs.MemoryMaps.{Map}
use Rattle.rules.specs.Skeleton.{save}
use Rattle.rule_examples.specs.Bytes.{four, eight, many, nothing, digest}
use Rattle.rule_examples.specs.Given.{root, Given, map_at, mapped, image_of}
use Rattle.rule_examples.specs.Events.{call_of, replies, lent, stat, map_of, unmap, hands, says, says_minus, load}
use Rattle.rule_examples.specs.Rows.{is_done, is_saved, asks, is_refused, is_stopped, ◌⇒◌, holds, lives, ◌then◌, end, sends_itself, Row, row, one}
use Rattle.rule_examples.specs.Rows.{passes}
use Rattle.rule_examples.specs.Evaluation.{wrong}

abbrev one_map : Given
one_map = mapped (map_at 4096 4096 ∷ [])

abbrev maps_of_three : List Map
maps_of_three = map_at 4096 4096 ∷ map_at 16384 4096 ∷ map_at 65536 8192 ∷ []

abbrev three_maps : Given
three_maps = mapped maps_of_three

abbrev the_fifteen : List Map
the_fifteen = map_at 4096 4096 ∷ map_at 8192 4096 ∷ map_at 12288 4096 ∷ map_at 16384 4096 ∷ map_at 20480 4096 ∷ map_at 24576 4096 ∷ map_at 28672 4096 ∷ map_at 32768 4096 ∷ map_at 36864 4096 ∷ map_at 40960 4096 ∷ map_at 45056 4096 ∷ map_at 49152 4096 ∷ map_at 53248 4096 ∷ map_at 57344 4096 ∷ map_at 61440 4096 ∷ []

abbrev fifteen : Given
fifteen = mapped the_fifteen

abbrev sixteen : Given
sixteen = mapped (map_at 1048576 65536 ∷ the_fifteen)

abbrev pub rows : List Row
rows =
    one "22: a map of 0" (mapped []) (map_of 0) (is_refused 22)
    ∷ one "22: a map of 1" (mapped []) (map_of 1) (is_refused 22)
    ∷ one "22: a map of 4,095" (mapped []) (map_of 4095) (is_refused 22)
    ∷ one "22: a map of 4,097" (mapped []) (map_of 4097) (is_refused 22)
    ∷ one "22: a map of 8,191" (mapped []) (map_of 8191) (is_refused 22)
    ∷ one "22: a map of 65,535" (mapped []) (map_of 65535) (is_refused 22)
    ∷ one "22: a map of 65,537" (mapped []) (map_of 65537) (is_refused 22)
    ∷ one "22: a map of 69,632" (mapped []) (map_of 69632) (is_refused 22)
    ∷ one "22: a map of 4,294,963,200" (mapped []) (map_of 4294963200) (is_refused 22)
    ∷ passes "a map of 4,096" (mapped []) (map_of 4096)
    ∷ passes "a map of 8,192" (mapped []) (map_of 8192)
    ∷ passes "a map of 65,536" (mapped []) (map_of 65536)
    ∷ one "22: a map's call a byte short" (mapped []) (call_of (14 ∷ 0 ∷ 16 ∷ 0 ∷ [])) (is_refused 22)
    ∷ one "22: a map's call a byte long" (mapped []) (call_of (14 ∷ (four 4096 ++ (0 ∷ [])))) (is_refused 22)
    ∷ one "22: an unmap's call a byte short" one_map (call_of (15 ∷ 0 ∷ 16 ∷ 0 ∷ 0 ∷ 0 ∷ 0 ∷ 0 ∷ [])) (is_refused 22)
    ∷ one "22: an unmap's call a byte long" one_map (call_of (15 ∷ (eight 4096 ++ (0 ∷ [])))) (is_refused 22)
    ∷ one "22: kind 17" (mapped []) (call_of (17 ∷ four 4096)) (is_refused 22)
    ∷ one "12: a seventeenth map" sixteen (map_of 4096) (is_refused 12)
    ∷ one "22 before 12" sixteen (map_of 4095) (is_refused 22)
    ∷ one "34 before 12" sixteen (lent 9689 1037 (map_of 4096)) (is_refused 34)
    ∷ one "34 before the late 22" one_map (lent 9690 1036 (unmap 0)) (is_refused 34)
    ∷ passes "a sixteenth map" fifteen (map_of 65536)
    ∷ one "22: an unmap where no map lives" (mapped []) (unmap 4096) (is_refused 22)
    ∷ one "22: an unmap within a map" (mapped (map_at 8192 8192 ∷ [])) (unmap 12288) (is_refused 22)
    ∷ one "22: an unmap at a map's end" one_map (unmap 8192) (is_refused 22)
    ∷ one "22: an unmap of an address cut to four bytes" one_map (unmap 4294971392) (is_refused 22)
    ∷ row "an unmap" three_maps
    (sends_itself (unmap 16384) then lives (maps_of_three) then says 0 ⇒ is_done 0 nothing then lives (map_at 4096 4096 ∷ map_at 65536 8192 ∷ []) then end)
    ∷ row "an unmap twice" one_map
    (sends_itself (unmap 4096) then says 0 ⇒ is_done 0 nothing then lives [] then unmap 4096 ⇒ is_refused 22 then end)
    ∷ row "stop 1: an unmap's status of 3 bytes" one_map
    (sends_itself (unmap 4096) then replies (0 ∷ 0 ∷ 0 ∷ []) ⇒ is_stopped 1 then end)
    ∷ row "stop 2: an unmap's status 1" one_map
    (sends_itself (unmap 4096) then says 1 ⇒ is_stopped 2 then end)
    ∷ row "stop 2: an unmap's status -1" one_map
    (sends_itself (unmap 4096) then says_minus 1 ⇒ is_stopped 2 then end)
    ∷ row "114 while a map is asked for" (mapped [])
    (sends_itself (map_of 4096) then map_of 4095 ⇒ is_refused 114 then end)
    ∷ row "stop 1: an empty reply" (mapped [])
    (sends_itself (map_of 4096) then replies nothing ⇒ is_stopped 1 then end)
    ∷ row "stop 1: the address alone" (mapped [])
    (sends_itself (map_of 4096) then hands 4096 nothing ⇒ is_stopped 1 then end)
    ∷ row "stop 1: a map's reply as a status" (mapped [])
    (sends_itself (map_of 4096) then says_minus 12 ⇒ is_stopped 1 then end)
    ∷ row "a map at 4,096" (mapped [])
    (sends_itself (map_of 4096) then hands 4096 (many 4096 0) ⇒ is_done 4096 nothing then lives (map_at 4096 4096 ∷ []) then end)
    ∷ row "a map at the end of the addresses" (mapped [])
    (sends_itself (map_of 4096) then hands 18446744073709547520 (many 4096 0) ⇒ is_done 18446744073709547520 nothing then lives (map_at 18446744073709547520 4096 ∷ []) then end)
    ∷ row "maps that touch on both sides" (mapped (map_at 4096 4096 ∷ map_at 12288 4096 ∷ []))
    (sends_itself (map_of 4096) then hands 8192 (many 4096 0) ⇒ is_done 8192 nothing then lives (map_at 4096 4096 ∷ map_at 12288 4096 ∷ map_at 8192 4096 ∷ []) then end)
    ∷ row "stop 1: a map's reply a byte short" (mapped [])
    (sends_itself (map_of 4096) then hands 4096 (many 4095 0) ⇒ is_stopped 1 then end)
    ∷ row "stop 1 before stop 8" (mapped [])
    (sends_itself (map_of 4096) then hands 0 (many 4097 1) ⇒ is_stopped 1 then end)
    ∷ row "stop 8: address 0" (mapped [])
    (sends_itself (map_of 4096) then hands 0 (many 4096 0) ⇒ is_stopped 8 then end)
    ∷ row "stop 8: address 1" (mapped [])
    (sends_itself (map_of 4096) then hands 1 (many 4096 0) ⇒ is_stopped 8 then end)
    ∷ row "stop 8: address 6,144" (mapped [])
    (sends_itself (map_of 4096) then hands 6144 (many 4096 0) ⇒ is_stopped 8 then end)
    ∷ row "stop 8: a map that lives" one_map
    (sends_itself (map_of 4096) then hands 4096 (many 4096 0) ⇒ is_stopped 8 then end)
    ∷ row "stop 8: within a map's first unit" (mapped (map_at 4096 8192 ∷ []))
    (sends_itself (map_of 4096) then hands 4096 (many 4096 0) ⇒ is_stopped 8 then end)
    ∷ row "stop 8: within a map's last unit" (mapped (map_at 4096 8192 ∷ []))
    (sends_itself (map_of 4096) then hands 8192 (many 4096 0) ⇒ is_stopped 8 then end)
    ∷ row "stop 8: over the last of three maps" three_maps
    (sends_itself (map_of 4096) then hands 69632 (many 4096 0) ⇒ is_stopped 8 then end)
    ∷ row "stop 8: the first byte is 1" (mapped [])
    (sends_itself (map_of 4096) then hands 4096 (1 ∷ many 4095 0) ⇒ is_stopped 8 then end)
    ∷ row "stop 8: the last byte is 1" (mapped [])
    (sends_itself (map_of 4096) then hands 4096 (many 4095 0 ++ (1 ∷ [])) ⇒ is_stopped 8 then end)
    ∷ row "stop 8: a byte in the middle is 128" (mapped [])
    (sends_itself (map_of 4096) then hands 4096 (many 2000 0 ++ (128 ∷ many 2095 0)) ⇒ is_stopped 8 then end)
    ∷ row "stop 8: a unit past the end of the addresses" (mapped [])
    (sends_itself (map_of 8192) then hands 18446744073709547520 (many 8192 0) ⇒ is_stopped 8 then end)
    ∷ row "stop 8: its last unit is a map's first" (mapped (map_at 12288 4096 ∷ []))
    (sends_itself (map_of 8192) then hands 8192 (many 8192 0) ⇒ is_stopped 8 then end)
    ∷ row "stop 8: a map lies within it" (mapped (map_at 8192 4096 ∷ []))
    (sends_itself (map_of 8192) then hands 4096 (many 8192 0) ⇒ is_stopped 8 then end)
    ∷ row "stop 8: a byte of the second unit is not zero" (mapped [])
    (sends_itself (map_of 8192) then hands 4096 (many 5000 0 ++ (1 ∷ many 3191 0)) ⇒ is_stopped 8 then end)
    ∷ row "61: a second reply to a map" (mapped [])
    (sends_itself (map_of 4096) then hands 4096 (many 4096 0) ⇒ is_done 4096 nothing then hands 8192 nothing ⇒ is_refused 61 then sends_itself (unmap 4096) then end)
    ∷ row "a save and a load leave the maps" one_map
    (save 35 ⇒ is_saved (image_of (root ∷ [])) then lives (map_at 4096 4096 ∷ []) then load (image_of (root ∷ [])) (digest (image_of (root ∷ []))) ⇒ is_done 0 nothing then lives (map_at 4096 4096 ∷ []) then sends_itself (unmap 4096) then end)
    ∷ row "a stop leaves the maps" one_map
    (sends_itself (map_of 4096) then replies nothing ⇒ is_stopped 1 then lives (map_at 4096 4096 ∷ []) then unmap 4096 ⇒ is_refused 5 then end)
    ∷ row "a map is no file" one_map
    (stat "/" ⇒ asks (13 ∷ 47 ∷ []) then holds (root ∷ []) [] then end)
    ∷ []

pub rows_hold : wrong rows ≡ []
unfolding wrong
rows_hold = refl
