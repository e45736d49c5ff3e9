-- Images in each layout, byte by byte: the root, and an empty file `a` with id 2 and mode 6 in it. What is written,
-- what is read, and bytes that are no image there.
-- Assumes nothing.
use Rattle.std.specs.Prelude.{◌≡◌, refl, Bool, true, false, List, [], ◌∷◌, ◌++◌, ℕ}
use Rattle.std.proofs.Math.Option.{some, none}
use Rattle.lists.specs.Pick.{pick}
use Rattle.lists.specs.Equal.{equal}
use Rattle.lists.specs.LittleEndian.{encode, decode}
use Rattle.lists.specs.Search.{every, any, unique, place}
use Rattle.lists.specs.Form.{bind, front, get₂, get_fixed, get_as, put_all, get_all, ended, whole}
use Rattle.filesystem.specs.Tables.{Node, node_at, find_id, pages_for, page_total}
use Rattle.filesystem.specs.Paths.{component_form}
use Rattle.filesystem.specs.Image.{Layout, maker_bytes, node_form, image_form, climb, path_length, lies, in_limits}
use Rattle.filesystem.specs.Image.{sound_nodes, sound, print, parse}

abbrev layout : ℕ → Bool → Layout
layout w m = record { id_bytes = w; maker = m }

abbrev nodes : List Node
nodes =
    record { id = 1; parent = 0; kind = 2; mode = 7; size = 0; name = [] }
    ∷ record { id = 2; parent = 1; kind = 1; mode = 6; size = 0; name = 97 ∷ [] } ∷ []

-- a count of 4 bytes, ids of 4 and of 8
abbrev count : ℕ → List ℕ
count n = n ∷ 0 ∷ 0 ∷ 0 ∷ []

abbrev wide : ℕ → List ℕ
wide n = n ∷ 0 ∷ 0 ∷ 0 ∷ 0 ∷ 0 ∷ 0 ∷ 0 ∷ []

-- the fields, id, parent and maker being given
abbrev image : (List ℕ × List ℕ) → (List ℕ × List ℕ) → List ℕ → List ℕ
image r f m =
    count 2 ++ r.0 ++ r.1 ++ (2 ∷ 7 ∷ []) ++ m ++ count 0 ++ (0 ∷ []) ++ f.0 ++ f.1 ++ (1 ∷ 6 ∷ []) ++ m ++ count 0
    ++ (1 ∷ 97 ∷ []) ++ count 0

abbrev narrow : List ℕ → List ℕ
narrow m = image (count 1, count 0) (count 2, count 1) m

abbrev broad : List ℕ → List ℕ
broad m = image (wide 1, wide 0) (wide 2, wide 1) m

pub narrow-written : print (layout 4 false) (nodes, []) ≡ narrow []
unfolding print image_form node_form put_all encode maker_bytes pick
narrow-written = refl

pub narrow-read : parse (layout 4 false) (narrow []) ≡ some (nodes, [])
unfolding parse whole bind get₂ get_fixed get_as get_all front ended image_form node_form encode decode maker_bytes pick
    equal sound sound_nodes in_limits every any unique place find_id node_at page_total pages_for climb path_length lies
    component_form
narrow-read = refl

pub narrow_made_written : print (layout 4 true) (nodes, []) ≡ narrow (1 ∷ [])
unfolding print image_form node_form put_all encode maker_bytes pick
narrow_made_written = refl

pub narrow_made_read : parse (layout 4 true) (narrow (1 ∷ [])) ≡ some (nodes, [])
unfolding parse whole bind get₂ get_fixed get_as get_all front ended image_form node_form encode decode maker_bytes pick
    equal sound sound_nodes in_limits every any unique place find_id node_at page_total pages_for climb path_length lies
    component_form
narrow_made_read = refl

pub broad-written : print (layout 8 false) (nodes, []) ≡ broad []
unfolding print image_form node_form put_all encode maker_bytes pick
broad-written = refl

pub broad-read : parse (layout 8 false) (broad []) ≡ some (nodes, [])
unfolding parse whole bind get₂ get_fixed get_as get_all front ended image_form node_form encode decode maker_bytes pick
    equal sound sound_nodes in_limits every any unique place find_id node_at page_total pages_for climb path_length lies
    component_form
broad-read = refl

pub broad_made_written : print (layout 8 true) (nodes, []) ≡ broad (1 ∷ [])
unfolding print image_form node_form put_all encode maker_bytes pick
broad_made_written = refl

pub broad_made_read : parse (layout 8 true) (broad (1 ∷ [])) ≡ some (nodes, [])
unfolding parse whole bind get₂ get_fixed get_as get_all front ended image_form node_form encode decode maker_bytes pick
    equal sound sound_nodes in_limits every any unique place find_id node_at page_total pages_for climb path_length lies
    component_form
broad_made_read = refl

-- a maker other than 1, and a layout with a maker and one without
pub other_maker : parse (layout 4 true) (narrow (2 ∷ [])) ≡ none
unfolding parse whole bind get₂ get_fixed get_as get_all front ended image_form node_form encode decode maker_bytes pick
    equal sound sound_nodes in_limits every any unique place find_id node_at page_total pages_for climb path_length lies
    component_form
other_maker = refl

pub maker_of_zero : parse (layout 8 true) (broad (0 ∷ [])) ≡ none
unfolding parse whole bind get₂ get_fixed get_as get_all front ended image_form node_form encode decode maker_bytes pick
    equal sound sound_nodes in_limits every any unique place find_id node_at page_total pages_for climb path_length lies
    component_form
maker_of_zero = refl

pub unasked_maker : parse (layout 4 false) (narrow (1 ∷ [])) ≡ none
unfolding parse whole bind get₂ get_fixed get_as get_all front ended image_form node_form encode decode maker_bytes pick
    equal sound sound_nodes in_limits every any unique place find_id node_at page_total pages_for climb path_length lies
    component_form
unasked_maker = refl

pub lacking_maker : parse (layout 8 true) (broad []) ≡ none
unfolding parse whole bind get₂ get_fixed get_as get_all front ended image_form node_form encode decode maker_bytes pick
    equal sound sound_nodes in_limits every any unique place find_id node_at page_total pages_for climb path_length lies
    component_form
lacking_maker = refl

-- ids of another width
pub too_narrow : parse (layout 8 false) (narrow []) ≡ none
unfolding parse whole bind get₂ get_fixed get_as get_all front ended image_form node_form encode decode maker_bytes pick
    equal sound sound_nodes in_limits every any unique place find_id node_at page_total pages_for climb path_length lies
    component_form
too_narrow = refl

pub too_wide : parse (layout 4 false) (broad []) ≡ none
unfolding parse whole bind get₂ get_fixed get_as get_all front ended image_form node_form encode decode maker_bytes pick
    equal sound sound_nodes in_limits every any unique place find_id node_at page_total pages_for climb path_length lies
    component_form
too_wide = refl
