-- A renaming, computed: a folder with a file in it moves into a folder that was made later.
-- Assumes nothing.
use Rattle.std.specs.Prelude.{◌≡◌, refl, true, false, List, [], ◌∷◌, ℕ}
use Rattle.lists.specs.Pick.{pick}
use Rattle.lists.specs.Equal.{equal}
use Rattle.lists.specs.Search.{every, any, unique, place}
use Rattle.filesystem.specs.Tables.{Node, root, new_node, node_at, find_id, find_child, pages_for, page_total, renamed}
use Rattle.filesystem.specs.Paths.{component_form, child_at, walk}
use Rattle.filesystem.specs.Image.{climb, path_length, lies, beneath, too_deep, in_limits, sound_nodes}
use Rattle.filesystem.specs.Renaming.{Movable}
use Rattle.std.proofs.Common.{arith}

abbrev d : List ℕ
d = 100 ∷ []

abbrev e : List ℕ
e = 101 ∷ []

abbrev f : List ℕ
f = 102 ∷ []

abbrev x : List ℕ
x = 120 ∷ []

-- /d, /d/f, /e
abbrev before : List Node
before = root ∷ new_node 2 1 2 7 d ∷ new_node 3 2 1 7 f ∷ new_node 4 1 2 7 e ∷ []

abbrev after : List Node
after = renamed before 1 4 x

-- its parent stands behind it then
pub after_is : after ≡ root ∷ new_node 2 4 2 7 x ∷ new_node 3 2 1 7 f ∷ new_node 4 1 2 7 e ∷ []
unfolding renamed node_at
after_is = refl

pub after-sound : sound_nodes 4 after ≡ true
unfolding renamed node_at sound_nodes in_limits every any unique lies path_length climb find_id place pick page_total pages_for
    equal component_form
after-sound = refl

-- /d is allowed to move to /e/x, and not to /d/x
pub may_move : Movable before 1 3 x
unfolding node_at beneath lies find_id find_child place pick too_deep any path_length climb equal component_form every
may_move = record {
  known = omega arith;
  not_root = omega arith;
  folder = refl;
  not_within = refl;
  new-name = omega arith;
  form = refl;
  short = omega arith;
  shallow = refl;
}

pub not_into_itself : beneath before 1 1 ≡ true
unfolding beneath lies node_at find_id place pick
not_into_itself = refl

-- /e/x/f is what /d/f was, and /d is absent
pub file_found : walk after 0 (e ∷ x ∷ f ∷ []) ≡ 2
unfolding renamed node_at walk child_at find_child place pick equal
file_found = refl

pub old_absent : walk after 0 (d ∷ []) ≡ 4
unfolding renamed node_at walk child_at find_child place pick equal
old_absent = refl

-- two folders, each in the other, are not sound
pub circle_unsound : sound_nodes 4 (root ∷ new_node 2 3 2 7 d ∷ new_node 3 2 2 7 e ∷ []) ≡ false
unfolding node_at sound_nodes in_limits every any unique lies path_length climb find_id place pick page_total pages_for
    equal component_form
circle_unsound = refl
