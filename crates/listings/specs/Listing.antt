-- A listing's entries by their places in the reply, and the children that no entry has named yet.
--   entry_at, entry_end, end_within    the entry at a place of a reply, and the place behind it
--   names_child, entry_place          whether it is the child that it names, and that child's place
--   unseen, marks                   the children that no entry has named yet
-- Assumes nothing.
use Rattle.std.specs.Prelude.{ℕ, suc, ◌+◌, Bool, ◌&&◌, List, [], ◌∷◌, eqb, leb, length, get_or, Option, Some, None}
use Rattle.lists.specs.Pick.{pick}
use Rattle.lists.specs.Parts.{part}
use Rattle.lists.specs.LittleEndian.{decode}
use Rattle.filesystem.specs.Tables.{Node, node_at, has_parent, find_id}
use Rattle.rules.specs.Rules.{Entry, entry_of, same_entry}

-- the entry that stands at a place, and the place behind it
unfoldable pub entry_at : ℕ → List ℕ → ℕ → Entry
entry_at w s at = (decode (part at w s), (get_or s (at + w) 0, part (at + w + 2) (get_or s (at + w + 1) 0) s))

unfoldable pub entry_end : ℕ → List ℕ → ℕ → ℕ
entry_end w s at = at + w + 2 + get_or s (at + w + 1) 0

-- the same where the bytes reach it
unfoldable pub end_within : ℕ → List ℕ → ℕ → Option ℕ
end_within w s at = pick (leb (entry_end w s at) (length s)) (Some (entry_end w s at)) None

-- the node is the child of p that an entry names
abbrev pub names_child : ℕ → Entry → Node → Bool
names_child p x n = has_parent p n && same_entry x (entry_of n)

-- the place of the node with an entry's id; past the end where there is none, or it is not the child of p that the
-- entry names
unfoldable pub entry_place : List Node → ℕ → Entry → ℕ
entry_place ns p x = pick (names_child p x (node_at ns (find_id ns x.0))) (find_id ns x.0) (length ns)

-- the children of p with mark 0
unfoldable pub unseen : ℕ → List Node → (ℕ → ℕ) → List Node
unseen p [] f = []
unseen p (n ∷ ns) f = pick (has_parent p n && eqb (f 0) 0) (n ∷ unseen p ns (λ j. f (suc j)))
    (unseen p ns (λ j. f (suc j)))

abbrev pub marks : List ℕ → ℕ → ℕ
marks ms j = get_or ms j 0
