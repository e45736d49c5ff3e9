-- Each change of the tables keeps them valid.
-- Assumes nothing.
use Rattle.std.specs.Prelude.{◌≡◌, true, List, [], ◌∷◌, ◌++◌, ℕ, ◌^◌, ◌≤◌, ◌<◌, length, get_or, set}
use Rattle.std.proofs.Math.Path.{refl}
use Rattle.std.proofs.Common.{ap, sym, ◌∙◌, subst, arith, length-append, length-set, get_or-set_same, get_or-set_other}
use Rattle.std.proofs.Math.Dec.{eqb}
use Rattle.std.proofs.Math.ListN.{get_or-map}
use Rattle.std.proofs.Math.Seq.{map-set_same}
use borrow.Author.Tests.{eqb-true, eq-eqb, eqb-false}
use Rattle.lists.specs.All.{All, both, none, all_append, all_set}
use Rattle.lists.specs.Search.{unique, without}
use Rattle.lists.specs.Places.{none_place, all_place, all_put, at_all, unique_same, unskip, length_without, get_or-without, all_without, unique-without, unique_snoc, unique-set}
use Rattle.filesystem.specs.Tables.{Node, no_node, OpenFile, no_open_file, Tables, is_file, has_handle, has_descriptor, node_at, open_at, find_id, find_child, find_handle, find_descriptor, new_node, new_open_file, with_mode, with_size, with_cursor, set_mode, set_size, set_cursor, root}
use Rattle.filesystem.specs.Tables.{with_place, renamed}
use Rattle.filesystem.specs.Image.{sound_nodes}
use Rattle.filesystem.specs.Sound.{to_sound, find_id_only, find_id-has, node_at-append}
use Rattle.filesystem.specs.SoundLaws.{sound-root, sound-set_mode, sound-set_size, sound-without, empty_childless, Addable, sound-add}
use Rattle.rules.specs.Pages.{Change, writing, shrinking, growing, size_after, cursor_after, FitsSize}
use Rattle.filesystem.specs.Renaming.{sound-renamed}
use Rattle.rules.specs.Skeleton.{fresh_skeleton}
use Rattle.rules.specs.Valid.{ValidOpen, same_handle, same_descriptor, ValidNodes, ValidTables, CreatingFits, OpeningFits, RemovingFits, ChangingFits, Opened, ChangeFits, Valid}
use Rattle.rules.specs.Valid.{RenamingFits}

-- the open file is the file in place j
record OpenAt (ns : List Node) (o : OpenFile) (j : ℕ) : Type 0 where
  place : j < length ns
  is_id : (node_at ns j).id ≡ o.handle
  is_kind : (node_at ns j).kind ≡ 1
  inside : o.cursor ≤ (node_at ns j).size
  descriptor_low : o.descriptor < 1024

to_place : (ns : List Node) (o : OpenFile) → ValidOpen ns o → OpenAt ns o (find_id ns o.handle)
to_place ns o v = record { place = v.known; is_id = find_id-has ns o.handle v.known; is_kind = eqb-true _ _ v.is_file_lem; inside = v.cursor_inside; descriptor_low = v.low }

module _ (w : ℕ) (ns : List Node) (e : sound_nodes w ns ≡ true) where
  find_place : (x j : ℕ) → j < length ns → (node_at ns j).id ≡ x → find_id ns x ≡ j
  find_place x j h q = ap (find_id ns) (sym q) ∙ find_id_only ns j h (λ i l t. (to_sound w ns e).ids i j l h t)

  of_place : (o : OpenFile) (j : ℕ) → OpenAt ns o j → ValidOpen ns o
  of_place o j p =
      let f : j ≡ find_id ns o.handle = sym (find_place o.handle j p.place p.is_id) in
      record {
        known = subst (λ i. i < length ns) f p.place;
        is_file_lem = subst (λ i. is_file (node_at ns i) ≡ true) f (eq-eqb _ _ p.is_kind);
        cursor_inside = subst (λ i. o.cursor ≤ (node_at ns i).size) f p.inside;
        low = p.descriptor_low;
      }

-- what is in a node that another one is put in place of, where that has the same
field-set : {B : Type 0} (f : Node → B) (ns : List Node) (k : ℕ) (y : Node) (j : ℕ) → f y ≡ f (node_at ns k) → f (node_at (set ns k y) j) ≡ f (node_at ns j)
unfolding node_at
field-set f ns k y j e = sym (get_or-map f (set ns k y) j no_node) ∙ (ap (λ l. get_or l j (f no_node)) (map-set_same f ns k y no_node e) ∙ get_or-map f ns j no_node)

-- an open file, perhaps with another cursor, where a node has another mode or size
place_set : (ns : List Node) (k : ℕ) (y : Node) → y.id ≡ (node_at ns k).id → y.kind ≡ (node_at ns k).kind → (o : OpenFile) (c j : ℕ) → OpenAt ns o j
    → c ≤ (node_at (set ns k y) j).size → OpenAt (set ns k y) (with_cursor c o) j
place_set ns k y e f o c j p l = record {
  place = rw (length-set ns k y) p.place;
  is_id = field-set (λ n. n.id) ns k y j e ∙ p.is_id;
  is_kind = field-set (λ n. n.kind) ns k y j f ∙ p.is_kind;
  inside = l;
  descriptor_low = p.descriptor_low;
}

module _ (w : ℕ) (t : Tables) (v : ValidTables w t) where
  valid_at : (o : ℕ) → o < length t.opens → ValidOpen t.nodes (open_at t.opens o)
  unfolding open_at
  valid_at o h = all_place no_open_file o v.opened h

  -- open files differ in their handles
  handles_apart : (i o : ℕ) → i < length t.opens → o < length t.opens → (open_at t.opens i).handle ≡ (open_at t.opens o).handle → i ≡ o
  unfolding open_at
  handles_apart i o h l e = unique_same same_handle no_open_file (λ x y q. eq-eqb y.handle x.handle (sym (eqb-true x.handle y.handle q))) t.opens i o v.once h l (eq-eqb _ _ e)

  -- other nodes, of which each open file is one
  nodes_changed : (ns : List Node) → ValidNodes w ns → ((i : ℕ) → i < length t.opens → ValidOpen ns (open_at t.opens i))
      → ValidTables w (record { nodes = ns; opens = t.opens })
  unfolding open_at
  nodes_changed ns n f = record { nodes_valid = n; opened = at_all no_open_file t.opens f; once = v.once; apart = v.apart; few = v.few }

  -- another cursor in place o, and other nodes
  moved : (ns : List Node) (o p : ℕ) → ValidNodes w ns → All (ValidOpen ns) (set_cursor t.opens o p)
      → ValidTables w (record { nodes = ns; opens = set_cursor t.opens o p })
  unfolding set_cursor open_at
  moved ns o p n a =
      let y = with_cursor p (open_at t.opens o) in
      record {
        nodes_valid = n;
        opened = a;
        once = unique-set (λ x. x.handle) eqb no_open_file t.opens o y refl v.once;
        apart = unique-set (λ x. x.descriptor) eqb no_open_file t.opens o y refl v.apart;
        few = rw (length-set t.opens o y) v.few;
      }

pub cursor_valid : (w : ℕ) (t : Tables) (k o p : ℕ) → ValidTables w t → Opened t.nodes t.opens k o → p ≤ (node_at t.nodes k).size
    → ValidTables w (record { nodes = t.nodes; opens = set_cursor t.opens o p })
unfolding set_cursor
cursor_valid w t k o p v x l =
    let z = valid_at w t v o x.open_known in
    moved w t v t.nodes o p v.nodes_valid
    (all_set o _ (record { known = z.known; is_file_lem = z.is_file_lem; cursor_inside = subst (λ j. p ≤ (node_at t.nodes j).size) (sym x.same) l; low = z.low }) v.opened)

cursor_most : (q : Change) (size cursor : ℕ) → FitsSize q size → cursor ≤ size → cursor_after q cursor ≤ size_after q size
unfolding cursor_after size_after
cursor_most (writing p d) size cursor f h = omega arith
cursor_most (shrinking n) size cursor f h = omega arith
cursor_most (growing n) size cursor f h = omega arith

pub change_valid : (w : ℕ) (t : Tables) (k o : ℕ) (q : Change) → ValidTables w t → ChangeFits t.nodes t.opens k o q
    → ValidTables w (record { nodes = set_size t.nodes k (size_after q (node_at t.nodes k).size); opens = set_cursor t.opens o (cursor_after q (open_at t.opens o).cursor) })
unfolding set_size set_cursor node_at open_at
change_valid w t k o q v x =
    moved w t v ms o c valid
    (all_put no_open_file os o _
    (of_place w ms valid.sound _ k (place_set ns k n refl refl (open_at os o) c k z
    (rw (get_or-set_same ns k n no_node x.opened.known) (cursor_most q (node_at ns k).size (open_at os o).cursor x.fits z.inside))))
    (λ i h d. others i h (λ e. d (handles_apart w t v i o h x.opened.open_known (sym (find i h).is_id ∙ (ap (λ j. (node_at ns j).id) e ∙ z.is_id))))))
  where
    ns : List Node
    ns = t.nodes

    os : List OpenFile
    os = t.opens

    n : Node
    n = with_size (size_after q (node_at ns k).size) (node_at ns k)

    ms : List Node
    ms = set ns k n

    c : ℕ
    c = cursor_after q (open_at os o).cursor

    find : (i : ℕ) → i < length os → OpenAt ns (open_at os i) (find_id ns (open_at os i).handle)
    find i h = to_place ns (open_at os i) (valid_at w t v i h)

    z : OpenAt ns (open_at os o) k
    z = subst (OpenAt ns (open_at os o)) x.opened.same (find o x.opened.open_known)

    valid : ValidNodes w ms
    valid = record {
      sound = sound-set_size w ns k _ v.nodes_valid.sound x.opened.known (eq-eqb _ _ z.is_kind) x.most x.room;
      named = all_set k n (all_place no_node k v.nodes_valid.named x.opened.known) v.nodes_valid.named;
    }

    others : (i : ℕ) → i < length os → (find_id ns (open_at os i).handle ≡ k → ⊥) → ValidOpen ms (open_at os i)
    others i h d =
        let j = find_id ns (open_at os i).handle in
        of_place w ms valid.sound (open_at os i) j
        (place_set ns k n refl refl (open_at os i) (open_at os i).cursor j (find i h) (rw (get_or-set_other ns k j n no_node d) (find i h).inside))

pub open_valid : (w : ℕ) (t : Tables) (k rights d : ℕ) → ValidTables w t → OpeningFits t.nodes t.opens k rights → d < 1024
    → length t.opens ≤ find_descriptor t.opens d
    → ValidTables w (record { nodes = t.nodes; opens = t.opens ++ (new_open_file (node_at t.nodes k).id d rights ∷ []) })
unfolding find_handle find_descriptor
open_valid w t k rights d v x l new =
    let o = new_open_file (node_at t.nodes k).id d rights in
    record {
      nodes_valid = v.nodes_valid;
      opened = all_append v.opened
          (both (of_place w t.nodes v.nodes_valid.sound o k (record { place = x.known; is_id = refl; is_kind = eqb-true _ _ x.is_file_lem; inside = omega arith; descriptor_low = l })) none);
      once = unique_snoc same_handle no_open_file t.opens o v.once (λ i h. none_place (has_handle (node_at t.nodes k).id) no_open_file t.opens i x.closed h);
      apart = unique_snoc same_descriptor no_open_file t.opens o v.apart (λ i h. none_place (has_descriptor d) no_open_file t.opens i new h);
      few = rw length-append (let r = x.room in omega arith);
    }

pub close_valid : (w : ℕ) (t : Tables) (o : ℕ) → ValidTables w t → o < length t.opens
    → ValidTables w (record { nodes = t.nodes; opens = without o t.opens })
close_valid w t o v h = record {
  nodes_valid = v.nodes_valid;
  opened = all_without o v.opened;
  once = unique-without same_handle no_open_file o t.opens h v.once;
  apart = unique-without same_descriptor no_open_file o t.opens h v.apart;
  few = let n = length_without o t.opens h in let f = v.few in omega arith;
}

pub mode_valid : (w : ℕ) (t : Tables) (k m : ℕ) → ValidTables w t → ChangingFits t.nodes t.opens k m
    → ValidTables w (record { nodes = set_mode t.nodes k m; opens = t.opens })
unfolding set_mode node_at
mode_valid w t k m v x = nodes_changed w t v ms valid (λ i h. same (open_at t.opens i) (valid_at w t v i h))
  where
    n : Node
    n = with_mode m (node_at t.nodes k)

    ms : List Node
    ms = set t.nodes k n

    valid : ValidNodes w ms
    valid = record {
      sound = sound-set_mode w t.nodes k m v.nodes_valid.sound x.known x.modes;
      named = all_set k n (all_place no_node k v.nodes_valid.named x.known) v.nodes_valid.named;
    }

    same : (o : OpenFile) → ValidOpen t.nodes o → ValidOpen ms o
    same o p =
        let j = find_id t.nodes o.handle in
        of_place w ms valid.sound o j
        (place_set t.nodes k n refl refl o o.cursor j (to_place t.nodes o p)
        (rw (field-set (λ n. n.size) t.nodes k n j refl) p.cursor_inside))

-- a renamed file stays open
pub rename_valid : (w : ℕ) (t : Tables) (k p : ℕ) (name : List ℕ) → ValidTables w t
    → RenamingFits t.nodes t.opens k p name
    → ValidTables w (record { nodes = renamed t.nodes k p name; opens = t.opens })
unfolding renamed node_at
rename_valid w t k p name v x = nodes_changed w t v ms valid (λ i h. same (open_at t.opens i) (valid_at w t v i h))
  where
    n : Node
    n = with_place p name (node_at t.nodes k)

    ms : List Node
    ms = set t.nodes k n

    valid : ValidNodes w ms
    valid = record {
      sound = subst (λ p. sound_nodes w (renamed t.nodes k p name) ≡ true) x.is_parent
          (sound-renamed w t.nodes k x.at name v.nodes_valid.sound x.movable);
      named = all_set k n x.bytes v.nodes_valid.named;
    }

    same : (o : OpenFile) → ValidOpen t.nodes o → ValidOpen ms o
    same o p =
        let j = find_id t.nodes o.handle in
        of_place w ms valid.sound o j
        (place_set t.nodes k n refl refl o o.cursor j (to_place t.nodes o p)
        (rw (field-set (λ n. n.size) t.nodes k n j refl) p.cursor_inside))

-- a file that is open keeps its place, or has another
place-moved : (ns ms : List Node) (o : OpenFile) (j i : ℕ) → i < length ms → node_at ms i ≡ node_at ns j → OpenAt ns o j → OpenAt ms o i
place-moved ns ms o j i h e p = record {
  place = h;
  is_id = ap (λ n. n.id) e ∙ p.is_id;
  is_kind = ap (λ n. n.kind) e ∙ p.is_kind;
  inside = subst (λ n. o.cursor ≤ n.size) (sym e) p.inside;
  descriptor_low = p.descriptor_low;
}

pub add_valid : (w : ℕ) (t : Tables) (p k m : ℕ) (name : List ℕ) (x : ℕ) → ValidTables w t → CreatingFits t.nodes t.opens p k m name → 0 < x → x < 256 ^ w
    → length t.nodes ≤ find_id t.nodes x → ValidTables w (record { nodes = t.nodes ++ (new_node x p k m name ∷ []); opens = t.opens })
add_valid w t p k m name x v f some fits new = nodes_changed w t v ms valid (λ i h. same (open_at t.opens i) (valid_at w t v i h))
  where
    ns : List Node
    ns = t.nodes

    ms : List Node
    ms = ns ++ (new_node x p k m name ∷ [])

    addable : Addable w ns f.at x k m name
    addable = record {
      place = f.known;
      folder = f.directory;
      form = f.form;
      short = f.short;
      new-name = subst (λ p. length ns ≤ find_child ns p name) (sym f.is_parent) f.new;
      some_id = some;
      id_fits = fits;
      new_id_lem = new;
      room = f.room;
      kinds = f.kinds;
      mode_fits = f.modes;
      path = let h = f.path_short in omega arith;
    }

    valid : ValidNodes w ms
    valid = record {
      sound = subst (λ p. sound_nodes w (ns ++ (new_node x p k m name ∷ [])) ≡ true) f.is_parent (sound-add w ns f.at x k m name v.nodes_valid.sound addable);
      named = all_append v.nodes_valid.named (both f.bytes none);
    }

    same : (o : OpenFile) → ValidOpen ns o → ValidOpen ms o
    same o q =
        let j = find_id ns o.handle in
        let h = q.known in
        of_place w ms valid.sound o j (place-moved ns ms o j j (rw length-append (omega arith)) (node_at-append ns _ j h) (to_place ns o q))

pub delete_valid : (w : ℕ) (t : Tables) (k : ℕ) → ValidTables w t → RemovingFits t.nodes t.opens k
    → ValidTables w (record { nodes = without k t.nodes; opens = t.opens })
unfolding node_at open_at find_handle
delete_valid w t k v x = nodes_changed w t v ms valid (λ i h. other i h (to_place ns (open_at os i) (valid_at w t v i h)))
  where
    ns : List Node
    ns = t.nodes

    os : List OpenFile
    os = t.opens

    ms : List Node
    ms = without k ns

    valid : ValidNodes w ms
    valid = record {
      sound = sound-without w ns k x.known v.nodes_valid.sound x.not_root (empty_childless ns k x.empty);
      named = all_without k v.nodes_valid.named;
    }

    other : (i : ℕ) → i < length os → OpenAt ns (open_at os i) (find_id ns (open_at os i).handle) → ValidOpen ms (open_at os i)
    other i h p =
        let j = find_id ns (open_at os i).handle in
        let n = length_without k ns x.known in
        let (g, l, e) = unskip k j (length ms) (λ e. eqb-false (open_at os i).handle (node_at ns k).id (none_place (has_handle (node_at ns k).id) no_open_file os i x.closed h)
        (sym p.is_id ∙ ap (λ j. (node_at ns j).id) e)) (let q = p.place in omega arith) (let q = x.known in omega arith) in
        of_place w ms valid.sound (open_at os i) g (place-moved ns ms (open_at os i) j g l (get_or-without k ns g no_node x.known ∙ ap (node_at ns) e) p)

pub bare_valid : (w : ℕ) (ns : List Node) → ValidNodes w ns → ValidTables w (record { nodes = ns; opens = [] })
unfolding unique
bare_valid w ns n = record { nodes_valid = n; opened = none; once = refl; apart = refl; few = omega arith }

pub fresh_valid : (w : ℕ) → 1 ≤ w → Valid w fresh_skeleton
fresh_valid w h = record { tables = bare_valid w (root ∷ []) (record { sound = sound-root w h; named = both none none }); pending = tt }
