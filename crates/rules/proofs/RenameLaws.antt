-- Where paths lead after a renaming that is not refused.
-- Assumes nothing.
use Rattle.std.specs.Prelude.{◌≡◌, true, ◌≤◌, ◌<◌}
use Rattle.std.proofs.Math.Path.{refl, subst}
use Rattle.std.proofs.Common.{sym, arith}
use Rattle.std.proofs.Math.Bool.{false}
use Rattle.std.proofs.lemmas.Bool.{false≢true}
use mathlib.Core.List.{List, [], ◌∷◌, ◌++◌}
use Rattle.std.proofs.Math.ListN.{length}
use borrow.Author.Tests.{eqb-true, lt-leb}
use Rattle.lists.specs.Equal.{equal}
use Rattle.lists.specs.All.{All, both, all_left, all_right, all_append}
use Rattle.lists.specs.Search.{every}
use Rattle.lists.specs.Checks.{Passed}
use Rattle.filesystem.specs.Tables.{Node, renamed}
use Rattle.filesystem.specs.Paths.{Path, component_form, too_long, walk, walk_checks, parent_checks, parent_of, last_of}
use Rattle.filesystem.specs.PathLaws.{walk-place, walk_checks_parent}
use Rattle.filesystem.specs.Image.{beneath}
use Rattle.filesystem.specs.Sound.{Sound, to_sound}
use Rattle.filesystem.specs.Renaming.{Movable}
use Rattle.filesystem.specs.RenamedWalks.{path_stays, renamed-walk, left-absent, one_path}
use Rattle.rules.specs.Calls.{rename}
use Rattle.rules.proofs.CallLaws.{PathFits}
use Rattle.rules.specs.Skeleton.{Config, Skeleton}
use Rattle.rules.specs.Rules.{holder, same_path, rename_checks, call_checks}
use Rattle.rules.specs.Valid.{ValidTables}
use Rattle.rules.proofs.FitLaws.{rename_movable}

module _ (c : Config) (sk : Skeleton) (v : ValidTables c.width sk.tables) (p q : Path) (fits : PathFits q)
    (passed : Passed (call_checks sk.tables (rename p q))) where
  abbrev ns : List Node
  ns = sk.tables.nodes

  s : Sound c.width sk.tables.nodes
  s = to_sound c.width sk.tables.nodes v.nodes_valid.sound

  short : too_long q ≡ false
  unfolding call_checks
  short = go passed
    where
      go : Passed (call_checks sk.tables (rename p q)) → too_long q ≡ false
      go (both _ (both e _)) = e

  walked : Passed (walk_checks ns 0 p) × (Passed (parent_checks ns 0 q) × Passed (rename_checks sk.tables p q))
  unfolding call_checks
  walked = go passed
    where
      go : Passed (call_checks sk.tables (rename p q)) → Passed (walk_checks ns 0 p)
          × (Passed (parent_checks ns 0 q) × Passed (rename_checks sk.tables p q))
      go (both _ (both _ a)) =
          let b = all_right (walk_checks ns 0 p) _ a in
          (all_left (walk_checks ns 0 p) _ a, (all_left (parent_checks ns 0 q) _ b, all_right (parent_checks ns 0 q) _ b))

  -- only a node's own path counts as the same
  pub same_path_lem : same_path sk.tables p q ≡ true → p ≡ q
  unfolding walk_checks
  same_path_lem e =
      let z = eqb-true _ _ e in
      one_path c.width ns s p q walked.0 (go q walked.1.0
      (subst (λ i. i < length ns) (sym z) (walk-place ns 0 p walked.0 s.has-root))) (sym z)
    where
      go : (q : Path) → Passed (parent_checks ns 0 q) → walk ns 0 q < length ns → Passed (walk_checks ns 0 q)
      go [] a l = All.none
      go (n ∷ q) a l = subst Passed (sym (walk_checks_parent ns 0 n q))
          (all_append a (both (lt-leb (length ns) (walk ns 0 (n ∷ q)) l) All.none))

  module _ (other : same_path sk.tables p q ≡ false) where
    abbrev after : List Node
    after = renamed ns (walk ns 0 p) (holder sk.tables q).id (last_of q)

    movable : Movable ns (walk ns 0 p) (parent_of ns 0 q) (last_of q)
    movable = rename_movable c sk v p q fits short walked.0 walked.1.0 walked.1.1 other

    -- behind the new path each path leads where it led behind the old one
    pub rename_moves : (rest : Path) → every component_form rest ≡ true
        → walk after 0 (q ++ rest) ≡ walk ns 0 (p ++ rest)
    unfolding last_of component_form equal
    rename_moves rest e = go q movable walked.1.0
      where
        go : (q : Path) → Movable ns (walk ns 0 p) (parent_of ns 0 q) (last_of q) → Passed (parent_checks ns 0 q)
            → walk (renamed ns (walk ns 0 p) (holder sk.tables q).id (last_of q)) 0 (q ++ rest) ≡ walk ns 0
            (p ++ rest)
        go [] m a = absurd (false≢true m.form)
        go (n ∷ q) m a = renamed-walk c.width ns (walk ns 0 p) (parent_of ns 0 (n ∷ q))
            (last_of (n ∷ q)) m s p n q rest refl a refl refl e

    -- the old path, and each behind it, leads nowhere
    pub rename_leaves : (rest : Path) → every component_form rest ≡ true → length after ≤ walk after 0 (p ++ rest)
    rename_leaves rest e = go p movable walked.0
      where
        go : (p : Path) → Movable ns (walk ns 0 p) (parent_of ns 0 q) (last_of q) → Passed (walk_checks ns 0 p)
            → length (renamed ns (walk ns 0 p) (holder sk.tables q).id (last_of q)) ≤ walk
            (renamed ns (walk ns 0 p) (holder sk.tables q).id (last_of q)) 0 (p ++ rest)
        go [] m a = let z = m.not_root in absurd (unfold walk in omega arith)
        go (n ∷ p) m a = left-absent c.width ns (walk ns 0 (n ∷ p)) (parent_of ns 0 q)
            (last_of q) m s n p rest a refl e

    -- every path to a node neither this one nor beneath it leads there still, and is checked as it was
    pub rename_keeps : (r : Path) → Passed (walk_checks ns 0 r) → beneath ns (walk ns 0 p) (walk ns 0 r) ≡ false
        → (walk after 0 r ≡ walk ns 0 r) × (walk_checks after 0 r ≡ walk_checks ns 0 r)
    rename_keeps r a e = path_stays c.width ns (walk ns 0 p) (parent_of ns 0 q) (last_of q) movable s r a e
