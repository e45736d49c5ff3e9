-- A fitting move keeps the tables and the pending call valid, whatever is kept of pages.
-- Assumes nothing.
use Rattle.std.specs.Prelude.{◌≡◌, refl, ℕ, suc, ◌+◌, ◌-◌, ◌*◌, ◌≤◌, ◌<◌, ltb, leb}
use Rattle.std.proofs.Common.{sym, subst}
use mathlib.Core.List.{List, []}
use native.Mathlib.Omega.{arith}
use borrow.Author.Tests.{ltb-true, leb-false}
use Rattle.lists.specs.Pick.{pick_ind}
use Rattle.filesystem.specs.Image.{Image}
use Rattle.rules.specs.Pages.{Change, first, last, fetches, cuts, before}
use Rattle.rules.proofs.PageLaws.{fetch_in}
use Rattle.rules.proofs.FullLaws.{before_change}
use Rattle.rules.specs.Skeleton.{Config, Event}
use Rattle.rules.specs.Rules.{Move, loading}
use Rattle.machine.specs.Machine.{Store, State, Result, files, content_at, size_at, read_on, finish_change, pages_stored, ask_store, on_page, pages_from, cleared, trimmed, apply}
use Rattle.rules.specs.Valid.{ValidNodes, ValidTables, ReadingFits, ChangeFits, PageFits, Valid, Fits, f_refuse, f_halt, f_send, f_finish, f_add, f_delete, f_remap, f_read_page, f_begin, f_fill_page, f_stored, f_cut_done, f_keep_pages, f_give_up, f_saving, f_loading}
use Rattle.rules.proofs.TableLaws.{cursor_valid, change_valid, bare_valid}

module _ (c : Config) (S : Store) where
  abbrev Keeps : Result S → Type 0
  Keeps r = Valid c.width r.state.skeleton

  abbrev TablesValid : State S → Type 0
  TablesValid s = ValidTables c.width s.skeleton.tables

  abbrev Changes : State S → (k o : ℕ) → Change → Type 0
  Changes s k o q = ChangeFits s.skeleton.tables.nodes s.skeleton.tables.opens k o q

  finish_valid : (s : State S) (k o : ℕ) (q : Change) → TablesValid s → Changes s k o q → Keeps (finish_change c S s k o q)
  unfolding finish_change
  finish_valid s k o q v x = record { tables = change_valid c.width s.skeleton.tables k o q v x; pending = tt }

  stored_valid : (s : State S) (k o : ℕ) (q : Change) → TablesValid s → Changes s k o q → Keeps (pages_stored c S s k o q)
  unfolding pages_stored
  stored_valid s k o q v x = pick_ind Keeps (cuts q) (λ e. record { tables = v; pending = x }) (λ e. finish_valid s k o q v x)

  store_valid : (s : State S) (k o : ℕ) (q : Change) (i : ℕ) (r : List ℕ) → TablesValid s
      → PageFits s.skeleton.tables.nodes s.skeleton.tables.opens k o q i
      → Keeps (ask_store c S s k o q i r)
  unfolding ask_store
  store_valid s k o q i r v x = record { tables = v; pending = x }

  pages_valid : (s : State S) (k o : ℕ) (q : Change) (i : ℕ) → TablesValid s → Changes s k o q → first q ≤ i → Keeps (pages_from c S s k o q i)
  unfolding pages_from on_page
  pages_valid s k o q i v x h =
      pick_ind Keeps (ltb i (last q))
      (λ e.
      let l = ltb-true i (last q) e in
      let p : PageFits s.skeleton.tables.nodes s.skeleton.tables.opens k o q i = record { change = x; from = h; to = l } in
      pick_ind Keeps (fetches q (size_at c S s k) i)
      (λ e₂. record { tables = v; pending = record { page = p; old = fetch_in q (size_at c S s k) i x.fits h l e₂ } })
      (λ e₂. store_valid s k o q i [] v p))
      (λ e. stored_valid s k o q v x)

  read_valid : (s : State S) (k o p n i : ℕ) (a : S.Progress) → TablesValid s → ReadingFits s.skeleton.tables.nodes s.skeleton.tables.opens k o p n i
      → Keeps (read_on c S s k o p n i a)
  unfolding read_on
  read_valid s k o p n i a v x =
      pick_ind Keeps (leb (p + n) (i * 1024 + 1024))
      (λ e. record { tables = cursor_valid c.width s.skeleton.tables k o (p + n) v x.opened x.within; pending = tt })
      (λ e.
      let l : i * 1024 + 1024 < p + n = leb-false _ _ e in
      let f = x.from in
      record { tables = v; pending = record { opened = x.opened; within = x.within; from = omega arith; to = omega arith } })

pub keeps_valid : (c : Config) (S : Store) (s : State S) → Valid c.width s.skeleton → (m : Move) (e : Event) → Fits c s.skeleton e m
    → ((i : Image) (d : List ℕ) → m ≡ loading i d → ValidNodes c.width (S.restore s.saves i d (files c S s)).nodes) → Valid c.width (apply c S s m).state.skeleton
unfolding apply
keeps_valid c S s v m e (f_refuse f) l = v
keeps_valid c S s v m e (f_halt h n f) l = record { tables = v.tables; pending = tt }
keeps_valid c S s v m e (f_send p st k) l = record { tables = v.tables; pending = p }
keeps_valid c S s v m e (f_finish pl t z) l = record { tables = t; pending = tt }
keeps_valid c S s v m e (f_add pl z t) l = record { tables = t; pending = tt }
keeps_valid c S s v m e (f_delete pl t) l = record { tables = t; pending = tt }
keeps_valid c S s v m e (f_remap pl) l = record { tables = v.tables; pending = tt }
keeps_valid c S s v m e (f_read_page {k = k} {o = o} {p = p} {n = n} {i = i} {r = r} he w len x) l =
    pick_ind (Keeps c S) (S.is_page (content_at c S s k) i r) (λ t. read_valid c S s k o p n i _ v.tables x) (λ t. record { tables = v.tables; pending = tt })
keeps_valid c S s v m e (f_begin {k = k} {o = o} {q = q} pl x) l = pages_valid c S (cleared c S s) k o q (first q) v.tables x (omega arith)
keeps_valid c S s v m e (f_fill_page {k = k} {o = o} {q = q} {i = i} {r = r} he w len x) l =
    pick_ind (Keeps c S) (S.is_page (content_at c S s k) i r) (λ t. store_valid c S s k o q i r v.tables x.page) (λ t. record { tables = v.tables; pending = tt })
keeps_valid c S s v m e (f_stored {k = k} {o = o} {q = q} {i = i} pl w x) l = pages_valid c S s k o q (suc i) v.tables x.change (let h = x.from in omega arith)
keeps_valid c S s v m e (f_cut_done {k = k} {o = o} {q = q} pl w x) l = finish_valid c S s k o q v.tables x
keeps_valid c S s v m e (f_keep_pages {k = k} {o = o} {q = q} {i = i} pl w x t h) l =
    finish_valid c S (trimmed c S s (i - first q)) k o (before q i) v.tables (before_change _ _ k o q i x t h)
keeps_valid c S s v m e (f_give_up he f) l = record { tables = v.tables; pending = tt }
keeps_valid c S s v m e (f_saving he w z) l = record { tables = v.tables; pending = tt }
keeps_valid c S s v m e (f_loading {i = i} {d = d} he z hd hp) l = record {
  tables = subst (λ os. ValidTables c.width (record { nodes = (S.restore s.saves i d (files c S s)).nodes; opens = os })) (sym z) (bare_valid c.width _ (l i d refl));
  pending = tt;
}
