-- `requests::put_zeros` meets its contract. Assumes nothing.
use native.Mathlib.Nat.{add-sub_cancel_left}
use native.Mathlib.Omega.{arith}
use mathlib.Core.Path.{◌≡◌, refl, ap, ◌∙◌}
use mathlib.Core.List.{◌∷◌}
use Prim.Native.Nat.{ℕ, zero, suc, ◌+◌, ◌-◌}
use lib.ListN.{length, replicate, take, drop, length-drop}
use lib.Seq.{drop-drop, length-take-le}
use Rattle.lists.specs.Cells.{tab, length-tab}
use Rattle.lists.specs.Parts.{overwrite}
use Rattle.requests.specs.StoredPages.{zeros}
use Rattle.requests.proofs.put_zeros.Goals as goal

all-zeros : (n : ℕ) → replicate n 0 ≡ zeros n
unfolding zeros tab
all-zeros zero = refl
all-zeros (suc n) = ap (λ l. 0 ∷ l) (all-zeros n)

length-zeros : (n : ℕ) → length (zeros n) ≡ n
unfolding zeros
length-zeros n = length-tab n _

pub returns : goal.returns
unfolding overwrite
returns c =
    let a = c.args in
    let l : length (take (a.at + a.n - a.at) (drop a.at a.out.now)) ≡ a.n =
    rw add-sub_cancel_left (length-take-le a.n (drop a.at a.out.now) (rw length-drop (omega arith))) in
    let e : c.fill.new.self ≡ zeros a.n = c.fill.ensures.after (λ y q. q) ∙ ap (λ k. replicate k 0) l ∙ all-zeros a.n in
    rw (add-sub_cancel_left, e, drop-drop a.n a.at a.out.now, length-zeros a.n)
