-- `moves::is_barred` meets its contract. Assumes nothing.
use native.Mathlib.Omega.{arith}
use mathlib.Core.Path.{ap, sym, ◌∙◌}
use mathlib.Core.Bool.{not, ◌||◌}
use lib.ListN.{take}
use borrow.Author.Tests.{eq-eqb, ne_eqb}
use Rattle.filesystem.specs.Tables.{node_at, has_bit}
use Rattle.filesystem.specs.Ways.{or_first}
use Rattle.memory.specs.Layout.{mem_of}
use Rattle.moves.specs.laws.NumberLaws.{bit_front}
use Rattle.moves.proofs.is_barred.Goals as goal

pub returns-then-node_mode-ne1 : goal.returns-then-node_mode-ne1
returns-then-node_mode-ne1 c =
    let a = c.args in
    let ns = (mem_of a.m.now).nodes in
    sym (or_first _ _ (ap not (bit_front a.n ns a.from 2 _ (omega arith) c.node_mode.ensures
    ∙ ne_eqb _ 1 c.if-node_mode-ne1.true)))

pub returns : goal.returns
returns c =
    let a = c.args in
    let ns = (mem_of a.m.now).nodes in
    sym (ap (λ b. not b || not (has_bit 2 (node_at (take a.n ns) a.d)))
    (bit_front a.n ns a.from 2 _ (omega arith) c.node_mode.ensures
    ∙ eq-eqb _ 1 c.if-node_mode-ne1.false)
    ∙ ap not (bit_front a.n ns a.d 2 _ (omega arith) c.node_mode-2.ensures))
