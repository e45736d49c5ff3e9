-- `digest::finish` meets its contract: one padded block, or two.
-- Assumes nothing.
use mathlib.Core.Path.{◌∙◌}
use Rattle.digest.proofs.Endings.{one_block, two_blocks}
use Rattle.digest.proofs.finish.Goals as goal

pub returns-then-rest-lt56 : goal.returns-then-rest-lt56
returns-then-rest-lt56 c =
    let a = c.args in
    c.state_bytes.ensures
    ∙ one_block a.s a.rest.now a.n c.last_blocks-t.result c.absorb-h.result
    c.next_hash-h1.result
    c.last_blocks-t.ensures c.absorb-h.ensures c.next_hash-h1.ensures
    c.if-rest-lt56.true

pub returns-else-rest-lt56 : goal.returns-else-rest-lt56
returns-else-rest-lt56 c =
    let a = c.args in
    c.state_bytes-else-rest-lt56.ensures
    ∙ two_blocks a.s a.rest.now a.n c.last_blocks-t.result c.absorb-h.result
    c.next_hash-h1.result
    c.last_blocks-t.ensures c.absorb-h.ensures
    c.next_hash-h1.ensures
    c.next_hash.result c.next_hash.ensures c.if-rest-lt56.false
