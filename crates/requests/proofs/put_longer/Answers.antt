-- `requests::put_longer` meets its contract. Assumes nothing.
use mathlib.Core.Path.{◌∙◌}
use Rattle.lists.specs.LittleEndian.{encode}
use Rattle.requests.specs.laws.Heads.{behind_head}
use Rattle.requests.proofs.put_longer.Goals as goal

pub returns : goal.returns
returns c =
    let put-head = c.put_head in
    let a = c.args in
    c.put_number.ensures ∙ rw put-head.ensures (behind_head a.out.now a.kind a.descriptor
    (encode 4 a.number))
