-- `requests::put_store` meets its contract. Assumes nothing.
use mathlib.Core.Path.{◌∙◌}
use Rattle.lists.specs.LittleEndian.{encode}
use Rattle.requests.specs.laws.Heads.{behind_longer}
use Rattle.requests.proofs.put_store.Goals as goal

pub returns : goal.returns
returns c =
    let put-longer = c.put_longer in
    let a = c.args in
    c.put_number.ensures
    ∙ rw put-longer.ensures (behind_longer a.out.now 7 a.descriptor a.i (encode 4 a.size))
