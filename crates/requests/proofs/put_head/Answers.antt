-- `requests::put_head` meets its contract. Assumes nothing.
use Rattle.lists.specs.LittleEndian.{encode}
use Rattle.lists.specs.PartLaws.{overwrite_cons}
use native.Mathlib.Omega.{arith}
use Rattle.requests.proofs.put_head.Goals as goal

pub returns : goal.returns
returns c =
    let a = c.args in
    rw c.put_number.ensures (overwrite_cons 0 a.out.now 0 (encode 4 a.descriptor) a.kind
    (omega arith))
