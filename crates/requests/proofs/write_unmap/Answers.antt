-- `requests::write_unmap` meets its contract. Assumes nothing.
use native.Mathlib.Omega.{arith}
use mathlib.Core.Path.{refl}
use Rattle.lists.specs.LittleEndian.{encode}
use Rattle.lists.specs.PartLaws.{overwrite_cons}
use Rattle.rules.specs.Requests.{store_length}
use borrow.Author.Rules.{rules}
use Rattle.requests.proofs.write_unmap.Goals as goal

pub put_number-requires : goal.put_number-requires
unfolding store_length
put_number-requires c = search rules

pub bounds-out-0 : goal.bounds-out-0
unfolding store_length
bounds-out-0 c = search rules

pub returns : goal.returns
unfolding store_length
returns c =
    let a = c.args in (
      rw c.put_number.ensures (overwrite_cons 0 a.out.now 0 (encode 8 a.address) 15
          (omega arith)),
      refl,
    )
