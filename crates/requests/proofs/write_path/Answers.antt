-- `requests::write_path` meets its contract. Assumes nothing.
use native.Mathlib.Omega.{arith}
use mathlib.Core.Path.{◌≡◌, ap, sym, ◌∙◌}
use mathlib.Core.Bool.{true, false}
use mathlib.Core.List.{List}
use Prim.Native.Nat.{ℕ}
use lib.ListN.{length}
use Rattle.rules.specs.Requests.{store_length}
use Rattle.rules.specs.Skeleton.{at_front}
use Rattle.requests.specs.PathRequests.{has_number}
use Rattle.requests.specs.laws.PathRequestsLaws.{request_numbered, request_plain}
use Rattle.requests.proofs.write_path.Goals as goal

pub put_numbered-requires : goal.put_numbered-requires
unfolding store_length
put_numbered-requires c = omega arith

pub returns-then-has_number : goal.returns-then-has_number
returns-then-has_number c =
    let a = c.args in
    let e : has_number a.kind ≡ true = sym c.has_number.ensures ∙ c.if-has_number.true in
    let q = request_numbered a.kind a.number a.path.now e in (
      c.put_numbered.ensures.0 ∙ ap (λ (s : List ℕ). at_front s a.out.now) (sym q),
      omega
          (arith, c.put_numbered.ensures.1, ap length q),
    )

pub put_plain-requires : goal.put_plain-requires
unfolding store_length
put_plain-requires c = omega arith

pub returns : goal.returns
returns c =
    let a = c.args in
    let e : has_number a.kind ≡ false = sym c.has_number.ensures ∙ c.if-has_number.false in
    let q = request_plain a.kind a.number a.path.now e in (
      c.put_plain.ensures.0 ∙ ap (λ (s : List ℕ). at_front s a.out.now) (sym q),
      omega
          (arith, c.put_plain.ensures.1, ap length q),
    )
