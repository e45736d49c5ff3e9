-- `path_calls::begin_on_node` meets its contract. Assumes nothing.
use native.Mathlib.Omega.{arith}
use mathlib.Core.Path.{refl, ap, sym, ◌∙◌}
use Rattle.rules.specs.Requests.{store_length}
use Rattle.refusals.specs.Numbers.{numbered}
use Rattle.guard_state.specs.State.{state_of}
use Rattle.path_calls.specs.laws.BegunLaws.{request_most, refused_sends, node_sends}
use Rattle.path_calls.proofs.begin_on_node.Goals as goal

pub send_on_node-requires : goal.send_on_node-requires
send_on_node-requires c =
    let p = c.requires.1 _ (ap numbered c.in-Ok.is) in
    (c.requires.0, p.0, p.1, c.requires.2, c.requires.3)

pub returns-in-Ok : goal.returns-in-Ok
unfolding store_length
returns-in-Ok c =
    let a = c.args in
    let p = c.requires.1 _ (ap numbered c.in-Ok.is) in
    let l = request_most a.kind a.number a.path.now in (
      λ q make e itself.
          node_sends q (state_of q a.m.now) a.path.now make a.call a.kind a.number itself _ _ _
          a.request.now _ _ e (ap numbered c.in-Ok.is)
          (c.send_on_node.ensures.0 q) c.send_on_node.ensures.2 c.send_on_node.ensures.3
          (omega (arith, l, p.1)),
      omega arith,
    )

pub returns-in-Err : goal.returns-in-Err
returns-in-Err c =
    let a = c.args in (
      λ q make e itself.
          refused_sends q (state_of q a.m.now) a.path.now make _ a.m.now a.request.now
          (ap numbered (sym c.in-Err.is) ∙ e) refl,
      refl,
    )
