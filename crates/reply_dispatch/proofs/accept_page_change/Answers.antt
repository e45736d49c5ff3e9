-- `reply_dispatch::accept_page_change` meets its contract. Assumes nothing.
use native.Mathlib.Omega.{arith}
use Rattle.reply_dispatch.proofs.accept_page_change.Goals as goal

pub returns-in-13 : goal.returns-in-13
returns-in-13 c =
    let a = c.args in
    (λ d h w held. c.accept_cut.ensures.0 d h w held a.request.now, omega arith)

pub returns-in_default : goal.returns-in_default
returns-in_default c =
    let a = c.args in
    (λ d h w held. c.accept_growth.ensures.0 d h w held a.request.now, omega arith)
