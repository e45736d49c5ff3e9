-- `reads::fetch` meets its contract. Assumes nothing.
use native.Mathlib.Omega.{arith}
use mathlib.Core.Path.{ap, ◌∙◌}
use Prim.Native.Nat.{ℕ}
use lib.ListN.{length}
use Rattle.rules.specs.Pages.{page_at}
use Rattle.rules.specs.Requests.{fetch_request}
use Rattle.rules.specs.Skeleton.{at_front}
use Rattle.outcomes.specs.declared.Outcome.TheVariants.{Ask}
use Rattle.reads.proofs.fetch.Goals as goal

pub returns : goal.returns
unfolding page_at
returns c =
    let a = c.args in (
      c.wait_read.ensures.0,
      omega arith,
      c.write_fetch-l.ensures.0 ∙ ap (λ (x : ℕ). at_front (fetch_request x (page_at a.position)) a.request.now)
          c.open_descriptor-descriptor.ensures,
      ap Ask (c.write_fetch-l.ensures.1 ∙ ap (λ (x : ℕ). length (fetch_request x (page_at a.position)))
          c.open_descriptor-descriptor.ensures),
    )
