-- `page_changes::ask_page` meets its contract. Assumes nothing.
use native.Mathlib.Omega.{arith}
use mathlib.Core.Path.{ap, sym, ◌∙◌}
use Rattle.filesystem.specs.Tables.{OpenFile, open_at}
use Rattle.memory.specs.Layout.{mem_of}
use Rattle.rules.specs.Requests.{fetch_request}
use Rattle.machine.specs.Machine.{asking, guard as digest_store}
use Rattle.guard_state.specs.declared.Guard.{Guard}
use Rattle.guard_state.specs.State.{numbers_of, pending_in, state_of}
use Rattle.guard_state.specs.Onward.{goes_on}
use Rattle.guard_state.specs.laws.LoadedLaws.{open_loaded}
use Rattle.guard_state.specs.laws.Ranges.{in_range}
use Rattle.outcomes.specs.declared.Outcome.TheVariants.{Ask}
use Rattle.outcomes.specs.laws.SentLaws.{asking_sends}
use Rattle.page_changes.specs.laws.AskedLaws.{fetch_most}
use Rattle.page_changes.proofs.ask_page.Goals as goal

pub open_descriptor-d-requires : goal.open_descriptor-d-requires
open_descriptor-d-requires c = ((in_range _ _ c.load-g.ensures).opened, omega arith)

pub returns : goal.returns
returns c =
    let a = c.args in
    let p = pending_in (goes_on a.call a.page (numbers_of (mem_of a.m.now).head)) (mem_of a.m.now).staged in (
      λ q h.
          let s = state_of q a.m.now in
          let o = ap (λ (g : Guard). g.opened) c.load-g.ensures in
          let e = c.open_descriptor-d.ensures ∙ ap (λ i. (open_at (mem_of a.m.now).opens i).descriptor) o
          ∙ ap (λ (x : OpenFile). x.descriptor) (open_loaded a.m.now q _ h) in
          asking_sends q s _ p (fetch_request c.open_descriptor-d.result a.page) s.progress _ a.request.now _
          _ (ap (λ i. asking q (digest_store q) s (fetch_request i a.page) p s.progress) (sym e))
          (c.wait_further.ensures.0 q) c.write_fetch-l.ensures.0 (ap Ask c.write_fetch-l.ensures.1)
          (omega (arith, fetch_most c.open_descriptor-d.result a.page, c.requires.4)),
      omega arith,
    )
