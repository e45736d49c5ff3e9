-- `guard::take_reply` meets its contract. Assumes nothing.
use native.Mathlib.Omega.{arith}
use mathlib.Core.Path.{ap, refl, sym, ◌∙◌}
use lib.ListN.{length}
use Rattle.configuration.specs.Delivered.{delivered}
use Rattle.guard.specs.Promise.{held}
use Rattle.guard.specs.laws.Tested.{pending_number}
use Rattle.guard.specs.laws.EventLaws.{long_enough, store_room, answer_room, reply_short, reply_read}
use Rattle.guard.specs.laws.EntryLaws.{digest-delivered, width_delivered, reply_behind, turned, refused_as_lem}
use Rattle.guard.specs.laws.EntryLaws.{taken_as, reply_ready}
use Rattle.refusals.specs.Numbers.{number_or_0}
use Rattle.refusals.specs.declared.Refusal.TheVariants.{ShortBuffer}
use Rattle.guard.proofs.take_reply.Goals as goal

pub returns-in-Some : goal.returns-in-Some
returns-in-Some c =
    let a = c.args in record {
      takes = turned a.m.now a.answer.now a.request.now (reply_behind (held a.m.now) a.bytes.now _ _)
          c.first_refusal.ensures _ (ap number_or_0 c.in-Some.is);
      keeps_length = refl;
    }

pub returns-then-is_short : goal.returns-then-is_short
returns-then-is_short c =
    let a = c.args in record {
      takes = refused_as_lem a.m.now a.answer.now a.request.now (reply_behind (held a.m.now) a.bytes.now _ _)
          c.first_refusal.ensures (ap number_or_0 c.in_default.is) ShortBuffer
          (reply_short delivered (held a.m.now) a.bytes.now _ _ (sym c.is_short.ensures ∙ c.if-is_short.true));
      keeps_length = refl;
    }

pub accept_reply-o-requires : goal.accept_reply-o-requires
accept_reply-o-requires c =
    let a = c.args in
    let z = long_enough (length a.answer.now) (length a.request.now)
    (sym c.is_short.ensures ∙ c.if-is_short.false) in
    (omega arith, answer_room _ z.0, store_room _ z.1)

pub returns : goal.returns
returns c =
    let a = c.args in
    let s = held a.m.now in
    let z = long_enough (length a.answer.now) (length a.request.now)
    (sym c.is_short.ensures ∙ c.if-is_short.false) in
    let w = sym c.first_refusal.ensures ∙ (ap number_or_0 c.in_default.is) in
    let n = pending_number a.m.now w in record {
      takes = taken_as a.m.now a.answer.now a.request.now (reply_behind s a.bytes.now _ _)
          c.first_refusal.ensures (ap number_or_0 c.in_default.is)
          (reply_read delivered s a.bytes.now _ _ (sym c.is_short.ensures ∙ c.if-is_short.false)) _ _ _ _ _ _
          c.settle.ensures.value.0 c.settle.ensures.value.1
          (λ k. c.accept_reply-o.ensures.0 delivered digest-delivered width_delivered
          (reply_ready s a.bytes.now _ _ z.0 z.1 w k) n.0 n.1 z.0);
      keeps_length = omega arith;
    }
