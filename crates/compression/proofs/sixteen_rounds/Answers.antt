-- `compression::sixteen_rounds` meets its contract.
-- Assumes nothing.
use Rattle.std.proofs.Common.{add-zero}
use Rattle.compression.specs.Compression.{K}
use Rattle.compression.specs.Windows.{window}
use Rattle.compression.proofs.Congruence.{rolling_steps}
use Rattle.compression.proofs.sixteen_rounds.Goals as goal

pub returns : goal.returns
unfolding K window
returns c = rolling_steps _ (window K c.args.t) _
    (rw (add-zero c.args.t) c.one_round-s1.ensures) c.slide-w1.ensures
    c.one_round-s2.ensures c.slide-w2.ensures
    c.one_round-s3.ensures c.slide-w3.ensures
    c.one_round-s4.ensures c.slide-w4.ensures
    c.one_round-s5.ensures c.slide-w5.ensures
    c.one_round-s6.ensures c.slide-w6.ensures
    c.one_round-s7.ensures c.slide-w7.ensures
    c.one_round-s8.ensures c.slide-w8.ensures
    c.one_round-s9.ensures c.slide-w9.ensures
    c.one_round-s10.ensures c.slide-w10.ensures
    c.one_round-s11.ensures c.slide-w11.ensures
    c.one_round-s12.ensures c.slide-w12.ensures
    c.one_round-s13.ensures c.slide-w13.ensures
    c.one_round-s14.ensures c.slide-w14.ensures
    c.one_round-s15.ensures c.slide-w15.ensures
    c.one_round-s16.ensures c.slide-w16.ensures
