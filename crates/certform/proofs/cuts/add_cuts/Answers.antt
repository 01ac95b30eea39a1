use Rattle.std.proofs.Common.{refl}
use Rattle.certform.specs.Written.{with_cuts}
use Rattle.certform.proofs.Loops.{cuts_go, cuts_in}
use Rattle.certform.proofs.cuts.add_cuts.Goals as goal

pub loop-cut-preserved : goal.loop-cut-preserved
loop-cut-preserved c =
    cuts_go c.loop-cut.cuts.keys c.insert.new.self.keys _ (with_cuts (cuts_in c.args.cuts.now.keys) c.args.more.now) c.args.more.now c.loop-cut.cut-index c.loop-cut-item.result
    c.loop-cut-test.true c.loop-cut-item.is refl c.in_ok-insert.ensures.keys c.loop-cut.invariant
