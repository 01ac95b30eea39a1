use Rattle.std.proofs.Common.{sym, ◌∙◌, arith}
use Rattle.tspinst.proofs.PointLemmas.{points_step}
use Rattle.tspinst.proofs.points.read_all.Goals as goal

pub loop-i-preserved : goal.loop-i-preserved
loop-i-preserved c =
    let read = rw c.in_ok-read_point.was at c.read_point.ensures in
    sym (points_step c.args.n _ _ _ _ (c.read_point.new.points, c.read_point.new.words) (omega arith) read) ∙ c.loop-i.invariant
