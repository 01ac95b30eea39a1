use Rattle.std.proofs.Common.{arith}
use Rattle.distx.specs.Kind.{rule_of}
use Rattle.tspinst.proofs.FillLemmas.{fill_step, own_point}
use Rattle.tspinst.proofs.square.fill_row.Goals as goal

pub loop-v-preserved : goal.loop-v-preserved
loop-v-preserved c =
    let here = own_point c.args.points.now c.args.u c.index-points-u.result (omega arith) c.index-points-u.is in
    let there = own_point c.args.points.now c.loop-v.v c.index-points-v.result (omega arith) c.index-points-v.is in
    record {
      table = c.set_distance.ensures.table;
      fills = fill_step (rule_of c.args.kind) _ _ _ _ _ c.dist.result c.loop-v.invariant.fills c.loop-v.invariant.table (omega arith) (omega arith) (rw (← here, ← there) c.dist.ensures.same) c.set_distance.ensures.same;
    }
