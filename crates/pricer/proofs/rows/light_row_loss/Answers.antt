use Rattle.std.proofs.Common.{arith}
use Rattle.pricer.proofs.SumSteps.{losses_more}
use Rattle.pricer.proofs.rows.light_row_loss.Goals as goal

pub loop-u-preserved : goal.loop-u-preserved
loop-u-preserved c = record { so_far = losses_more _ c.loop-u.u c.loop-u.total c.light_pair_loss-total.result c.loop-u.invariant.so_far c.light_pair_loss-total.ensures.value; size = omega arith }
