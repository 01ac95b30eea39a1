use Rattle.std.proofs.Common.{arith}
use Rattle.lpcheck.proofs.BestSteps.{found_more, none_more}
use Rattle.lpcheck.proofs.step.best_step.Goals as goal

pub loop-power-preserved : goal.loop-power-preserved
loop-power-preserved c =
    let place = c.args.place.now in
    let ps = c.args.pieces.now in
    record {
      most = omega arith;
      least = omega arith;
      found = found_more place.sense place.rhs ps place.y c.better-best.result c.better-best-in-loop-power.result
          (found_more place.sense place.rhs ps place.y c.loop-power.best c.better-best.result c.loop-power.invariant.found c.better-best.ensures.kept)
          c.better-best-in-loop-power.ensures.kept;
      none = none_more place.sense place.rhs ps place.y c.loop-power.power c.loop-power.best.gain c.better-best.result.gain c.better-best-in-loop-power.result.gain
          c.loop-power.invariant.none c.better-best.ensures.most c.better-best-in-loop-power.ensures.most c.better-best.ensures.seen c.better-best-in-loop-power.ensures.seen;
    }

pub returns-clause-none : goal.returns-clause-none
returns-clause-none c = λ k z least most. c.loop-power.invariant.none k z least (omega (arith, c.loop-power-test.false, c.loop-power.invariant.most))
