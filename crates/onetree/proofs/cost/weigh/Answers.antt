use Rattle.std.proofs.Common.{arith}
use Rattle.std.proofs.lemmas.Int.{ints}
use Rattle.onetree.specs.OneTrees.{reduced}
use Rattle.onetree.proofs.Growing.{drop_weight}
use Rattle.onetree.proofs.cost.weigh.Goals as goal

pub loop-pair-preserved : goal.loop-pair-preserved
loop-pair-preserved c =
    let e = drop_weight (reduced c.args.instance.now c.args.duals.now) c.args.pairs.now c.loop-pair.pair-index (0, 0) c.loop-pair-test.true in record {
      rest = omega (arith, ints);
      size = record { low = omega (arith, ints); high = omega (arith, ints) };
    }
