use Rattle.std.proofs.Common.{arith, ◌∙◌}
use Rattle.std.proofs.lemmas.Int.{ints}
use Rattle.std.proofs.lemmas.List.{length-set}
use Rattle.onetree.specs.OneTrees.{reduced}
use Rattle.onetree.proofs.Growing.{written}
use Rattle.onetree.proofs.frontier.from_first.Goals as goal

pub loop-v-preserved : goal.loop-v-preserved
loop-v-preserved c =
    let all = c.loop-v.invariant.all in record {
      all = length-set _ _ _ ∙ all;
      same = written c.loop-v.least.items (reduced c.args.instance.now c.args.duals.now 1) c.loop-v.v _ (omega arith) c.loop-v.invariant.same (omega (arith, ints));
    }
