use Rattle.std.proofs.Common.{refl, take}
use Rattle.branchx.specs.Cond.{condition_of, conditions_of}
use Rattle.pricer.proofs.DecidedLemmas.{pair_follows}
use Rattle.nodelp.proofs.CoreLemmas.{may_follow, wanted_next, wanted_none, others_chain}
use Rattle.nodelp.proofs.columns.add_wanted.Goals as goal

pub add_condition-requires-clause-pair : goal.add_condition-requires-clause-pair
add_condition-requires-clause-pair c =
    pair_follows c.args.instance.now.n (conditions_of (take c.loop-cond.cond-index c.args.conditions.now)) (condition_of c.cond-item.result)
    (may_follow c.args.instance.now.n c.args.conditions.now c.loop-cond.cond-index c.cond-item.result c.loop-cond-test.true c.cond-item.is c.requires.is_path)

pub loop-cond-init : goal.loop-cond-init
loop-cond-init c = record { others = refl; wanted = wanted_none c.args.instance.now c.args.lp.now.cols c.requires.empty }

pub loop-cond-preserved : goal.loop-cond-preserved
loop-cond-preserved c = record {
  others = others_chain c.args.lp.now c.loop-cond.lp c.add_condition.new.lp c.loop-cond.invariant.others c.in_ok-add_condition.ensures.others;
  wanted = wanted_next c.args.instance.now c.args.conditions.now c.loop-cond.cond-index c.cond-item.result c.loop-cond.lp.cols c.add_condition.new.lp.cols c.loop-cond-test.true c.cond-item.is
      (may_follow c.args.instance.now.n c.args.conditions.now c.loop-cond.cond-index c.cond-item.result c.loop-cond-test.true c.cond-item.is c.requires.is_path)
      c.loop-cond.invariant.wanted c.in_ok-add_condition.ensures.cols;
}
