use Rattle.std.proofs.Common.{◌≡◌, arith, sym, subst, length, take, map, List}
use Rattle.tspdef.specs.Paths.{Condition}
use Rattle.branchx.specs.Cond.{condition_of}
use Rattle.pricer.specs.Trails.{IsPairBelow}
use Rattle.pricer.specs.Rays.{AreLabels}
use Rattle.pricer.proofs.DecidedLemmas.{pair_follows}
use Rattle.pricer.proofs.DegreeLemmas.{conds_more, conds_follow, labels_step}
use Rattle.pricer.proofs.rays.merge_all.Goals as goal

pub merge-requires : goal.merge-requires
merge-requires c =
    let follows = conds_follow condition_of c.args.n c.args.conditions.now c.loop-condition.condition-index c.condition-item.result c.requires.is_path (omega arith) c.condition-item.is in
    let long : length c.loop-condition.labels ≡ c.args.n = omega arith in
    subst (λ k. IsPairBelow k (condition_of c.condition-item.result)) (sym long) (pair_follows c.args.n (map condition_of (take c.loop-condition.condition-index c.args.conditions.now)) (condition_of c.condition-item.result) follows)

pub loop-condition-preserved : goal.loop-condition-preserved
loop-condition-preserved c =
    let k = c.loop-condition.condition-index in
    let conds = c.args.conditions.now in
    let x = c.condition-item.result in
    let follows = conds_follow condition_of c.args.n conds k x c.requires.is_path (omega arith) c.condition-item.is in
    let more = conds_more condition_of conds k x (omega arith) c.condition-item.is in
    let long : length c.loop-condition.labels ≡ c.args.n = omega arith in
    subst (λ (path : List Condition). AreLabels c.args.n path c.merge.new.labels) (sym more)
    (labels_step c.args.n (map condition_of (take k conds)) (condition_of x) c.loop-condition.labels c.merge.new.labels follows long c.merge.ensures c.loop-condition.invariant)
