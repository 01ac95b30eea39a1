use Rattle.std.proofs.Common.{◌≡◌, pos, arith, ap, sym, ◌∙◌, subst, length, take, map, List}
use Rattle.std.specs.Prelude.{slice_index}
use Rattle.tspdef.specs.Paths.{Condition}
use Rattle.tspdef.specs.Rays.{degree}
use Rattle.branchx.specs.Cond.{condition_of}
use Rattle.pricer.specs.Trails.{IsPairBelow}
use Rattle.pricer.proofs.DecidedLemmas.{pair_follows}
use Rattle.pricer.proofs.DegreeLemmas.{conds_more, conds_follow, degree_none, count_step, count_small}
use Rattle.pricer.proofs.rays.count_all.Goals as goal

pub loop-condition-init : goal.loop-condition-init
loop-condition-init c = record {
  so_far = λ v l. ap pos (c.requires.empty v) ∙ sym (degree_none c.args.n v);
  small = λ v. let e = c.requires.empty v in omega arith;
}

pub count-requires-clause-pair : goal.count-requires-clause-pair
count-requires-clause-pair c =
    let follows = conds_follow condition_of c.args.n c.args.conditions.now c.loop-condition.condition-index c.condition-item.result c.requires.is_path (omega arith) c.condition-item.is in
    let long : length c.loop-condition.degrees ≡ c.args.n = omega arith in
    subst (λ k. IsPairBelow k (condition_of c.condition-item.result)) (sym long) (pair_follows c.args.n (map condition_of (take c.loop-condition.condition-index c.args.conditions.now)) (condition_of c.condition-item.result) follows)

pub loop-condition-preserved : goal.loop-condition-preserved
loop-condition-preserved c =
    let k = c.loop-condition.condition-index in
    let conds = c.args.conditions.now in
    let x = c.condition-item.result in
    let follows = conds_follow condition_of c.args.n conds k x c.requires.is_path (omega arith) c.condition-item.is in
    let more = conds_more condition_of conds k x (omega arith) c.condition-item.is in
    record {
      so_far = λ v l. subst (λ (path : List Condition). pos (slice_index c.count.new.degrees v) ≡ degree c.args.n path v) (sym more)
          (count_step c.args.n (map condition_of (take k conds)) (condition_of x) v (slice_index c.loop-condition.degrees v) (slice_index c.count.new.degrees v) follows (c.loop-condition.invariant.so_far v l) (c.count.ensures v));
      small = λ v. count_small (condition_of x) v (slice_index c.loop-condition.degrees v) (slice_index c.count.new.degrees v) k (c.loop-condition.invariant.small v) (c.count.ensures v);
    }
