use Rattle.std.proofs.Common.{◌≡◌, ◌+◌, sym, subst, length, take, List, arith}
use Rattle.std.proofs.lemmas.List.{take_all}
use Rattle.tspdef.specs.Paths.{Condition}
use Rattle.branchx.specs.declared.cond.Cond.{Cond}
use Rattle.branchx.specs.Cond.{condition_of, conditions_of}
use Rattle.branchx.proofs.PathLemmas.{conditions-more, pair-at}
use Rattle.pathtour.specs.declared.neighbours.Joined.{Joined}
use Rattle.pathtour.specs.Neighbours.{IsJoined, IsPairBelow, added, joined_at}
use Rattle.pathtour.proofs.PathSteps.{next_follows}
use Rattle.pathtour.proofs.JoinedLemmas.{pair_below, joined_more}
use Rattle.pathtour.proofs.neighbours.join_all.Goals as goal

pub join-requires : goal.join-requires
join-requires c =
    let x = c.condition-item.result in
    let long : length c.loop-condition.joined ≡ c.args.n = omega arith in
    subst (λ k. IsPairBelow k (condition_of x)) (sym long) (pair_below c.args.n (condition_of x)
    (pair-at c.args.n c.args.conditions.now c.loop-condition.condition-index x (omega arith) c.condition-item.is c.requires.is_path))

pub loop-condition-preserved : goal.loop-condition-preserved
loop-condition-preserved c =
    let k = c.loop-condition.condition-index in
    let xs = c.args.conditions.now in
    let x = c.condition-item.result in
    let long : length c.loop-condition.joined ≡ c.args.n = omega arith in
    λ v l.
    let more = joined_more c.args.n (conditions_of (take k xs)) (condition_of x) v (joined_at c.loop-condition.joined v) (next_follows c.args.n xs k x c.requires.is_path (omega arith) c.condition-item.is) (c.loop-condition.invariant v l) in
    subst (λ (j : Joined). IsJoined (conditions_of (take (k + 1) xs)) v j) (sym (c.join.ensures v (omega arith)))
    (subst (λ (p : List Condition). IsJoined p v (added (condition_of x) v (joined_at c.loop-condition.joined v))) (sym (conditions-more xs k x (omega arith) c.condition-item.is)) more)

pub returns : goal.returns
returns c =
    let xs = c.args.conditions.now in
    record {
      long = omega arith;
      each = λ v l. subst (λ (ys : List Cond). IsJoined (conditions_of ys) v (joined_at c.loop-condition.joined v)) (take_all c.loop-condition.condition-index xs (omega arith)) (c.loop-condition.invariant v l);
    }
