use Rattle.std.proofs.Common.{arith, subst, List, refl}
use Rattle.std.proofs.lemmas.Int.{ints}
use Rattle.tspdef.specs.Paths.{Condition, IsPath}
use Rattle.tspdef.specs.Bounds.{reduced_cost}
use Rattle.pricer.specs.Trails.{condition_of}
use Rattle.pricer.proofs.DecidedLemmas.{path_front, pair_follows, changes_size, changes_step}
use Rattle.pricer.proofs.decided.changes.Goals as goal

pub change-total-requires : goal.change-total-requires
change-total-requires g c κs =
    let n = c.args.instance.now.n in
    let front = path_front n _ _ (subst (λ (p : List Condition). IsPath n p) c.in-Some.ensures.conditions c.loop-next.invariant.is_path) in
    ((refl, tt), (c.requires.closing, pair_follows n (g.T.Trail.conditions c.in-Some.next.1) (condition_of c.in-Some.next.0) front.1))

pub overflow_add-total : goal.overflow_add-total
overflow_add-total g c =
    let size = changes_size c.args.instance.now (g.T.Trail.conditions c.args.trail) c.args.closing.now _ (g.T.Trail.conditions c.loop-next.here) (g.T.Trail.conditions c.args.trail) c.n.ensures.instance c.requires.closing c.loop-next.invariant.so_far in
    omega (arith, ints)

pub loop-next-preserved : goal.loop-next-preserved
loop-next-preserved g c =
    let n = c.args.instance.now.n in
    let step = changes_step n (reduced_cost c.args.instance.now (g.T.Trail.conditions c.args.trail) c.args.closing.now) _ c.change-total.result _ (g.T.Trail.conditions c.loop-next.here) (g.T.Trail.conditions c.in-Some.next.1) (condition_of c.in-Some.next.0) c.in-Some.ensures.conditions c.loop-next.invariant.is_path c.loop-next.invariant.so_far c.change-total.ensures.value in
    let size = changes_size c.args.instance.now (g.T.Trail.conditions c.args.trail) c.args.closing.now _ (g.T.Trail.conditions c.loop-next.here) (g.T.Trail.conditions c.args.trail) c.n.ensures.instance c.requires.closing c.loop-next.invariant.so_far in
    record {
      so_far = omega (arith, ints);
      is_path = (path_front n (g.T.Trail.conditions c.in-Some.next.1) (condition_of c.in-Some.next.0) (subst (λ (p : List Condition). IsPath n p) c.in-Some.ensures.conditions c.loop-next.invariant.is_path)).0;
    }

pub returns-clause-size : goal.returns-clause-size
returns-clause-size g c = changes_size c.args.instance.now (g.T.Trail.conditions c.args.trail) c.args.closing.now _ (g.T.Trail.conditions c.loop-next.here) (g.T.Trail.conditions c.args.trail) c.n.ensures.instance c.requires.closing c.loop-next.invariant.so_far
