use Rattle.std.proofs.Common.{◌∙◌, arith, length}
use Rattle.tspdef.specs.Paths.{condition_at}
use Rattle.pricer.proofs.MarkLemmas.{marks_then, cliques_next}
use Rattle.pricer.proofs.SpreadLemmas.{proper_set_wider}
use Rattle.pricer.proofs.holding.mark_cliques.Goals as goal

pub mark_if-requires : goal.mark_if-requires
mark_if-requires g c =
    rw c.step_at-there.ensures.step (proper_set_wider (g.T.Trail.cities c.args.trail) (length c.loop-q.marks) (condition_at (g.T.Trail.conditions c.args.trail) c.in-Some.q.now.0) c.loop-q.invariant.long c.step_at-there.ensures.set)

pub loop-q-preserved : goal.loop-q-preserved
loop-q-preserved g c =
    let last = c.in-Some.ensures.cases in
    record {
      so_far = marks_then _ _ _ _ _ _ c.loop-q.invariant.so_far c.mark_if.ensures
          (λ v p h k. p k ∙ cliques_next (g.T.Trail.conditions c.args.trail) _ c.loop-q.rest.now c.in-Some.more.now c.in-Some.q.now v k last.0 c.step_at-there.ensures.step (h k c.in-Some.q.now.1));
      near = c.step_at-there.ensures.near;
      cities = c.step_at-there.ensures.cities;
      long = (let kept = c.mark_if.auto.marks in let long = c.loop-q.invariant.long in omega arith);
    }
