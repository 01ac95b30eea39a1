use Rattle.std.proofs.Common.{◌∙◌, arith}
use Rattle.pricer.specs.Trails.{condition_of}
use Rattle.pricer.proofs.TrailLemmas.{front_before, depth_before}
use Rattle.pricer.proofs.trail.climb.Goals as goal

pub loop-here-preserved : goal.loop-here-preserved
loop-here-preserved g c =
    let here = g.T.Trail.conditions c.loop-here.here in
    let before = g.T.Trail.conditions c.in-Some.next.1 in
    let step = condition_of c.in-Some.next.0 in
    record {
      depth = depth_before here before step c.args.depth c.in-Some.ensures.conditions (let d = c.depth.ensures in omega arith) ∙ c.loop-here.invariant.depth;
      front = front_before here before (g.T.Trail.conditions c.args.trail) step c.in-Some.ensures.conditions c.loop-here.invariant.front;
      cities = c.in-Some.ensures.cities ∙ c.loop-here.invariant.cities;
    }
