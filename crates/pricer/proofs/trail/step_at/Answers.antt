use Rattle.std.proofs.Common.{◌≡◌, take, refl, ◌∙◌, arith}
use Rattle.tspdef.specs.Paths.{branches}
use Rattle.pricer.specs.Trails.{IsFront}
use Rattle.pricer.proofs.TrailLemmas.{proper_at, whole_front, front_trans, depth_front, at_front}
use Rattle.pricer.proofs.trail.step_at.Goals as goal
use Rattle.pricer.proofs.trail.step_at.Goals.{then-place-depth, else-place-depth}

pub returns-clause-step : goal.returns-clause-step
returns-clause-step g c =
    let from : take c.args.depth (branches (g.T.Trail.conditions c.if-place-depth.from)) ≡ take c.args.depth (branches (g.T.Trail.conditions c.args.trail)) = elim c.if-place-depth.branch [
      | then-place-depth w ↦ rw w.from-is (depth_front (g.T.Trail.conditions c.args.near) (g.T.Trail.conditions c.args.trail) c.args.depth c.requires.near (let l = w.if-place-depth.true in omega arith))
      | else-place-depth w ↦ rw w.from-is refl
    ] in
    c.last_at.ensures ∙ at_front (g.T.Trail.conditions c.climb-there.result) (g.T.Trail.conditions c.args.trail) c.args.depth (c.climb-there.ensures.depth ∙ from)

pub returns-clause-set : goal.returns-clause-set
returns-clause-set g c = rw (← c.n.ensures.same) (proper_at c.n.result (g.T.Trail.conditions c.args.trail) c.args.depth c.n.ensures.is_path)

pub returns-clause-near : goal.returns-clause-near
returns-clause-near g c =
    let from : IsFront (g.T.Trail.conditions c.if-place-depth.from) (g.T.Trail.conditions c.args.trail) = elim c.if-place-depth.branch [
      | then-place-depth w ↦ rw w.from-is c.requires.near
      | else-place-depth w ↦ rw w.from-is (whole_front (g.T.Trail.conditions c.args.trail))
    ] in
    front_trans (g.T.Trail.conditions c.climb-there.result) (g.T.Trail.conditions c.if-place-depth.from) (g.T.Trail.conditions c.args.trail) c.climb-there.ensures.front from
