use Rattle.std.specs.Prelude.{◌<ℤ◌}
use Rattle.std.proofs.lemmas.Result.{IfOk-weaker}
use Rattle.tspdef.specs.Closings.{Fits}
use Rattle.tspdef.specs.Bounds.{bound, needed}
use Rattle.tspdef.specs.Rays.{IsRay}
use Rattle.pricer.proofs.rays.ray.Goals as goal

pub returns-clause-fits : goal.returns-clause-fits
returns-clause-fits c =
    let i = c.args.instance.now in
    let path = c.args.path.now.conditions in
    IfOk-weaker c.ray_of.result (IsRay i.n path c.args.best) (Fits i.n path)
    (λ k ray. (c.rays_close.ensures i path c.args.best k c.n.ensures.instance.many c.requires.best c.requires.decided c.requires.shortest ray).0)
    (rw (c.n.ensures.same, c.conditions.ensures.value) at c.ray_of.ensures)

pub returns-clause-closes : goal.returns-clause-closes
returns-clause-closes c =
    let i = c.args.instance.now in
    let path = c.args.path.now.conditions in
    IfOk-weaker c.ray_of.result (IsRay i.n path c.args.best) (λ k. needed c.args.best <ℤ (bound i path k))
    (λ k ray. (c.rays_close.ensures i path c.args.best k c.n.ensures.instance.many c.requires.best c.requires.decided c.requires.shortest ray).1)
    (rw (c.n.ensures.same, c.conditions.ensures.value) at c.ray_of.ensures)
