use Rattle.std.proofs.Common.{refl, subst}
use Rattle.tspdef.specs.Instances.{Instance}
use Rattle.tspdef.specs.Closings.{IsMisfit}
use Rattle.pricer.proofs.priced.Priced.new.Goals as goal

pub returns-in-Misfit : goal.returns-in-Misfit
returns-in-Misfit c =
    subst (λ (i : Instance). IsMisfit i.n c.args.path.conditions c.args.closing c.in-Misfit.k) c.deref.ensures ((c.in-Misfit.ensures.misfit c.in-Misfit.k).0 refl)
