use Rattle.std.proofs.Common.{◌≡◌, ◌↔◌, List, subst}
use Rattle.tspdef.specs.Paths.{Condition}
use Rattle.tspdef.specs.Closings as defs
use Rattle.pricer.specs.declared.fitting.Fit.TheVariants.{Misfit}
use Rattle.pricer.proofs.fitting.fits.Goals as goal

pub returns-clause-misfit : goal.returns-clause-misfit
returns-clause-misfit c = λ k. subst (λ (path : List Condition). (c.fits_on.result ≡ Misfit k) ↔ defs.IsMisfit c.args.instance.now.n path c.args.closing.now k) c.whole.ensures.conditions (c.fits_on.ensures.misfit k)
