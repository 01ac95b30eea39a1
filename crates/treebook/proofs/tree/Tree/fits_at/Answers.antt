use Rattle.std.proofs.Common.{◌≡◌, List, subst}
use Rattle.std.specs.Prelude.{◌↔◌}
use Rattle.tspdef.specs.Paths.{Condition}
use Rattle.tspdef.specs.Closings as closings
use Rattle.pricer.specs.declared.fitting.Fit.TheVariants.{Fits, Misfit}
use Rattle.treebook.proofs.tree.Tree.fits_at.Goals as goal

pub returns-clause-fits : goal.returns-clause-fits
returns-clause-fits c = subst (λ (path : List Condition). (c.fits_on.result ≡ Fits) ↔ closings.Fits c.args.instance.now.n path c.args.closing.now) c.trail.ensures.conditions c.fits_on.ensures.fits

pub returns-clause-misfit : goal.returns-clause-misfit
returns-clause-misfit c = λ k. subst (λ (path : List Condition). (c.fits_on.result ≡ Misfit k) ↔ closings.IsMisfit c.args.instance.now.n path c.args.closing.now k) c.trail.ensures.conditions (c.fits_on.ensures.misfit k)
