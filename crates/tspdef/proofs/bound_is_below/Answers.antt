use Rattle.tspdef.proofs.Duality.{bound_is_below, fitting_is_closing}
use Rattle.tspdef.proofs.bound_is_below.Goals as goal

pub returns-clause-bound : goal.returns-clause-bound
returns-clause-bound c = bound_is_below

pub returns-clause-fitting : goal.returns-clause-fitting
returns-clause-fitting c = fitting_is_closing
