use Rattle.certform.proofs.Whole.{faithful_is_accepted}
use Rattle.certform.proofs.Fitting as fitting
use Rattle.certform.proofs.laws.tables_fit.Goals as goal

pub returns-clause-fit : goal.returns-clause-fit
returns-clause-fit c = fitting.tables_fit

pub returns-clause-accepted : goal.returns-clause-accepted
returns-clause-accepted c = faithful_is_accepted
