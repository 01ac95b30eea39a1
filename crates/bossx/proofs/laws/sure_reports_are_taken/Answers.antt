use Rattle.bossx.proofs.Reporting.{sure_reports_are_taken}
use Rattle.bossx.proofs.laws.sure_reports_are_taken.Goals as goal

pub returns : goal.returns
returns c = sure_reports_are_taken
