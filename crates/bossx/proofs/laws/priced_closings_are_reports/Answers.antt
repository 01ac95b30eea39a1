use Rattle.bossx.proofs.Reporting.{priced_are_reported}
use Rattle.bossx.proofs.laws.priced_closings_are_reports.Goals as goal

pub returns : goal.returns
returns c = priced_are_reported
