use Rattle.bossx.proofs.Charging.{steps_charge, runs_charge}
use Rattle.bossx.proofs.laws.events_are_charged.Goals as goal

pub returns-clause-step : goal.returns-clause-step
returns-clause-step c = steps_charge

pub returns-clause-run : goal.returns-clause-run
returns-clause-run c = runs_charge
