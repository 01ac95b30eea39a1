use Rattle.bossx.proofs.Deciding.{steps_have_no_choice, runs_have_no_choice}
use Rattle.bossx.proofs.laws.events_have_no_choice.Goals as goal

pub returns-clause-step : goal.returns-clause-step
returns-clause-step c = steps_have_no_choice

pub returns-clause-run : goal.returns-clause-run
returns-clause-run c = runs_have_no_choice
