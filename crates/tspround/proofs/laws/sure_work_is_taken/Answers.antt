use Rattle.tspround.proofs.Turns.{sure_work_taken}
use Rattle.tspround.proofs.laws.sure_work_is_taken.Goals as goal

pub returns : goal.returns
returns c = sure_work_taken c.events_have_no_choice.ensures.step
