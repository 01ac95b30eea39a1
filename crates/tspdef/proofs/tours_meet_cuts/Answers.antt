use Rattle.tspdef.proofs.Duality.{tours_meet_cuts}
use Rattle.tspdef.proofs.tours_meet_cuts.Goals as goal

pub returns : goal.returns
returns c = tours_meet_cuts
