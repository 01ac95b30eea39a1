use Rattle.tspdef.proofs.Covering.{accepted_is_below}
use Rattle.tspdef.proofs.accepted_is_below.Goals as goal

pub returns : goal.returns
returns c = accepted_is_below
