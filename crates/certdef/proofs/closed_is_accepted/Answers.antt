use Rattle.certdef.proofs.Restarts.{closed_is_accepted}
use Rattle.certdef.proofs.closed_is_accepted.Goals as goal

pub returns : goal.returns
returns c = closed_is_accepted
