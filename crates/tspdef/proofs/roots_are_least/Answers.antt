use Rattle.tspdef.proofs.Roots.{roots_are_least}
use Rattle.tspdef.proofs.roots_are_least.Goals as goal

pub returns : goal.returns
returns c = roots_are_least
