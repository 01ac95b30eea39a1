use Rattle.tspdef.proofs.Duality.{crossings_are_even}
use Rattle.tspdef.proofs.crossings_are_even.Goals as goal

pub returns : goal.returns
returns c = crossings_are_even
