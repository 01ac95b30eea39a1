use Rattle.tspdef.proofs.SmallCuts.{cuts_are_small}
use Rattle.tspdef.proofs.cuts_are_small.Goals as goal

pub returns : goal.returns
returns c = cuts_are_small
