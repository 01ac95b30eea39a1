use Rattle.tspinst.proofs.PartLemmas.{cycles_told}
use Rattle.tspinst.proofs.laws.cycles_are_told.Goals as goal

pub returns : goal.returns
returns c = cycles_told
