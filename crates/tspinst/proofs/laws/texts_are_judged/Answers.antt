use Rattle.tspinst.proofs.JudgingLemmas.{texts_judged}
use Rattle.tspinst.proofs.laws.texts_are_judged.Goals as goal

pub returns : goal.returns
returns c = texts_judged
