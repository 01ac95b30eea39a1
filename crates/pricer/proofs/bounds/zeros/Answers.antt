use Rattle.pricer.proofs.ListLemmas.{no_number}
use Rattle.pricer.proofs.bounds.zeros.Goals as goal

pub returns-clause-empty : goal.returns-clause-empty
returns-clause-empty c = no_number 2000
