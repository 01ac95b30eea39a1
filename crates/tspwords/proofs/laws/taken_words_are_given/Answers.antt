use Rattle.tspwords.proofs.Taken.{taken_given, verifier_given}
use Rattle.tspwords.proofs.laws.taken_words_are_given.Goals as goal

pub returns-clause-commands : goal.returns-clause-commands
returns-clause-commands c = taken_given

pub returns-clause-verifier : goal.returns-clause-verifier
returns-clause-verifier c = verifier_given
