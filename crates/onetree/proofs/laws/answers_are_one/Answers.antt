use Rattle.onetree.proofs.OneAnswer as lemmas
use Rattle.onetree.proofs.laws.answers_are_one.Goals as goal

pub returns : goal.returns
returns c = lemmas.answers_are_one
