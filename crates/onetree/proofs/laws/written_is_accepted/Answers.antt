use Rattle.onetree.proofs.WrittenLemmas as lemmas
use Rattle.onetree.proofs.laws.written_is_accepted.Goals as goal

pub returns : goal.returns
returns c = lemmas.written_is_accepted
