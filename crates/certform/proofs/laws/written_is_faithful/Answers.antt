use Rattle.certform.proofs.Whole as whole
use Rattle.certform.proofs.laws.written_is_faithful.Goals as goal

pub returns : goal.returns
returns c = whole.written_is_faithful
