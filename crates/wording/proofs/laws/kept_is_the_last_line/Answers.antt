use Rattle.wording.proofs.Kept.{kept_last}
use Rattle.wording.proofs.laws.kept_is_the_last_line.Goals as goal

pub returns : goal.returns
returns c = kept_last
