use Rattle.verdict.proofs.Forms.{read_is_readable}
use Rattle.verdict.proofs.read_is_readable.Goals as goal

pub returns : goal.returns
returns c = read_is_readable
