use Rattle.verdict.proofs.Bytes.{yes_is_accepted_text}
use Rattle.verdict.proofs.yes_is_accepted_text.Goals as goal

pub returns : goal.returns
returns c = yes_is_accepted_text
