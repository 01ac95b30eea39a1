use Rattle.verdict.proofs.Bytes.{reads_in_pieces}
use Rattle.verdict.proofs.reads_in_pieces.Goals as goal

pub returns : goal.returns
returns c = reads_in_pieces
