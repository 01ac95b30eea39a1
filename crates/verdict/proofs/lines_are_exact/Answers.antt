use Rattle.verdict.proofs.Lines.{lines_are_exact}
use Rattle.verdict.proofs.lines_are_exact.Goals as goal

pub returns : goal.returns
returns c = lines_are_exact
