use Rattle.tspinst.proofs.HeaderLines.{headers_lines}
use Rattle.tspinst.proofs.laws.headers_are_lines.Goals as goal

pub returns : goal.returns
returns c = headers_lines
