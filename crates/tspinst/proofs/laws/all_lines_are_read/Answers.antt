use Rattle.std.proofs.Common.{length, arith}
use Rattle.tsplex.specs.Text.{tokens}
use Rattle.tspinst.specs.Texts.{nothing_said}
use Rattle.tspinst.proofs.Shrinking.{all_lines}
use Rattle.tspinst.proofs.laws.all_lines_are_read.Goals as goal

pub returns : goal.returns
returns c = λ bytes m l. all_lines m (length (tokens bytes)) nothing_said (tokens bytes) l (omega arith)
