use Rattle.std.proofs.Common.{◌∙◌}
use Rattle.tsplex.proofs.TextLemmas.{tokens_end}
use Rattle.tspinst.proofs.words.Words.clear.Goals as goal

pub returns : goal.returns
returns c = c.new-self-inside.ensures.words ∙ tokens_end 1
