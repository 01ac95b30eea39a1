use Rattle.std.proofs.Common.{◌∙◌}
use Rattle.cutform.proofs.OrderLemmas.{pairs_as_sets}
use Rattle.cutform.proofs.pairs.compare_pairs.Goals as goal

pub returns : goal.returns
returns c = c.cmp.ensures ∙ pairs_as_sets c.args.a.now c.args.b.now
