use Rattle.std.proofs.Common.{length}
use Rattle.tspdef.specs.Cuts.{pair_set}
use Rattle.cutform.proofs.SetLemmas.{rises-all}
use Rattle.pricer.proofs.holding.mark_pair.Goals as goal

pub mark-requires : goal.mark-requires
mark-requires c = rises-all (length c.args.marks.now) (pair_set c.args.pair) c.requires
