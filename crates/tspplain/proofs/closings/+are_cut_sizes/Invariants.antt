use Rattle.std.proofs.Common.{length}
use Rattle.tspplain.proofs.closings.+are_cut_sizes.Given as goal

abbrev pub decreases-are_cut_sizes : goal.decreases-are_cut_sizes
decreases-are_cut_sizes l = length l.cuts.now
