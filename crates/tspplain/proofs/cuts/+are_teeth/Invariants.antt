use Rattle.std.proofs.Common.{length}
use Rattle.tspplain.proofs.cuts.+are_teeth.Given as goal

abbrev pub decreases-are_teeth : goal.decreases-are_teeth
decreases-are_teeth l = length l.teeth.now
