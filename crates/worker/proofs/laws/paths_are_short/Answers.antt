use Rattle.worker.proofs.PathCounts as counts
use Rattle.worker.proofs.laws.paths_are_short.Goals as goal

pub returns : goal.returns
returns c = counts.paths_are_short
