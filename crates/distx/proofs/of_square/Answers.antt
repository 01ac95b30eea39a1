use Rattle.tspdef.specs.Distances.{euclidean, rounded_up, pseudo_euclidean}
use Rattle.distx.proofs.Least.{root_is}
use Rattle.distx.proofs.of_square.Goals as goal

pub returns-in-Euc-clause-same : goal.returns-in-Euc-clause-same
returns-in-Euc-clause-same c = rw c.in-Euc.is (root_is euclidean c.args.s c.nearest.result c.nearest.ensures.least)

pub returns-in-Ceil-clause-same : goal.returns-in-Ceil-clause-same
returns-in-Ceil-clause-same c = rw c.in-Ceil.is (root_is rounded_up c.args.s c.above.result c.above.ensures.least)

pub returns-in-Att-clause-same : goal.returns-in-Att-clause-same
returns-in-Att-clause-same c = rw c.in-Att.is (root_is pseudo_euclidean c.args.s c.above_of_tenth.result c.above_of_tenth.ensures.least)
