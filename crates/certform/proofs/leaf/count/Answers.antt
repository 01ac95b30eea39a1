use Rattle.std.proofs.Common.{arith}
use Rattle.certform.proofs.Written.{few_cities}
use Rattle.certform.proofs.leaf.count.Goals as goal

pub overflow_add-count : goal.overflow_add-count
overflow_add-count c = let f = few_cities 1 c.args.duals.now in omega arith
