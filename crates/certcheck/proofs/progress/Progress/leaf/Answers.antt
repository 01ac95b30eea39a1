use Rattle.std.proofs.Common.{arith}
use Rattle.certcheck.proofs.SizeLemmas.{few_duals}
use Rattle.certcheck.proofs.progress.Progress.leaf.Goals as goal

pub overflow_add-result-in-Duals-2 : goal.overflow_add-result-in-Duals-2
overflow_add-result-in-Duals-2 c =
    let few = few_duals c.requires.0 _ _ _ _ c.args.self.now c.in-Duals.is c.requires.1.stage in
    omega (arith, few.0, few.1)
