use Rattle.tspdef.proofs.RootLemmas.{roots_are_paths}
use Rattle.branchx.proofs.path.Path.root.Goals as goal

pub invariant_of-result : goal.invariant_of-result
invariant_of-result c = rw c.in_ok-fixed_conds.ensures (roots_are_paths c.args.n c.args.fixed.now c.requires.pairs c.requires.rising).is_path
