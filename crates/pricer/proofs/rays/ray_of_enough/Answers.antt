use Rattle.branchx.specs.Cond.{conditions_of}
use Rattle.pricer.proofs.DegreeLemmas.{exactly_two}
use Rattle.pricer.proofs.rays.ray_of_enough.Goals as goal

pub ray_of_cycles-requires-clause-pairs : goal.ray_of_cycles-requires-clause-pairs
ray_of_cycles-requires-clause-pairs c = exactly_two c.args.n (conditions_of c.args.conditions.now) c.args.degrees.now c.requires.degrees c.requires.enough c.in-None.ensures
