use Rattle.pricer.proofs.TrailLemmas.{path_take}
use Rattle.pricer.proofs.trail.FrontTrail.n.Goals as goal

pub returns-clause-is_path : goal.returns-clause-is_path
returns-clause-is_path c = rw c.n.ensures (path_take _ c.args.self.count c.args.self.path.now.conditions c.conditions.ensures.is_path)
