use Rattle.std.proofs.Common.{arith}
use Rattle.pricer.specs.Trails.{condition_of}
use Rattle.pricer.proofs.TrailLemmas.{last_at_depth}
use Rattle.pricer.proofs.trail.last_at.Goals as goal

pub returns-in-Some : goal.returns-in-Some
returns-in-Some g c =
    let deep = c.depth.ensures in
    let most = c.requires in
    last_at_depth c.n.result (g.T.Trail.conditions c.args.there) (g.T.Trail.conditions c.in-Some.field-0-1) (condition_of c.in-Some.step) c.args.depth c.n.ensures.is_path c.in-Some.ensures.conditions (omega arith) (omega arith)
