use Rattle.std.proofs.Common.{◌<◌, arith}
use Rattle.sepsub.proofs.GrowthLemmas.{side_is_light}
use Rattle.sepsub.proofs.components.component.Goals as goal

pub returns-in-Some : goal.returns-in-Some
returns-in-Some c =
    let w = c.args.network.now in
    let l = rw c.in-Some.is at c.in_ok-light.ensures in
    let some : 0 < w.n = (let h = c.requires.inside in omega arith) in
    side_is_light w c.args.city c.args.stops.now c.in-Some.light some c.requires.home l.0 l.1
