use Rattle.std.proofs.Common.{arith}
use Rattle.tspengine.proofs.searching.go_on.Goals as goal

pub returns-clause-onward : goal.returns-clause-onward
returns-clause-onward g c = λ some left.
    let settled = c.in_ok-boss.ensures.no_less in
    let budget = c.in_ok-boss.ensures.further.start.budget in
    let fewer = c.fewer.ensures in
    omega (arith, settled, budget, fewer)
