use Rattle.std.proofs.Common.{arith}
use Rattle.pricer.proofs.RoundLemmas.{city_duals_more}
use Rattle.pricer.proofs.rounding.round_cities.Goals as goal

-- the dual of one more city
pub loop-i-preserved : goal.loop-i-preserved
loop-i-preserved c =
    let more = city_duals_more c.args.city.now c.args.n c.loop-i.i c.loop-i-test.true in
    grind (arith, more)
