use Rattle.std.proofs.Common.{arith}
use Rattle.std.proofs.lemmas.Int.{ints}
use Rattle.tspdef.specs.Bounds as defs
use Rattle.pricer.proofs.SumSteps.{sum_below_more}
use Rattle.pricer.proofs.duals.city_sum.Goals as goal

pub loop-city-preserved : goal.loop-city-preserved
loop-city-preserved c =
    let more = sum_below_more (defs.city_dual c.args.closing.now) c.loop-city.city in
    record { so_far = omega (arith, ints); low = omega (arith, ints); high = omega (arith, ints) }
