use Rattle.std.proofs.Common.{arith}
use Rattle.std.proofs.lemmas.Int.{ints}
use Rattle.tspdef.specs.Bounds.{city_dual}
use Rattle.tspplain.specs.Values.{closing_of}
use Rattle.tspplain.proofs.Steps.{sum_below_more}
use Rattle.tspplain.proofs.bounds.city_sum.Goals as goal

pub loop-city-preserved : goal.loop-city-preserved
loop-city-preserved c =
    let more = sum_below_more (city_dual (closing_of c.args.n c.args.closing.now)) c.loop-city.city in
    record { so_far = omega (arith, ints); low = omega (arith, ints); high = omega (arith, ints) }
