use Rattle.std.proofs.Common.{arith}
use Rattle.std.proofs.lemmas.Int.{ints}
use Rattle.onetree.specs.OneTrees.{dual_of}
use Rattle.onetree.proofs.Tours.{sum_more}
use Rattle.onetree.proofs.value.sum_of.Goals as goal

pub loop-city-preserved : goal.loop-city-preserved
loop-city-preserved c =
    let more = sum_more (dual_of c.args.duals.now) c.loop-city.city in
    record { so_far = omega (arith, ints); size = record { low = omega (arith, ints); high = omega (arith, ints) } }
