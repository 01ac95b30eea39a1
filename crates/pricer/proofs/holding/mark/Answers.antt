use Rattle.std.proofs.Common.{arith}
use Rattle.cutform.proofs.SetLemmas.{marked-more}
use Rattle.pricer.proofs.holding.mark.Goals as goal

pub loop-city-preserved : goal.loop-city-preserved
loop-city-preserved c = λ k.
    marked-more c.args.marks.now c.loop-city.marks c.args.cities.now c.loop-city.city-index k c.loop-city-test.true (omega (arith, c.requires c.loop-city.city-index 0 c.loop-city-test.true)) (c.loop-city.invariant k)
