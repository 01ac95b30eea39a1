use Rattle.std.proofs.Common.{arith}
use Rattle.std.proofs.lemmas.Int.{ints}
use Rattle.nodelp.proofs.HoldingLemmas.{sharing_at_more}
use Rattle.nodelp.proofs.pricing.sharing_at.Goals as goal

pub loop-i-preserved : goal.loop-i-preserved
loop-i-preserved c =
    let more = sharing_at_more c.args.rows.now c.args.ys.now c.args.places.now c.loop-i.i 0 c.args.u c.args.v c.loop-i-test.true in
    record { so_far = omega (arith, ints, more); low = omega (arith, ints); high = omega (arith, ints) }
