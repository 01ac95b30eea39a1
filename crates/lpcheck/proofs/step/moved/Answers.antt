use Rattle.std.proofs.Common.{arith, to_z, of_z, w64}
use Rattle.std.proofs.lemmas.Int.{ints}
use Rattle.lpcheck.proofs.BestSteps.{rises_is, falls_is}
use Rattle.lpcheck.proofs.step.moved.Goals as goal

pub returns-then-up-clause-is : goal.returns-then-up-clause-is
returns-then-up-clause-is c = rises_is c.args.up c.args.place.now.y c.args.power (to_z w64 (of_z w64 c.up_by.result)) c.if-up.true (omega (arith, ints))

pub returns-else-up-clause-is : goal.returns-else-up-clause-is
returns-else-up-clause-is c = falls_is c.args.up c.args.place.now.y c.args.power (to_z w64 (of_z w64 c.down_by.result)) c.if-up.false (omega (arith, ints))
