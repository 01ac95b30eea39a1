use Rattle.std.proofs.Common.{arith}
use Rattle.tspplain.proofs.BitLemmas.{part_of_shared, part_of_unshared}
use Rattle.tspplain.proofs.bits.parts.Goals as goal

pub returns-then-set-other-ne0-clause-cities : goal.returns-then-set-other-ne0-clause-cities
returns-then-set-other-ne0-clause-cities c = part_of_shared c.args.set c.args.other (omega arith) (omega arith) c.if-set-other-ne0.true

pub returns-else-set-other-ne0-clause-cities : goal.returns-else-set-other-ne0-clause-cities
returns-else-set-other-ne0-clause-cities c = part_of_unshared c.args.set c.args.other c.if-set-other-ne0.false
