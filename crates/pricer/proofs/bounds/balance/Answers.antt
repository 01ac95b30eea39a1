use Rattle.std.proofs.Common.{arith}
use Rattle.std.proofs.lemmas.Int.{ints}
use Rattle.pricer.proofs.bounds.balance.Goals as goal

pub returns : goal.returns
returns c = omega (arith, ints)
