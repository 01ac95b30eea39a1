use Rattle.std.proofs.Common.{arith}
use Rattle.std.proofs.lemmas.Int.{ints}
use Rattle.pricer.proofs.numbers.less.Goals as goal

pub returns-clause-value : goal.returns-clause-value
returns-clause-value c = omega (arith, ints)

pub returns-clause-size : goal.returns-clause-size
returns-clause-size c = record { low = omega (arith, ints); high = omega (arith, ints) }
