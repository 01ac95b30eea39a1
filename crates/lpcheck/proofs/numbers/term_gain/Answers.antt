use Rattle.std.proofs.Common.{arith, ap, ◌-ℤ◌, Bool}
use Rattle.std.proofs.lemmas.Int.{ints, clamps}
use Rattle.lpcheck.specs.Rows.{term}
use Rattle.lpcheck.proofs.numbers.term_gain.Goals as goal

pub returns-else-must-clause-value : goal.returns-else-must-clause-value
returns-else-must-clause-value c =
    let low = ap (λ (m : Bool). term m (c.args.r -ℤ c.args.change) -ℤ term m c.args.r) c.if-must.false in
    omega (arith, ints, clamps)

pub returns-else-must-clause-size : goal.returns-else-must-clause-size
returns-else-must-clause-size c = record { low = omega (arith, ints, clamps); high = omega (arith, ints, clamps) }
