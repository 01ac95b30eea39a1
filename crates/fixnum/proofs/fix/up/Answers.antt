use Rattle.std.proofs.Common.{arith}
use Rattle.std.proofs.lemmas.Int.{ints}
use Rattle.fixnum.proofs.Rounding.{ceiling_out}
use Rattle.fixnum.proofs.fix.up.Goals as goal

pub returns-clause-none : goal.returns-clause-none
returns-clause-none c = ceiling_out c.sized.result c.args.n c.args.d _ _ c.ceiling.result _ (omega (arith, ints)) (omega (arith, ints)) (omega (arith, ints)) c.ceiling.ensures c.sized.ensures.none
