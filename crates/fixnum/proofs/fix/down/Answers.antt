use Rattle.std.proofs.Common.{arith}
use Rattle.std.proofs.lemmas.Int.{ints}
use Rattle.fixnum.proofs.Rounding.{floor_out}
use Rattle.fixnum.proofs.fix.down.Goals as goal

pub returns-clause-none : goal.returns-clause-none
returns-clause-none c = floor_out c.sized.result c.args.n c.args.d _ _ c.floor.result _ (omega (arith, ints)) (omega (arith, ints)) (omega (arith, ints)) c.floor.ensures c.sized.ensures.none
