use Rattle.std.proofs.Common.{subst}
use Rattle.sepcomb.specs.Combs.{AreCombsAbove}
use Rattle.sepcomb.proofs.combs.Goals as goal

pub returns-clause-combs : goal.returns-clause-combs
returns-clause-combs c = (
  c.in_ok-low.low.items,
  c.in_ok-half.half.items,
  subst (λ os. AreCombsAbove 262144 c.args.x.now os c.in_ok-low.low.items) c.new-none.ensures.items c.in_ok-low.ensures.combs,
  c.in_ok-half.ensures.combs,
  c.in_ok-high.ensures.combs,
)
