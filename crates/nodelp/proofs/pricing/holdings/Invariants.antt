use Rattle.nodelp.specs.Holding.{AreHoldings}
use Rattle.nodelp.proofs.pricing.holdings.Given as goal

abbrev pub invariant-loop-v : goal.invariant-loop-v
invariant-loop-v l = AreHoldings l.v l.rows l.ys l.hs.items
