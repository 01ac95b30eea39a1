use Rattle.sepodd.specs.Cuts.{ArePairsTo}
use Rattle.sepodd.specs.Sides.{is_marked, is_chosen}
use Rattle.sepodd.proofs.cuts.row.Given as goal

abbrev pub invariant-loop-v : goal.invariant-loop-v
invariant-loop-v l = ArePairsTo l.x.n (is_marked l.side) (is_chosen l.x.entries l.turned) (l.u, l.v) l.pairs.items
