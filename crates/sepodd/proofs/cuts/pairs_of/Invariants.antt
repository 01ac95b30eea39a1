use Rattle.sepodd.specs.Cuts.{ArePairsTo}
use Rattle.sepodd.specs.Sides.{is_marked, is_chosen}
use Rattle.sepodd.proofs.cuts.pairs_of.Given as goal

abbrev pub invariant-loop-u : goal.invariant-loop-u
invariant-loop-u l = ArePairsTo l.n (is_marked l.side) (is_chosen l.x.entries l.turned) (l.u, 0) l.pairs.items
