use Rattle.std.proofs.Common.{◌≡◌, ◌+◌, drop, map}
use Rattle.tspdef.specs.Cuts.{pair_set, coefficient}
use Rattle.cutform.proofs.pairs.crossed_pairs.Given as goal

abbrev pub invariant-loop-pair : goal.invariant-loop-pair
invariant-loop-pair l = l.count + coefficient (map pair_set (drop l.pair-index l.pairs)) l.u l.v ≡ coefficient (map pair_set l.pairs) l.u l.v
