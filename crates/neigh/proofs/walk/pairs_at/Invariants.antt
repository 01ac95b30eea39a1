use Rattle.std.proofs.Common.{◌≡◌, ◌≤◌, ◌+◌, drop}
use Rattle.tspdef.specs.Fixed.{pairs_at}
use Rattle.neigh.proofs.walk.pairs_at.Given as goal

abbrev pub invariant-loop-pair : goal.invariant-loop-pair
invariant-loop-pair l = record {
  count : l.count + pairs_at (drop l.pair-index l.pairs) l.city ≡ pairs_at l.pairs l.city;
  few : l.count ≤ l.pair-index;
}
