use Rattle.std.proofs.Common.{◌≡◌, ◌≤◌, ℕ, length, map, pos, ◌+ℤ◌}
use Rattle.std.specs.List.{AllByRecursion}
use Rattle.tspdef.specs.Sets.{IsSet}
use Rattle.tspdef.specs.Cuts.{pair_set}
use Rattle.pricer.specs.Prices.{at, laid}
use Rattle.pricer.proofs.light.raise_pairs.Given as goal

abbrev pub invariant-loop-pair : goal.invariant-loop-pair
invariant-loop-pair l = record {
  so_far : (c : ℕ) → at l.numbers c +ℤ laid (pos l.dual) l.holder (map pair_set l.rest) c ≡ at l.initial.numbers c +ℤ laid (pos l.dual) l.holder (map pair_set l.pairs) c;
  sets : AllByRecursion (IsSet (length l.numbers)) (map pair_set l.rest);
  few : length l.rest ≤ length l.pairs;
}

abbrev pub decreases-loop-pair : goal.decreases-loop-pair
decreases-loop-pair l = length l.rest
