use Rattle.std.proofs.Common.{◌≡◌, ◌≤◌, ℕ, length, pos, ◌+ℤ◌}
use Rattle.std.specs.List.{AllByRecursion}
use Rattle.tspdef.specs.Sets.{IsSet}
use Rattle.cutform.specs.Cut.{cities_of_each}
use Rattle.pricer.specs.Prices.{at, laid}
use Rattle.pricer.proofs.light.raise_each.Given as goal

abbrev pub invariant-loop-set : goal.invariant-loop-set
invariant-loop-set l = record {
  so_far : (c : ℕ) → at l.numbers c +ℤ laid (pos l.dual) l.holder (cities_of_each l.rest) c ≡ at l.initial.numbers c +ℤ laid (pos l.dual) l.holder (cities_of_each l.sets) c;
  sets : AllByRecursion (IsSet (length l.numbers)) (cities_of_each l.rest);
  few : length l.rest ≤ length l.sets;
}

abbrev pub decreases-loop-set : goal.decreases-loop-set
decreases-loop-set l = length l.rest
