use Rattle.std.proofs.Common.{◌≡◌, ℕ, length, Some}
use Rattle.std.specs.List.{AllByRecursion}
use Rattle.tspdef.specs.Sets.{IsSet}
use Rattle.cutform.specs.Cut.{cities_of_each}
use Rattle.pricer.specs.Marks.{AreMarkedUnless}
use Rattle.pricer.specs.Prices.{holders}
use Rattle.pricer.proofs.holding.mark_sets.Given as goal

abbrev pub invariant-loop-set : goal.invariant-loop-set
invariant-loop-set l = record {
  so_far : AreMarkedUnless l.marks l.initial.marks (λ v. (c : ℕ) → holders (Some v) (cities_of_each l.sets) c ≡ holders (Some v) (cities_of_each l.rest) c);
  sets : AllByRecursion (IsSet (length l.marks)) (cities_of_each l.rest);
}

abbrev pub decreases-loop-set : goal.decreases-loop-set
decreases-loop-set l = length l.rest
