use Rattle.std.proofs.Common.{◌≡◌, ℕ, length, map, Some}
use Rattle.std.specs.List.{AllByRecursion}
use Rattle.tspdef.specs.Sets.{IsSet}
use Rattle.tspdef.specs.Cuts.{pair_set}
use Rattle.pricer.specs.Marks.{AreMarkedUnless}
use Rattle.pricer.specs.Prices.{holders}
use Rattle.pricer.proofs.holding.mark_pairs.Given as goal

abbrev pub invariant-loop-pair : goal.invariant-loop-pair
invariant-loop-pair l = record {
  so_far : AreMarkedUnless l.marks l.initial.marks (λ v. (c : ℕ) → holders (Some v) (map pair_set l.pairs) c ≡ holders (Some v) (map pair_set l.rest) c);
  sets : AllByRecursion (IsSet (length l.marks)) (map pair_set l.rest);
}

abbrev pub decreases-loop-pair : goal.decreases-loop-pair
decreases-loop-pair l = length l.rest
