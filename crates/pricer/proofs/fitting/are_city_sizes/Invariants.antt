use Rattle.std.proofs.Common.{◌↔◌, ◌^◌, ◌≤◌, nat_abs, length}
use Rattle.std.specs.List.{AllByRecursion}
use Rattle.pricer.proofs.fitting.are_city_sizes.Given as goal

abbrev pub invariant-loop-y : goal.invariant-loop-y
invariant-loop-y l = AllByRecursion (λ y. nat_abs y ≤ 2 ^ 62) l.city ↔ AllByRecursion (λ y. nat_abs y ≤ 2 ^ 62) l.rest

abbrev pub decreases-loop-y : goal.decreases-loop-y
decreases-loop-y l = length l.rest
