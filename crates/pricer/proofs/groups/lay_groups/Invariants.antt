use Rattle.std.proofs.Common.{◌≡◌, ◌≤◌, ◌+◌, ◌*◌, ◌-◌, ◌^◌, ℕ, length, ◌+ℤ◌, Some}
use Rattle.std.specs.List.{AllByRecursion}
use Rattle.tspdef.specs.Cuts.{IsCut}
use Rattle.tspdef.specs.Bounds.{cut_rows}
use Rattle.pricer.specs.Sizes.{IsWithin}
use Rattle.pricer.specs.Groups.{AreGrouped}
use Rattle.pricer.specs.Prices.{at, held}
use Rattle.pricer.specs.Weights.{weight}
use Rattle.pricer.proofs.groups.lay_groups.Given as goal

abbrev pub invariant-loop-left : goal.invariant-loop-left
invariant-loop-left l = record {
  so_far : (c : ℕ) → at l.numbers c +ℤ held (Some l.v) (cut_rows l.rest) c ≡ at l.initial.numbers c +ℤ held (Some l.v) (cut_rows l.cuts) c;
  cuts : AllByRecursion (λ q. IsCut l.n q.0) l.rest;
  less : weight l.rest ≤ weight l.cuts;
  size : (c : ℕ) → IsWithin (2 ^ 46 + (weight l.cuts - weight l.rest)) (at l.numbers c);
  room : l.n * l.left ≤ length l.behind;
  groups : AreGrouped l.n l.size l.left l.behind l.rest;
}

abbrev pub decreases-loop-left : goal.decreases-loop-left
decreases-loop-left l = l.left
