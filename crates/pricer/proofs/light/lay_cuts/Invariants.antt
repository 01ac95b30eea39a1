use Rattle.std.proofs.Common.{◌≡◌, ◌≤◌, ◌^◌, ℕ, length, ◌+ℤ◌}
use Rattle.std.specs.List.{AllByRecursion}
use Rattle.tspdef.specs.Cuts.{IsCut}
use Rattle.tspdef.specs.Bounds.{cut_rows}
use Rattle.pricer.specs.Prices.{at, held}
use Rattle.pricer.specs.Weights.{weight}
use Rattle.pricer.proofs.light.lay_cuts.Given as goal

abbrev pub invariant-loop-q : goal.invariant-loop-q
invariant-loop-q l = record {
  so_far : (c : ℕ) → at l.numbers c +ℤ held l.holder (cut_rows l.rest) c ≡ at l.initial.numbers c +ℤ held l.holder (cut_rows l.cuts) c;
  cuts : AllByRecursion (λ q. IsCut l.n q.0) l.rest;
  light : weight l.rest ≤ 2 ^ 46;
}

abbrev pub decreases-loop-q : goal.decreases-loop-q
decreases-loop-q l = length l.rest
