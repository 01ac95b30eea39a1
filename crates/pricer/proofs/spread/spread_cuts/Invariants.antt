use Rattle.std.proofs.Common.{◌≡◌, ◌≤◌, ℕ, length, ◌+ℤ◌}
use Rattle.std.specs.List.{AllByRecursion}
use Rattle.tspdef.specs.Cuts.{IsCut}
use Rattle.tspdef.specs.Closings.{IsDualSize}
use Rattle.tspdef.specs.Bounds.{cut_rows}
use Rattle.pricer.specs.Prices.{at, held}
use Rattle.pricer.proofs.spread.spread_cuts.Given as goal

abbrev pub invariant-loop-q : goal.invariant-loop-q
invariant-loop-q l = record {
  so_far : (c : ℕ) → at l.numbers c +ℤ held l.holder (cut_rows l.rest) c ≡ at l.initial.numbers c +ℤ held l.holder (cut_rows l.cuts) c;
  cuts : AllByRecursion (λ q. IsCut l.n q.0) l.rest;
  sizes : AllByRecursion (λ q. IsDualSize q.1) l.rest;
  few : length l.rest ≤ length l.cuts;
}

abbrev pub decreases-loop-q : goal.decreases-loop-q
decreases-loop-q l = length l.rest
