use Rattle.std.proofs.Common.{◌≡◌, ◌+◌, ◌*◌, ◌^◌, ◌≤◌, length}
use Rattle.std.specs.List.{AllByRecursion}
use Rattle.tspdef.specs.Closings.{IsDualSize}
use Rattle.tspdef.specs.Cuts.{IsCut}
use Rattle.pricer.specs.Weights.{weight}
use Rattle.pricer.proofs.weights.weigh.Given as goal

abbrev pub invariant-loop-q : goal.invariant-loop-q
invariant-loop-q l = record {
  so_far : l.total + weight l.rest ≡ weight l.cuts;
  size : l.total + 2 ^ 62 * 8192 * length l.rest ≤ 2 ^ 62 * 8192 * length l.cuts;
  cuts : AllByRecursion (λ q. IsCut l.n q.0) l.rest;
  sizes : AllByRecursion (λ q. IsDualSize q.1) l.rest;
}

abbrev pub decreases-loop-q : goal.decreases-loop-q
decreases-loop-q l = length l.rest
