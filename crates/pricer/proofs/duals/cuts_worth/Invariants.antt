use Rattle.std.proofs.Common.{◌≡◌, ◌+◌, ◌*◌, ◌^◌, ◌≤◌, length, pos, ◌+ℤ◌}
use Rattle.std.specs.List.{AllByRecursion}
use Rattle.tspdef.specs.Closings.{IsDualSize}
use Rattle.tspdef.specs.Cuts.{IsCut}
use Rattle.tspdef.specs.Bounds as defs
use Rattle.pricer.proofs.duals.cuts_worth.Given as goal

abbrev pub invariant-loop-q : goal.invariant-loop-q
invariant-loop-q l = record {
  so_far : pos l.total +ℤ defs.worth (defs.cut_rows l.rest) ≡ defs.worth (defs.cut_rows l.cuts);
  size : l.total + 2 ^ 62 * 12286 * length l.rest ≤ 2 ^ 62 * 12286 * length l.cuts;
  cuts : AllByRecursion (λ q. IsCut l.n q.0) l.rest;
  sizes : AllByRecursion (λ q. IsDualSize q.1) l.rest;
}

abbrev pub decreases-loop-q : goal.decreases-loop-q
decreases-loop-q l = length l.rest
