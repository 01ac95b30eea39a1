use Rattle.std.proofs.Common.{◌≡◌, ◌≤◌, ℕ, length, Some}
use Rattle.std.specs.List.{AllByRecursion}
use Rattle.tspdef.specs.Cuts.{IsCut}
use Rattle.tspdef.specs.Bounds.{cut_rows}
use Rattle.pricer.specs.Marks.{AreMarkedUnless}
use Rattle.pricer.specs.Prices.{held}
use Rattle.pricer.proofs.holding.mark_cuts.Given as goal

abbrev pub invariant-loop-q : goal.invariant-loop-q
invariant-loop-q l = record {
  so_far : AreMarkedUnless l.marks l.initial.marks (λ v. (c : ℕ) → held (Some v) (cut_rows l.cuts) c ≡ held (Some v) (cut_rows l.rest) c);
  cuts : AllByRecursion (λ q. IsCut l.n q.0) l.rest;
  long : l.n ≤ length l.marks;
}

abbrev pub decreases-loop-q : goal.decreases-loop-q
decreases-loop-q l = length l.rest
