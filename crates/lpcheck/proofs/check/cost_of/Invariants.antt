use Rattle.std.proofs.Common.{◌≡◌, ◌+◌, ◌*◌, ◌^◌, ◌≤◌, drop}
use Rattle.lpcheck.specs.Answers.{cost}
use Rattle.lpcheck.proofs.check.cost_of.Given as goal

abbrev pub invariant-loop-at : goal.invariant-loop-at
invariant-loop-at l = record {
  so_far : l.total + cost (drop l.at l.cols) (drop l.at l.xs) ≡ cost l.cols l.xs;
  most : l.total ≤ 2 ^ 64 * l.at;
}
