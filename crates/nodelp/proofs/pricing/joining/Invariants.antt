use Rattle.std.proofs.Common.{◌<◌, ◌≤◌, length}
use Rattle.std.specs.List.{All}
use Rattle.nodelp.proofs.HoldingLemmas.{IsSoFar}
use Rattle.nodelp.proofs.pricing.joining.Given as goal

abbrev pub invariant-loop-at : goal.invariant-loop-at
invariant-loop-at l = record {
  few : length l.places.items ≤ l.at;
  within : All (λ k. k < length l.rows) l.places.items;
  so_far : IsSoFar l.rows l.ys l.v l.places.items l.at;
}
