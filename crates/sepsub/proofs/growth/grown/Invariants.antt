use Rattle.std.proofs.Common.{◌≡◌, true, cond, length, sum_by}
use Rattle.maxflow.specs.Flows.{is_stop}
use Rattle.sepsub.specs.Growth.{IsFound}
use Rattle.sepsub.proofs.growth.grown.Given as goal

abbrev pub invariant-loop-t : goal.invariant-loop-t
invariant-loop-t l = record {
  size : length l.stops.items ≡ l.network.n;
  home : is_stop l.stops.items 0 ≡ true;
  so_far : IsFound l.network l.stops.items l.found;
}

-- how many cities are no stops
abbrev pub decreases-loop-t : goal.decreases-loop-t
decreases-loop-t l = sum_by (λ b. cond b 0 1) l.stops.items
