use Rattle.std.proofs.Common.{◌-◌, ◌*◌, ◌^◌, ◌<◌, ◌≤◌}
use Rattle.distx.proofs.root.below.Given as goal

abbrev pub invariant-down : goal.invariant-down
invariant-down l = l.k < 2 ^ 31

abbrev pub decreases-down : goal.decreases-down
decreases-down l = l.k

abbrev pub invariant-up : goal.invariant-up
invariant-up l = (l.k < 2 ^ 31) × (l.k * l.k ≤ l.s)

abbrev pub decreases-up : goal.decreases-up
decreases-up l = l.s - l.k
