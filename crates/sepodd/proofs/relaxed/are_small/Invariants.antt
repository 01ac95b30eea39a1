use Rattle.std.proofs.Common.{◌≤◌, ◌↔◌, length}
use Rattle.std.specs.List.{AllByRecursion}
use Rattle.sepodd.proofs.relaxed.are_small.Given as goal

abbrev pub invariant-loop-entry : goal.invariant-loop-entry
invariant-loop-entry l = (AllByRecursion (λ e. e.x ≤ 1048576) l.entries) ↔ (AllByRecursion (λ e. e.x ≤ 1048576) l.rest)

abbrev pub decreases-loop-entry : goal.decreases-loop-entry
decreases-loop-entry l = length l.rest
