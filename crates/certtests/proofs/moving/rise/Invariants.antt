use Rattle.std.proofs.Common.{length}
use Rattle.certtests.specs.Moving.{Rise}
use Rattle.certtests.proofs.moving.rise.Given as goal

abbrev pub invariant-loop-first : goal.invariant-loop-first
invariant-loop-first l = Rise l.least l.rest → Rise 1 l.duals

abbrev pub decreases-loop-first : goal.decreases-loop-first
decreases-loop-first l = length l.rest
