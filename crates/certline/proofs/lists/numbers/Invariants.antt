use Rattle.std.proofs.Common.{length}
use Rattle.certline.proofs.Runs.{NumbersRead}
use Rattle.certline.proofs.lists.numbers.Given as goal

abbrev pub invariant-loop-rest : goal.invariant-loop-rest
invariant-loop-rest l = NumbersRead l.tail l.rest l.numbers.items

abbrev pub decreases-loop-rest : goal.decreases-loop-rest
decreases-loop-rest l = length l.rest
