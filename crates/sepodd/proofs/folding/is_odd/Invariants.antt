use Rattle.std.proofs.Common.{length, ◌≡◌}
use Rattle.sepodd.specs.Folding.{differ, is_odd}
use Rattle.sepodd.specs.Sides.{is_marked}
use Rattle.sepodd.proofs.folding.is_odd.Given as goal

abbrev pub invariant-loop-entry : goal.invariant-loop-entry
invariant-loop-entry l = differ l.odd (is_odd l.rest (is_marked l.marks)) ≡ is_odd l.entries (is_marked l.marks)

abbrev pub decreases-loop-entry : goal.decreases-loop-entry
decreases-loop-entry l = length l.rest
