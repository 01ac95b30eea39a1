use Rattle.lpcheck.specs.Rests.{AreDuals}
use Rattle.lpcheck.proofs.leap.further.Given as goal

abbrev pub invariant-loop-at : goal.invariant-loop-at
invariant-loop-at l = AreDuals l.rows l.next.items
