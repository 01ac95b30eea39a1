use Rattle.std.proofs.Common.{take}
use Rattle.lpcheck.specs.Rests.{AreDuals}
use Rattle.simplex_cases.proofs.settling.zeros.Given as goal

abbrev pub invariant-loop-at : goal.invariant-loop-at
invariant-loop-at l = AreDuals (take l.at l.rows) l.ys.items
