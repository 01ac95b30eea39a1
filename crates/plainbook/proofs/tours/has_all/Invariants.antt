use Rattle.std.proofs.Common.{take}
use Rattle.tspdef.specs.Tours as defs
use Rattle.tspdef.specs.Fixed.{AreSteps}
use Rattle.plainbook.proofs.tours.has_all.Given as goal

abbrev pub invariant-loop-i : goal.invariant-loop-i
invariant-loop-i l = AreSteps (defs.steps l.cities) (take l.i l.pairs)
