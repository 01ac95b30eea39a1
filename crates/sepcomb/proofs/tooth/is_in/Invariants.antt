use Rattle.std.proofs.Common.{◌≡◌, drop}
use Rattle.tspdef.specs.Sets.{has}
use Rattle.sepcomb.proofs.tooth.is_in.Given as goal

abbrev pub invariant-loop-other : goal.invariant-loop-other
invariant-loop-other l = has (drop l.other-index l.cities) l.city ≡ has l.cities l.city
