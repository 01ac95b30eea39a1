use Rattle.std.proofs.Common.{◌≡◌, true, drop}
use Rattle.tspdef.specs.Sets.{has}
use Rattle.cyc.proofs.tour.place_of_home.Given as goal

abbrev pub invariant-loop-place : goal.invariant-loop-place
invariant-loop-place l = has (drop l.place l.cities) 0 ≡ true
