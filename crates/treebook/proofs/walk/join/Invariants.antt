use Rattle.std.proofs.Common.{◌≡◌, drop}
use Rattle.tspdef.specs.Tours.{has_step}
use Rattle.treebook.proofs.walk.join.Given as goal

abbrev pub invariant-loop-pair : goal.invariant-loop-pair
invariant-loop-pair l = has_step (drop l.pair-index l.pairs) l.u l.v ≡ has_step l.pairs l.u l.v
