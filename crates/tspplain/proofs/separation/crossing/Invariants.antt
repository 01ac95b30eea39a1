use Rattle.std.proofs.Common.{◌≡◌, take}
use Rattle.tspplain.specs.Crossings.{crossing_of}
use Rattle.tspplain.proofs.separation.crossing.Given as goal

abbrev pub invariant-loop-entry : goal.invariant-loop-entry
invariant-loop-entry l = l.sum ≡ crossing_of (take l.entry-index l.entry-items) l.set
