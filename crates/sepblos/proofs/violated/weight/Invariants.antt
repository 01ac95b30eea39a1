use Rattle.std.proofs.Common.{◌≡◌, take}
use Rattle.tspdef.specs.Cuts.{sets_of}
use Rattle.sepblos.proofs.WeightLemmas.{weight_of}
use Rattle.sepblos.proofs.violated.weight.Given as goal

abbrev pub invariant-loop-entry : goal.invariant-loop-entry
invariant-loop-entry l = l.weight ≡ weight_of (take l.entry-index l.x.entries) (sets_of l.cut)
