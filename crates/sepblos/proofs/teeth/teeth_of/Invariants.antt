use Rattle.std.proofs.Common.{◌≡◌, ◌++◌, drop}
use Rattle.cutform.specs.Cut.{cities_of_each}
use Rattle.sepblos.specs.Blossoms.{teeth_of}
use Rattle.sepblos.proofs.teeth.teeth_of.Given as goal

abbrev pub invariant-loop-entry : goal.invariant-loop-entry
invariant-loop-entry l = cities_of_each l.teeth.items ++ teeth_of (drop l.entry-index l.x.entries) l.handle.cities ≡ teeth_of l.x.entries l.handle.cities
