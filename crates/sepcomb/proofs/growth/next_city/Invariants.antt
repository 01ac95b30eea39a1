use Rattle.std.proofs.Common.{◌≡◌, None, drop}
use Rattle.sepcomb.specs.Growth.{next_city}
use Rattle.sepcomb.proofs.growth.next_city.Given as goal

abbrev pub invariant-loop-entry : goal.invariant-loop-entry
invariant-loop-entry l = next_city l.handle.cities l.used l.path l.newest l.best (drop l.entry-index l.near) ≡ next_city l.handle.cities l.used l.path l.newest None l._x.entries
