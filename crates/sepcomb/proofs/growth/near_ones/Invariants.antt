use Rattle.std.proofs.Common.{◌≡◌, ◌++◌, drop}
use Rattle.sepcomb.specs.Growth.{near_ones}
use Rattle.sepcomb.proofs.growth.near_ones.Given as goal

abbrev pub invariant-loop-entry : goal.invariant-loop-entry
invariant-loop-entry l = l.near.items ++ near_ones (drop l.entry-index l.x.entries) ≡ near_ones l.x.entries
